-- The multiples of a number below another.
use Rattle.std.proofs.Common.{◌≡◌, ◌⊎◌, inl, inr, ℕ, zero, suc, ◌+◌, ◌*◌, ◌/◌, ◌%◌, ◌<◌, ◌≤◌, min, Bool, true, false, cond, [], ◌∷◌, ◌++◌, map, refl, ap, sym, subst, ◌∙◌, arith}
use Rattle.std.specs.Int.{div_ceil}
use Rattle.std.specs.List.{filter, range_with_len}
use Rattle.std.proofs.lemmas.Bool.{cases_lt}
use Rattle.std.proofs.lemmas.Bool.Decides.{nat_tests}
use Rattle.std.proofs.lemmas.Grind.{div_ceil_times}
use Rattle.std.proofs.lemmas.List.{append-nil}
use Rattle.std.proofs.lemmas.List.FromFn.{map-range_with_len_more}
use Rattle.std.proofs.lemmas.Nat.{div-mul-add, mod-mul-add, div-add-mod', mod_below, mul-le}
use Rattle.std.proofs.Math.Nat.{zero-div, zero-mod}
use Rattle.mp_base.proofs.Ranges.{filter-range_more}
use Rattle.multigrid.specs.Levels.{is_multiple}

module _ (m : ℕ) (some : 1 ≤ m) where
  ceil-zero : div_ceil 0 m ≡ 0
  ceil-zero = omega (arith, zero-div m, zero-mod m)

  at_parts : (q r : ℕ) → r < m → (q * m + r) / m + min 1 ((q * m + r) % m) ≡ q + min 1 r
  at_parts q r below = omega (arith, div-mul-add q m r below, mod-mul-add q m r below)

  -- one more than n is in the step after that of n
  ceil-more : (n : ℕ) → div_ceil (n + 1) m ≡ n / m + 1
  ceil-more n = go (cases_lt (n % m + 1) m)
    where
      parts : n / m * m + n % m ≡ n
      parts = div-add-mod' n m

      go : ((n % m + 1 < m) ⊎ (m ≤ n % m + 1)) → div_ceil (n + 1) m ≡ n / m + 1
      go (inl below) =
          let is : n / m * m + (n % m + 1) ≡ n + 1 = omega (arith, parts) in
          let step = subst (λ k. k / m + min 1 (k % m) ≡ n / m + min 1 (n % m + 1)) is (at_parts (n / m) (n % m + 1) below) in
          omega (arith, step)
      go (inr whole) =
          let is : (n / m + 1) * m + 0 ≡ n + 1 = omega (arith, parts, whole, mod_below n m (omega arith)) in
          let step = subst (λ k. k / m + min 1 (k % m) ≡ n / m + 1 + min 1 0) is (at_parts (n / m + 1) 0 (omega arith)) in
          omega (arith, step)

  yes : (n : ℕ) → is_multiple m n ≡ true → n % m ≡ 0
  yes n e = grind (arith, nat_tests)

  no : (n : ℕ) → is_multiple m n ≡ false → 1 ≤ n % m
  no n e = grind (arith, nat_tests)

  pub filter-multiples : (n : ℕ) → filter (is_multiple m) (range_with_len 0 n) ≡ map (λ i. i * m) (range_with_len 0 (div_ceil n m))
  filter-multiples zero = ap (λ k. map (λ i. i * m) (range_with_len 0 k)) (sym ceil-zero)
  filter-multiples (suc n) =
      let one : suc n ≡ n + 1 = omega arith in
      ap (λ k. filter (is_multiple m) (range_with_len 0 k)) one ∙ filter-range_more (is_multiple m) n ∙ ap (λ l. l ++ cond (is_multiple m n) (n ∷ []) []) (filter-multiples n) ∙ go (is_multiple m n) refl ∙ ap (λ k. map (λ i. i * m) (range_with_len 0 (div_ceil k m))) (sym one)
    where
      last : n % m ≡ 0 → n / m * m ≡ n
      last none = omega (arith, none, div-add-mod' n m)

      go : (b : Bool) → is_multiple m n ≡ b → map (λ i. i * m) (range_with_len 0 (div_ceil n m)) ++ cond b (n ∷ []) [] ≡ map (λ i. i * m) (range_with_len 0 (div_ceil (n + 1) m))
      go true e =
          let here : div_ceil n m ≡ n / m = omega (arith, yes n e) in
          ap (λ k. map (λ i. i * m) (range_with_len 0 k) ++ n ∷ []) here
          ∙ ap (λ k. map (λ i. i * m) (range_with_len 0 (n / m)) ++ k ∷ []) (sym (last (yes n e)))
          ∙ sym (map-range_with_len_more (λ i. i * m) 0 (n / m) (n / m) (omega arith))
          ∙ ap (λ k. map (λ i. i * m) (range_with_len 0 k)) (sym (ceil-more n))
      go false e =
          let here : div_ceil n m ≡ n / m + 1 = omega (arith, no n e) in
          append-nil (map (λ i. i * m) (range_with_len 0 (div_ceil n m))) ∙ ap (λ k. map (λ i. i * m) (range_with_len 0 k)) (here ∙ sym (ceil-more n))

  -- each of the steps begins below n
  pub step_below : (n i : ℕ) → i < div_ceil n m → i * m < n
  step_below n i within = omega (arith, (div_ceil_times n m (omega arith)).1, mul-le (i + 1) m (div_ceil n m) m (omega (arith, within)) (omega arith), more)
    where
      more : (i + 1) * m ≡ i * m + m
      more = omega arith

  -- no more steps than n
  pub ceil-le : (n : ℕ) → div_ceil n m ≤ n
  ceil-le n = omega (arith, div-add-mod' n m, mul-le (n / m) 1 (n / m) m (omega arith) some)
