-- Sums of weights.
use Rattle.std.proofs.Common.{◌≡◌, ℕ, suc, ◌+◌, ◌-◌, ◌*◌, ◌^◌, ◌<◌, ◌≤◌, List, [], ◌∷◌, length, map, take, nat_lt, subst, refl, ap, sym, ◌∙◌, arith, slice_index, get_or, cond, Bool, true, false, ◌==◌}
use Rattle.std.proofs.Math.Nat.{mul-le-mul, mul-le-mul_right}
use Rattle.std.proofs.lemmas.Bool.Decides.{nat_tests}
use Rattle.std.specs.List.{sum, sum_by, range_with_len}
use Rattle.std.proofs.lemmas.List.Sums.{sum-map, sum_by-le-sum_by, sum_by-cons, position_or_len_is, sum_by-take-le}
use Rattle.std.proofs.lemmas.List.{take-take}
use Rattle.std.proofs.lemmas.List.FromFn.{fill_by_all, length-range_with_len, get_or-range_with_len}
use Rattle.servo_fraction.specs.Weights.{weight, weights_of, pick_of, scaled, up_to}

-- what is added before the subtraction
abbrev pub raised : ℕ → ℕ → ℕ → ℕ → ℕ → ℕ → ℕ
raised C S N servo c t = c * S * N * (1000 - servo) + servo * C * (t * N)

pub raised-small : (C S N servo c t : ℕ) → C ≤ 2 ^ 20 → S ≤ 2 ^ 20 → N ≤ 2 ^ 20 → servo ≤ 999 → c ≤ C → t ≤ S → raised C S N servo c t ≤ 2 ^ 60 * 1000 + 2 ^ 60 * 999
raised-small C S N servo c t hC hS hN hs hc ht =
    omega (
      arith,
      mul-le-mul {n₁ = c * S * N} {m₁ = 1000 - servo} {n₂ = 2 ^ 60} {m₂ = 1000} (mul-le-mul {n₁ = c * S} {m₁ = N} {n₂ = 2 ^ 40} {m₂ = 2 ^ 20} (mul-le-mul {n₁ = c} {m₁ = S} {n₂ = 2 ^ 20} {m₂ = 2 ^ 20} (omega arith) hS) hN) (omega arith),
      mul-le-mul {n₁ = servo * C} {m₁ = t * N} {n₂ = 999 * 2 ^ 20} {m₂ = 2 ^ 40} (mul-le-mul {n₁ = servo} {m₁ = C} {n₂ = 999} {m₂ = 2 ^ 20} hs hC) (mul-le-mul {n₁ = t} {m₁ = N} {n₂ = 2 ^ 20} {m₂ = 2 ^ 20} (omega arith) hN),
    )

pub weight-small : (C S N servo c t n : ℕ) → C ≤ 2 ^ 20 → S ≤ 2 ^ 20 → N ≤ 2 ^ 20 → servo ≤ 999 → c ≤ C → t ≤ S → weight C S N servo c t n ≤ 2 ^ 61 * 1000
weight-small C S N servo c t n hC hS hN hs hc ht =
    let small : raised C S N servo c t ≤ 2 ^ 60 * 1000 + 2 ^ 60 * 999 = raised-small C S N servo c t hC hS hN hs hc ht in
    elim (N == 0) as (λ b. cond b c (raised C S N servo c t - servo * C * (n * S)) ≤ 2 ^ 61 * 1000) [ true ↦ omega arith | false ↦ omega arith ]

-- the sum of differences is at least the difference of the sums
pub sum_by-sub : (f g : ℕ → ℕ) (ks : List ℕ) → sum_by f ks - sum_by g ks ≤ sum_by (λ k. f k - g k) ks
sum_by-sub f g [] = omega arith
sum_by-sub f g (k ∷ ks) = omega (arith, sum_by-sub f g ks, sum_by-cons f k ks, sum_by-cons g k ks, sum_by-cons (λ k. f k - g k) k ks)

-- a sum of two multiples
pub sum_by-linear : (a b : ℕ) (f g h : ℕ → ℕ) → ((k : ℕ) → h k ≡ a * f k + b * g k) → (ks : List ℕ) → sum_by h ks ≡ a * sum_by f ks + b * sum_by g ks
sum_by-linear a b f g h each [] = omega arith
sum_by-linear a b f g h each (k ∷ ks) = rw (sum_by-cons f k ks, sum_by-cons g k ks, sum_by-cons h k ks, sum_by-linear a b f g h each ks, each k) (omega arith)

-- a list is its items by index
pub map-index : (xs : List ℕ) → map (λ k. slice_index xs k) (range_with_len 0 (length xs)) ≡ xs
map-index xs = sym (fill_by_all (λ k. slice_index xs k) xs (length xs) 0 refl (λ k in_list. refl))

pub sum_by-index : (xs : List ℕ) (n : ℕ) → length xs ≡ n → sum_by (λ k. slice_index xs k) (range_with_len 0 n) ≡ sum xs
sum_by-index xs n long = rw (← long) (sym (sum-map (λ k. slice_index xs k) (range_with_len 0 (length xs))) ∙ ap sum (map-index xs))

module _ (counts target known : List ℕ) (servo n : ℕ) (c_len : length counts ≡ n) (t_len : length target ≡ n) (k_len : length known ≡ n) where
  abbrev C : ℕ
  C = sum counts

  abbrev S : ℕ
  S = sum target

  abbrev N : ℕ
  N = sum known

  abbrev up : ℕ → ℕ
  up k = raised C S N servo (slice_index counts k) (slice_index target k)

  abbrev down : ℕ → ℕ
  down k = servo * C * (slice_index known k * S)

  abbrev ks : List ℕ
  ks = range_with_len 0 n

  sum_up : sum_by up ks ≡ (S * N * (1000 - servo)) * C + (servo * C * N) * S
  sum_up =
      sum_by-linear (S * N * (1000 - servo)) (servo * C * N) (λ k. slice_index counts k) (λ k. slice_index target k) up (λ k. omega arith) ks
      ∙ ap (λ x. S * N * (1000 - servo) * x + servo * C * N * sum_by (λ k. slice_index target k) ks) (sum_by-index counts n c_len)
      ∙ ap (λ x. S * N * (1000 - servo) * C + servo * C * N * x) (sum_by-index target n t_len)

  sum_down : sum_by down ks ≡ (servo * C * S) * N
  sum_down =
      sum_by-linear (servo * C * S) 0 (λ k. slice_index known k) (λ k. 0) down (λ k. omega arith) ks
      ∙ ap (λ x. servo * C * S * x + 0 * sum_by (λ k. 0) ks) (sum_by-index known n k_len) ∙ omega arith

  -- what the categories weigh together, where some node is known, is at least this
  all_but : S * N * (1000 - servo) * C ≤ sum_by (λ k. up k - down k) ks
  all_but = omega (arith, sum_by-sub up down ks, sum_up, sum_down)

  -- the weight of category k, where b tells whether no node is known
  abbrev by_case : Bool → ℕ → ℕ
  by_case b k = cond b (slice_index counts k) (up k - down k)

  some_by_case : 1 ≤ C → 1 ≤ S → servo ≤ 999 → (b : Bool) → (N == 0) ≡ b → 1 ≤ sum_by (by_case b) ks
  some_by_case c_some s_some low true none = omega (arith, sum_by-index counts n c_len)
  some_by_case c_some s_some low false known_some =
      let n_some : 1 ≤ N = grind (arith, nat_tests) in
      omega (
        arith,
        all_but,
        mul-le-mul {n₁ = 1} {m₁ = 1} {n₂ = S * N * (1000 - servo)} {m₂ = C} (mul-le-mul {n₁ = 1} {m₁ = 1} {n₂ = S * N} {m₂ = 1000 - servo} (mul-le-mul {n₁ = 1} {m₁ = 1} {n₂ = S} {m₂ = N} s_some n_some) (omega arith)) c_some,
      )

  pub weights-some : 1 ≤ C → 1 ≤ S → servo ≤ 999 → 1 ≤ sum (weights_of counts target known servo)
  unfolding weights_of
  weights-some c_some s_some low = rw (c_len, sum-map (by_case (N == 0)) ks) (some_by_case c_some s_some low (N == 0) refl)

  small_by_case : C ≤ 2 ^ 20 → S ≤ 2 ^ 20 → N ≤ 2 ^ 20 → servo ≤ 999 → (b : Bool) → sum_by (by_case b) ks ≤ 2 ^ 60 * 1000
  small_by_case c_few s_few n_few low true = omega (arith, sum_by-index counts n c_len)
  small_by_case c_few s_few n_few low false =
      omega (
        arith,
        sum_by-le-sum_by (λ k. up k - down k) up ks (λ k. omega arith),
        sum_up,
        mul-le-mul_right (1000 - servo) all_few,
        mul-le-mul_right servo all_few,
      )
    where
      all_few : S * N * C ≤ 2 ^ 60
      all_few = mul-le-mul {n₁ = S * N} {m₁ = C} {n₂ = 2 ^ 40} {m₂ = 2 ^ 20} (mul-le-mul {n₁ = S} {m₁ = N} {n₂ = 2 ^ 20} {m₂ = 2 ^ 20} s_few n_few) c_few

  pub weights-small : C ≤ 2 ^ 20 → S ≤ 2 ^ 20 → N ≤ 2 ^ 20 → servo ≤ 999 → sum (weights_of counts target known servo) < 2 ^ 72
  unfolding weights_of
  weights-small c_few s_few n_few low = rw (c_len, sum-map (by_case (N == 0)) ks) (omega (arith, small_by_case c_few s_few n_few low (N == 0)))

-- a category is the pick where the point is in its part
pub pick_of_is : (ws : List ℕ) (word k : ℕ) → k < length ws → sum (take k ws) ≤ scaled word (sum ws) → scaled word (sum ws) < sum (take (k + 1) ws) → k ≡ pick_of ws word
unfolding pick_of
pick_of_is ws word k in_list below above =
    sym (position_or_len_is _ (range_with_len 0 (length ws)) k 0 (omega (arith, length-range_with_len 0 (length ws))) (λ j before. fails j before) (λ _. passes))
  where
    passes : nat_lt (scaled word (sum ws)) (up_to ws (get_or (range_with_len 0 (length ws)) k 0)) ≡ true
    passes = grind (arith, nat_tests, get_or-range_with_len 0 (length ws) k 0 in_list)

    fails : (j : ℕ) → j < k → nat_lt (scaled word (sum ws)) (up_to ws (get_or (range_with_len 0 (length ws)) j 0)) ≡ false
    fails j before =
        let within : sum (take (suc j) ws) ≤ sum (take k ws) = subst (λ xs. sum xs ≤ sum (take k ws)) (take-take (suc j) k ws before) (sum_by-take-le (λ x. x) (take k ws) (suc j)) in
        grind (arith, nat_tests, get_or-range_with_len 0 (length ws) j 0 (omega arith))
