-- The cells of a grid that pass a test on each axis, row by row.
use Rattle.std.proofs.Common.{◌≡◌, ℕ, zero, suc, ◌+◌, ◌*◌, ◌<◌, Bool, true, false, ◌&&◌, cond, List, [], ◌∷◌, ◌++◌, map, refl, ap, sym, ◌∙◌, arith}
use Rattle.std.specs.List.{All, filter, flat_map, range_with_len}
use Rattle.std.proofs.lemmas.List.{append-nil, append_assoc}
use Rattle.std.proofs.lemmas.List.Concat.{flat_map-append}
use Rattle.std.proofs.lemmas.List.Elements.{All-head, All-tail, All-weaker, filter-append}
use Rattle.std.proofs.lemmas.List.FromFn.{get_or-range_with_len, length-range_with_len, map-range_with_len_more}
use Rattle.std.proofs.Math.Bool.{and-true, and-false}
use Rattle.mp_base.proofs.Ranges.{range_more, filter-range_more}

pub in_range : (n : ℕ) → All (λ k. k < n) (range_with_len 0 n)
in_range n i d within =
    let below : i < n = omega (arith, within, length-range_with_len 0 n) in
    omega (arith, get_or-range_with_len 0 n i d below)

range_append : (a b : ℕ) → range_with_len 0 (a + b) ≡ range_with_len 0 a ++ map (λ x. x + a) (range_with_len 0 b)
range_append a zero =
    let none : a + 0 ≡ a = omega arith in
    ap (range_with_len 0) none ∙ sym (append-nil (range_with_len 0 a))
range_append a (suc b) =
    let next : a + suc b ≡ (a + b) + 1 = omega arith in
    let one : b + 1 ≡ suc b = omega arith in
    let turned : a + b ≡ b + a = omega arith in
    ap (range_with_len 0) next ∙ range_more (a + b) ∙ ap (λ l. l ++ (a + b) ∷ []) (range_append a b) ∙ append_assoc (range_with_len 0 a) (map (λ x. x + a) (range_with_len 0 b)) ((a + b) ∷ [])
    ∙ ap (λ l. range_with_len 0 a ++ l) (
    ap (λ k. map (λ x. x + a) (range_with_len 0 b) ++ k ∷ []) turned ∙ sym (map-range_with_len_more (λ x. x + a) 0 b b (omega arith)) ∙ ap (λ k. map (λ x. x + a) (range_with_len 0 k)) one
    )

-- a test after a function keeps what a test before it keeps
filter-map : (test p : ℕ → Bool) (f : ℕ → ℕ) (xs : List ℕ) → All (λ x. test (f x) ≡ p x) xs → filter test (map f xs) ≡ map f (filter p xs)
filter-map test p f [] same = refl
filter-map test p f (x ∷ xs) same =
    ap (λ t. cond t (f x ∷ filter test (map f xs)) (filter test (map f xs))) (All-head (λ y. test (f y) ≡ p y) x xs same)
    ∙ go (p x) (filter-map test p f xs (All-tail (λ y. test (f y) ≡ p y) x xs same))
  where
    go : (b : Bool) → filter test (map f xs) ≡ map f (filter p xs) → cond b (f x ∷ filter test (map f xs)) (filter test (map f xs)) ≡ map f (cond b (x ∷ filter p xs) (filter p xs))
    go true rest = ap (λ l. f x ∷ l) rest
    go false rest = rest

filter-none : (test : ℕ → Bool) (f : ℕ → ℕ) (xs : List ℕ) → All (λ x. test (f x) ≡ false) xs → filter test (map f xs) ≡ []
filter-none test f [] none = refl
filter-none test f (x ∷ xs) none =
    ap (λ t. cond t (f x ∷ filter test (map f xs)) (filter test (map f xs))) (All-head (λ y. test (f y) ≡ false) x xs none)
    ∙ filter-none test f xs (All-tail (λ y. test (f y) ≡ false) x xs none)

-- a test of the place in a row and of the row's number
module _ (n : ℕ) (test p q : ℕ → Bool) (both : (x r : ℕ) → x < n → test (x + n * r) ≡ (p x && q r)) where
  abbrev passing : ℕ → List ℕ
  passing r = map (λ x. x + n * r) (filter p (range_with_len 0 n))

  row_is : (r : ℕ) (b : Bool) → q r ≡ b → filter test (map (λ x. x + n * r) (range_with_len 0 n)) ≡ flat_map passing (cond b (r ∷ []) [])
  row_is r true e =
      filter-map test p (λ x. x + n * r) (range_with_len 0 n) (All-weaker (λ x. x < n) (λ x. test (x + n * r) ≡ p x) (λ x below. both x r below ∙ ap (λ b. p x && b) e ∙ and-true (p x)) (range_with_len 0 n) (in_range n))
      ∙ sym (append-nil (passing r))
  row_is r false e =
      filter-none test (λ x. x + n * r) (range_with_len 0 n) (All-weaker (λ x. x < n) (λ x. test (x + n * r) ≡ false) (λ x below. both x r below ∙ ap (λ b. p x && b) e ∙ and-false (p x)) (range_with_len 0 n) (in_range n))

  pub filter-rows : (m : ℕ) → filter test (range_with_len 0 (n * m)) ≡ flat_map (λ r. map (λ x. x + n * r) (filter p (range_with_len 0 n))) (filter q (range_with_len 0 m))
  filter-rows zero =
      let none : n * 0 ≡ 0 = omega arith in
      ap (λ k. filter test (range_with_len 0 k)) none
  filter-rows (suc m) =
      let whole : n * suc m ≡ n * m + n = omega arith in
      let one : m + 1 ≡ suc m = omega arith in
      ap (λ k. filter test (range_with_len 0 k)) whole
      ∙ ap (filter test) (range_append (n * m) n)
      ∙ filter-append test (range_with_len 0 (n * m)) (map (λ x. x + n * m) (range_with_len 0 n))
      ∙ ap (λ l. l ++ filter test (map (λ x. x + n * m) (range_with_len 0 n))) (filter-rows m)
      ∙ ap (λ l. flat_map passing (filter q (range_with_len 0 m)) ++ l) (row_is m (q m) refl)
      ∙ sym (flat_map-append passing (filter q (range_with_len 0 m)) (cond (q m) (m ∷ []) []))
      ∙ ap (flat_map passing) (sym (filter-range_more q m))
      ∙ ap (λ k. flat_map passing (filter q (range_with_len 0 k))) one
