-- Tallies, one item after another.
use Rattle.std.proofs.Common.{◌≡◌, ℕ, zero, suc, ◌+◌, ◌<◌, ◌≤◌, ◌==◌, List, [], ◌∷◌, ◌++◌, length, take, get_or, set, replicate, Option, Some, None, cond, refl, ap, sym, ◌∙◌, arith, inl, inr, ◌⊎◌}
use Rattle.std.proofs.Math.Dec.{leb}
use Rattle.std.specs.List.{All, range_with_len, count_by, sum_by, sum}
use Rattle.std.proofs.lemmas.List.{length-set, length-replicate, get_or-replicate, get_or-set_same, get_or-set_other, ext_get_or, take_more}
use Rattle.std.proofs.lemmas.List.Sums.{sum_by_push, sum_by-cons, sum_by-set, sum-map, count_by-le-length}
use Rattle.std.proofs.lemmas.List.FromFn.{length-map-range_with_len, get_or-map-range_with_len}
use Rattle.std.proofs.lemmas.Bool.{cases_eq}
use Rattle.std.proofs.lemmas.Bool.Decides.{nat_tests}
use Rattle.mp_base.specs.Grid.{cat_of, IsBelow}
use Rattle.mp_base.specs.Counts.{is_cat, one_more, tally}

module _ {X : Type 0} (cat : X → Option ℕ) where
  abbrev count : List X → ℕ → ℕ
  count xs k = count_by (λ x. is_cat (cat x) k) xs

  pub length-tally : (n : ℕ) (xs : List X) → length (tally cat n xs) ≡ n
  unfolding tally
  length-tally n xs = length-map-range_with_len (count xs) 0 n

  pub get_or-tally : (n : ℕ) (xs : List X) (k : ℕ) → k < n → get_or (tally cat n xs) k 0 ≡ count_by (λ x. is_cat (cat x) k) xs
  unfolding tally
  get_or-tally n xs k below = get_or-map-range_with_len (count xs) 0 n k k 0 below (omega arith)

  pub tally_none : (n : ℕ) → tally cat n [] ≡ replicate n 0
  tally_none n = ext_get_or 0 _ _ (omega (arith, length-tally n [], length-replicate {A = ℕ} n 0)) (λ k in_list. at_zero k (omega (arith, length-tally n [])))
    where
      at_zero : (k : ℕ) → k < n → get_or (tally cat n []) k 0 ≡ get_or (replicate n 0) k 0
      at_zero k below = get_or-tally n [] k below ∙ sym (get_or-replicate n k 0 0 below)

  count-push : (xs : List X) (x : X) (k : ℕ) → count (xs ++ x ∷ []) k ≡ count xs k + cond (is_cat (cat x) k) 1 0
  count-push xs x k = sum_by_push (λ y. cond (is_cat (cat y) k) 1 0) xs x

  pub tally_push_none : (n : ℕ) (xs : List X) (x : X) → cat x ≡ None → tally cat n (xs ++ x ∷ []) ≡ tally cat n xs
  tally_push_none n xs x is = ext_get_or 0 _ _ (omega (arith, length-tally n xs, length-tally n (xs ++ x ∷ []))) (λ k in_list. same k (omega (arith, length-tally n (xs ++ x ∷ []))))
    where
      same : (k : ℕ) → k < n → get_or (tally cat n (xs ++ x ∷ [])) k 0 ≡ get_or (tally cat n xs) k 0
      same k below =
          get_or-tally n (xs ++ x ∷ []) k below ∙ count-push xs x k ∙ ap (λ v. count xs k + cond (is_cat v k) 1 0) is ∙ omega arith
          ∙ sym (get_or-tally n xs k below)

  pub tally_push_some : (n : ℕ) (xs : List X) (x : X) (j : ℕ) → cat x ≡ Some j → j < n → tally cat n (xs ++ x ∷ []) ≡ one_more (tally cat n xs) j
  tally_push_some n xs x j is small = ext_get_or 0 _ _ (omega (arith, length-tally n xs, length-tally n (xs ++ x ∷ []), length-set (tally cat n xs) j (get_or (tally cat n xs) j 0 + 1))) (λ k in_list. each k (omega (arith, length-tally n (xs ++ x ∷ []))))
    where
      lhs : (k : ℕ) → k < n → get_or (tally cat n (xs ++ x ∷ [])) k 0 ≡ get_or (tally cat n xs) k 0 + cond (j == k) 1 0
      lhs k below =
          get_or-tally n (xs ++ x ∷ []) k below ∙ count-push xs x k ∙ ap (λ v. count xs k + cond (is_cat v k) 1 0) is
          ∙ ap (λ m. m + cond (j == k) 1 0) (sym (get_or-tally n xs k below))

      each : (k : ℕ) → k < n → get_or (tally cat n (xs ++ x ∷ [])) k 0 ≡ get_or (one_more (tally cat n xs) j) k 0
      each k below = elim (cases_eq k j) [
        | inl here ↦
            let one : cond (j == k) 1 0 ≡ 1 = grind (arith, nat_tests) in
            lhs k below ∙ ap (λ m. get_or (tally cat n xs) k 0 + m) one ∙ ap (λ m. get_or (tally cat n xs) m 0 + 1) here
            ∙ sym (ap (λ m. get_or (one_more (tally cat n xs) j) m 0) here ∙ get_or-set_same (tally cat n xs) j (get_or (tally cat n xs) j 0 + 1) 0 (omega (arith, length-tally n xs)))
        | inr there ↦
            let none : cond (j == k) 1 0 ≡ 0 = grind (arith, nat_tests) in
            lhs k below ∙ ap (λ m. get_or (tally cat n xs) k 0 + m) none ∙ omega arith ∙ sym (get_or-set_other (tally cat n xs) j k (get_or (tally cat n xs) j 0 + 1) 0 there)
      ]

  pub tally-le-length : (n : ℕ) (xs : List X) (k : ℕ) → k < n → get_or (tally cat n xs) k 0 ≤ length xs
  tally-le-length n xs k below = omega (arith, get_or-tally n xs k below, count_by-le-length (λ x. is_cat (cat x) k) xs)

sum_by-const : (ks : List ℕ) → sum_by (λ (k : ℕ). 0) ks ≡ 0
sum_by-const [] = refl
sum_by-const (k ∷ ks) = omega (arith, sum_by-const ks, sum_by-cons (λ (k : ℕ). 0) k ks)

sum_by-two : (f g h : ℕ → ℕ) → ((k : ℕ) → h k ≡ f k + g k) → (ks : List ℕ) → sum_by h ks ≡ sum_by f ks + sum_by g ks
sum_by-two f g h each [] = omega arith
sum_by-two f g h each (k ∷ ks) = omega (arith, sum_by-two f g h each ks, sum_by-cons f k ks, sum_by-cons g k ks, sum_by-cons h k ks, each k)

-- a number is one of a range once at most
pub once : (j a n : ℕ) → sum_by (λ k. cond (j == k) 1 0) (range_with_len a n) ≤ cond (leb a j) 1 0
once j a zero = omega arith
once j a (suc n) = rw (sum_by-cons (λ k. cond (j == k) 1 0) a (range_with_len (a + 1) n)) (go (cases_eq j a) (once j (a + 1) n))
  where
    go : (j ≡ a) ⊎ (j ≡ a → ⊥) → sum_by (λ k. cond (j == k) 1 0) (range_with_len (a + 1) n) ≤ cond (leb (a + 1) j) 1 0 → cond (j == a) 1 0 + sum_by (λ k. cond (j == k) 1 0) (range_with_len (a + 1) n) ≤ cond (leb a j) 1 0
    go (inl same) rest = grind (arith, nat_tests)
    go (inr other) rest = grind (arith, nat_tests)

module _ {X : Type 0} (cat : X → Option ℕ) where
  once_at : (v : Option ℕ) (n : ℕ) → sum_by (λ k. cond (is_cat v k) 1 0) (range_with_len 0 n) ≤ 1
  once_at (Some j) n = let o = once j 0 n in grind (arith, nat_tests)
  once_at None n = omega (arith, sum_by-const (range_with_len 0 n))

  sum-count-le : (n : ℕ) (xs : List X) → sum_by (λ k. count_by (λ x. is_cat (cat x) k) xs) (range_with_len 0 n) ≤ length xs
  sum-count-le n [] = omega (arith, sum_by-const (range_with_len 0 n))
  sum-count-le n (x ∷ xs) =
      omega (
        arith,
        once_at (cat x) n,
        sum-count-le n xs,
        sum_by-two (λ k. cond (is_cat (cat x) k) 1 0) (λ k. count_by (λ y. is_cat (cat y) k) xs) (λ k. count_by (λ y. is_cat (cat y) k) (x ∷ xs)) (λ k. sum_by-cons (λ y. cond (is_cat (cat y) k) 1 0) x xs) (range_with_len 0 n),
      )

  -- no item counts twice
  pub sum-tally-le : (n : ℕ) (xs : List X) → sum (tally cat n xs) ≤ length xs
  unfolding tally
  sum-tally-le n xs = omega (arith, sum-map (λ k. count_by (λ x. is_cat (cat x) k) xs) (range_with_len 0 n), sum-count-le n xs)

-- one more of category j
one_more_is : (n : ℕ) (ys xs : List ℕ) (j : ℕ) → length ys ≡ n → length xs ≡ n → j < n → ((k : ℕ) → k < n → get_or ys k 0 ≡ get_or xs k 0 + cond (j == k) 1 0) → ys ≡ one_more xs j
one_more_is n ys xs j y_len x_len below each = ext_get_or 0 _ _ (omega (arith, length-set xs j (get_or xs j 0 + 1))) (λ k in_list. same k (omega arith))
  where
    same : (k : ℕ) → k < n → get_or ys k 0 ≡ get_or (one_more xs j) k 0
    same k small = elim (cases_eq k j) [
      | inl here ↦
          let one : cond (j == k) 1 0 ≡ 1 = grind (arith, nat_tests) in
          each k small ∙ ap (λ m. get_or xs k 0 + m) one ∙ ap (λ m. get_or xs m 0 + 1) here
          ∙ sym (ap (λ m. get_or (one_more xs j) m 0) here ∙ get_or-set_same xs j (get_or xs j 0 + 1) 0 (omega arith))
      | inr there ↦
          let none : cond (j == k) 1 0 ≡ 0 = grind (arith, nat_tests) in
          let zero_more : get_or xs k 0 + 0 ≡ get_or xs k 0 = omega arith in
          each k small ∙ ap (λ m. get_or xs k 0 + m) none ∙ zero_more ∙ sym (get_or-set_other xs j k (get_or xs j 0 + 1) 0 there)
    ]

-- a cell that had nothing gets a category
pub tally-set : (n : ℕ) (cells : List (Option ℕ)) (c j : ℕ) → c < length cells → get_or cells c None ≡ None → j < n → tally (λ v. v) n (set cells c (Some j)) ≡ one_more (tally (λ v. v) n cells) j
tally-set n cells c j within none below =
    one_more_is n (tally (λ v. v) n (set cells c (Some j))) (tally (λ v. v) n cells) j (length-tally (λ v. v) n (set cells c (Some j))) (length-tally (λ v. v) n cells) below (λ k small. each k small)
  where
    each : (k : ℕ) → k < n → get_or (tally (λ v. v) n (set cells c (Some j))) k 0 ≡ get_or (tally (λ v. v) n cells) k 0 + cond (j == k) 1 0
    each k small =
        let zero_ : ℕ = 0 in
        let was : cond (is_cat (get_or cells c None) k) 1 0 ≡ zero_ = ap (λ v. cond (is_cat v k) 1 0) none in
        omega (
          arith,
          get_or-tally (λ v. v) n (set cells c (Some j)) k small,
          get_or-tally (λ v. v) n cells k small,
          sum_by-set (λ v. cond (is_cat v k) 1 0) cells c (Some j) None within,
          was,
        )

-- the category of a cell is the item at its number
pub cat_of-get_or : (cells : List (Option ℕ)) (c : ℕ) → cat_of cells c ≡ get_or cells c None
cat_of-get_or [] c = refl
cat_of-get_or (v ∷ cells) zero = same v
  where
    same : (v : Option ℕ) → cat_of (v ∷ cells) zero ≡ v
    same v = refl
cat_of-get_or (v ∷ cells) (suc c) = cat_of-get_or cells c

-- cells one after another
pub tally_take_some : (n : ℕ) (cells : List (Option ℕ)) (i j : ℕ) → i < length cells → cat_of cells i ≡ Some j → j < n → tally (λ v. v) n (take (i + 1) cells) ≡ one_more (tally (λ v. v) n (take i cells)) j
tally_take_some n cells i j in_list is below =
    ap (tally (λ v. v) n) (take_more cells i None in_list) ∙ tally_push_some (λ v. v) n (take i cells) (get_or cells i None) j (sym (cat_of-get_or cells i) ∙ is) below

pub tally_take_none : (n : ℕ) (cells : List (Option ℕ)) (i : ℕ) → i < length cells → cat_of cells i ≡ None → tally (λ v. v) n (take (i + 1) cells) ≡ tally (λ v. v) n (take i cells)
tally_take_none n cells i in_list is =
    ap (tally (λ v. v) n) (take_more cells i None in_list) ∙ tally_push_none (λ v. v) n (take i cells) (get_or cells i None) (sym (cat_of-get_or cells i) ∙ is)

pub cat_of-below : (n : ℕ) (cells : List (Option ℕ)) (c : ℕ) → All (IsBelow n) cells → IsBelow n (cat_of cells c)
cat_of-below n [] c below = tt
cat_of-below n (None ∷ cells) zero below = tt
cat_of-below n (Some k ∷ cells) zero below = below 0 None (omega arith)
cat_of-below n (v ∷ cells) (suc c) below = cat_of-below n cells c (λ i d in_list. below (suc i) d (omega arith))

pub below_if_some : (n : ℕ) (v : Option ℕ) (k : ℕ) → IsBelow n v → v ≡ Some k → k < n
below_if_some n v k below is = rw is at below

-- a number below the end is one of a range once
once_there : (j a n : ℕ) → a ≤ j → j < a + n → sum_by (λ k. cond (j == k) 1 0) (range_with_len a n) ≡ 1
once_there j a zero low high = absurd (omega arith)
once_there j a (suc n) low high = elim (cases_eq j a) [
  | inl same ↦
      let here : cond (j == a) 1 0 ≡ one = grind (arith, nat_tests) in
      let none_later : cond (leb (a + 1) j) 1 0 ≡ nothing = grind (arith, nat_tests) in
      omega (arith, sum_by-cons (λ k. cond (j == k) 1 0) a (range_with_len (a + 1) n), here, none_later, once j (a + 1) n)
  | inr other ↦
      let not_here : cond (j == a) 1 0 ≡ nothing = grind (arith, nat_tests) in
      omega (arith, sum_by-cons (λ k. cond (j == k) 1 0) a (range_with_len (a + 1) n), not_here, once_there j (a + 1) n (omega arith) (omega arith))
]
  where
    one : ℕ
    one = 1

    nothing : ℕ
    nothing = 0

module _ {X : Type 0} (cat : X → Option ℕ) where
  -- each has a category below n
  abbrev pub Each : ℕ → List X → Type 0
  Each n [] = Unit {0}
  Each n (x ∷ xs) = ((k : ℕ) × (cat x ≡ Some k) × (k < n)) × Each n xs

  sum-count_is : (n : ℕ) (xs : List X) → Each n xs → sum_by (λ k. count_by (λ x. is_cat (cat x) k) xs) (range_with_len 0 n) ≡ length xs
  sum-count_is n [] each = sum_by-const (range_with_len 0 n)
  sum-count_is n (x ∷ xs) each =
      omega (
        arith,
        ap (λ v. sum_by (λ k. cond (is_cat v k) 1 0) (range_with_len 0 n)) each.0.1 ∙ once_there each.0.0 0 n (omega arith) (omega (arith, each.0.2)),
        sum-count_is n xs each.1,
        sum_by-two (λ k. cond (is_cat (cat x) k) 1 0) (λ k. count_by (λ y. is_cat (cat y) k) xs) (λ k. count_by (λ y. is_cat (cat y) k) (x ∷ xs)) (λ k. sum_by-cons (λ y. cond (is_cat (cat y) k) 1 0) x xs) (range_with_len 0 n),
      )

  pub sum-tally_is : (n : ℕ) (xs : List X) → Each n xs → sum (tally cat n xs) ≡ length xs
  unfolding tally
  sum-tally_is n xs each = sum-map (λ k. count_by (λ x. is_cat (cat x) k) xs) (range_with_len 0 n) ∙ sum-count_is n xs each
