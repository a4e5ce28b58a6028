-- The rows of a tally from one on are the patterns that have all data of a prefix.
use Rattle.std.proofs.Common.{◌≡◌, ℕ, zero, suc, ◌+◌, ◌-◌, ◌*◌, ◌≤◌, ◌==◌, Bool, true, false, cond, ◌&&◌, nat_le, List, [], ◌∷◌, length, take, refl, ap, sym, ◌∙◌, inl, inr, arith}
use Rattle.std.specs.List.{list_all, prefix_len, range_with_len, sum_by}
use Rattle.std.proofs.lemmas.Bool.{cases_eq}
use Rattle.std.proofs.lemmas.Bool.Decides.{nat_tests}
use Rattle.ti_scan.specs.declared.event.Datum.{Datum}
use Rattle.pattern_blocks.specs.Rows.{BitRows, has, matched}
use Rattle.pattern_blocks.specs.Planes.{PlaneRows}
use Rattle.pattern_blocks.specs.Tally.{block_gain, number_of}
use Rattle.pattern_blocks.proofs.Matching.{matched-le}
use Rattle.pattern_blocks.proofs.Sums.{sum-same, sum-three, sum-zeros}
use Rattle.pattern_store.specs.Gains.{blocks_gain, group_gain, store_gain}
use Rattle.pattern_store.specs.Longest.{rows_from}
use Rattle.pattern_store.specs.Holding.{holders}
use Rattle.pattern_store.proofs.RowSums.{rows_more, rows_none}

nothing : (m : ℕ) → nat_le 0 m ≡ true
nothing m = grind (arith, nat_tests)

-- the first len data are had exactly where so many of the first are had
prefix-test : {X : Type 0} (p : X → Bool) (xs : List X) (len : ℕ) → len ≤ length xs → nat_le len (prefix_len p xs) ≡ list_all p (take len xs)
prefix-test p xs zero within = nothing (prefix_len p xs)
prefix-test p [] (suc len) within = absurd (omega arith)
prefix-test p (x ∷ xs) (suc len) within = step (p x) (prefix-test p xs len (omega arith))
  where
    more : (m : ℕ) → nat_le (suc len) (1 + m) ≡ nat_le len m
    more m = grind (arith, nat_tests)

    none : nat_le (suc len) 0 ≡ false
    none = grind (arith, nat_tests)

    step : (b : Bool) → nat_le len (prefix_len p xs) ≡ list_all p (take len xs) → nat_le (suc len) (cond b (1 + prefix_len p xs) 0) ≡ (b && list_all p (take len xs))
    step true rest = more (prefix_len p xs) ∙ rest
    step false rest = none

split : (m row g : ℕ) → cond (nat_le row m) g 0 ≡ cond (m == row) g 0 + cond (nat_le (row + 1) m) g 0 + 0
split m row g = elim (cases_eq m row) [
  | inl same ↦
      let a : nat_le row m ≡ true = grind (arith, nat_tests) in
      let b : (m == row) ≡ true = grind (arith, nat_tests) in
      let c : nat_le (row + 1) m ≡ false = grind (arith, nat_tests) in
      ap (λ t. cond t g 0) a ∙ omega arith ∙ sym (ap (λ t. cond t g 0 + cond (nat_le (row + 1) m) g 0 + 0) b ∙ ap (λ t. g + cond t g 0 + 0) c)
  | inr other ↦
      let b : (m == row) ≡ false = grind (arith, nat_tests) in
      let c : nat_le (row + 1) m ≡ nat_le row m = grind (arith, nat_tests) in
      ap (λ t. cond t g 0) (sym c) ∙ omega arith ∙ sym (ap (λ t. cond t g 0 + cond (nat_le (row + 1) m) g 0 + 0) b)
]

module _ (shown : BitRows) (counts : PlaneRows) (event : List Datum) where
  at_least : ℕ → ℕ → ℕ → ℕ → ℕ
  at_least row k b u = cond (nat_le row (matched shown b event u)) (number_of counts shown.cats b k u) 0

  block_from : ℕ → ℕ → ℕ → ℕ
  block_from row k b = sum_by (at_least row k b) (range_with_len 0 64)

  group_from : ℕ → ℕ → ℕ → ℕ
  group_from row k g = sum_by (λ s. block_from row k (g * 64 + s)) (range_with_len 0 64)

  all_from : ℕ → ℕ → ℕ → ℕ
  all_from n row k = sum_by (group_from row k) (range_with_len 0 n)

  zero-sum : sum_by (λ (x : ℕ). 0) (range_with_len 0 64) ≡ 0
  zero-sum = sum-zeros (λ (x : ℕ). 0) 0 64 (λ s low high. refl)

  block-step : (row k b : ℕ) → block_from row k b ≡ block_gain shown counts b event row k + block_from (row + 1) k b
  unfolding block_from at_least block_gain
  block-step row k b =
      omega (
        arith,
        sum-three (λ u. cond (matched shown b event u == row) (number_of counts shown.cats b k u) 0) (at_least (row + 1) k b) (λ u. 0) (at_least row k b) 0 64 (λ u low high. split (matched shown b event u) row (number_of counts shown.cats b k u)),
        zero-sum,
      )

  group-step : (row k g : ℕ) → group_from row k g ≡ group_gain shown counts g event row k + group_from (row + 1) k g
  unfolding group_from blocks_gain
  group-step row k g =
      omega (
        arith,
        sum-three (λ s. block_gain shown counts (g * 64 + s) event row k) (λ s. block_from (row + 1) k (g * 64 + s)) (λ s. 0) (λ s. block_from row k (g * 64 + s)) 0 64 (λ s low high. omega (arith, block-step row k (g * 64 + s))),
        zero-sum,
      )

  all-step : (n row k : ℕ) → all_from n row k ≡ store_gain shown counts n event row k + all_from n (row + 1) k
  unfolding all_from store_gain
  all-step n row k =
      omega (
        arith,
        sum-three (λ g. group_gain shown counts g event row k) (group_from (row + 1) k) (λ g. 0) (group_from row k) 0 n (λ g low high. omega (arith, group-step row k g)),
        sum-zeros (λ (x : ℕ). 0) 0 n (λ s low high. refl),
      )

  all-none : (n k : ℕ) → all_from n (length event + 1) k ≡ 0
  unfolding all_from group_from block_from at_least
  all-none n k = sum-zeros (group_from (length event + 1) k) 0 n (λ g low high. sum-zeros (λ s. block_from (length event + 1) k (g * 64 + s)) 0 64 (λ s from to. sum-zeros (at_least (length event + 1) k (g * 64 + s)) 0 64 (λ u first last. ap (λ b. cond b (number_of counts shown.cats (g * 64 + s) k u) 0) (beyond (matched shown (g * 64 + s) event u) (matched-le shown (g * 64 + s) event u)))))
    where
      beyond : (m : ℕ) → m ≤ length event → nat_le (length event + 1) m ≡ false
      beyond m le = grind (arith, nat_tests)

  rows-down : (n k back row : ℕ) → row + back ≡ length event + 1 → rows_from shown counts n event row k ≡ all_from n row k
  rows-down n k zero row end =
      let last : row ≡ length event + 1 = omega arith in
      ap (λ r. rows_from shown counts n event r k) last ∙ rows_none shown counts n event k ∙ sym (ap (λ r. all_from n r k) last ∙ all-none n k)
  rows-down n k (suc back) row end = omega (arith, rows_more shown counts n event row k (omega arith), all-step n row k, rows-down n k back (row + 1) (omega arith))

  -- the rows from len on have the numbers of the patterns that have the first len data
  pub rows_are : (n len k : ℕ) → len ≤ length event → rows_from shown counts n event len k ≡ holders shown counts n (take len event) k
  unfolding holders all_from group_from block_from at_least matched
  rows_are n len k within =
      rows-down n k (length event + 1 - len) len (omega arith)
      ∙ sum-same (group_from len k) (λ g. sum_by (λ s. sum_by (λ u. cond (list_all (has shown (g * 64 + s) u) (take len event)) (number_of counts shown.cats (g * 64 + s) k u) 0) (range_with_len 0 64)) (range_with_len 0 64)) 0 n
      (λ g low high. sum-same (λ s. block_from len k (g * 64 + s)) (λ s. sum_by (λ u. cond (list_all (has shown (g * 64 + s) u) (take len event)) (number_of counts shown.cats (g * 64 + s) k u) 0) (range_with_len 0 64)) 0 64
      (λ s from to. sum-same (at_least len k (g * 64 + s)) (λ u. cond (list_all (has shown (g * 64 + s) u) (take len event)) (number_of counts shown.cats (g * 64 + s) k u) 0) 0 64
      (λ u first last. ap (λ b. cond b (number_of counts shown.cats (g * 64 + s) k u) 0) (prefix-test (has shown (g * 64 + s) u) event len within))))
