-- Sums of the rows of a tally, from the last one down.
use Rattle.std.proofs.Common.{◌≡◌, ℕ, suc, ◌+◌, ◌-◌, ◌*◌, ◌<◌, ◌≤◌, true, false, nat_le, List, length, get_or, sum, take, ap, sym, ◌∙◌, inl, inr, arith}
use Rattle.std.specs.List.{range_with_len, sum_by}
use Rattle.std.proofs.lemmas.Bool.{cases_eq}
use Rattle.std.proofs.lemmas.Bool.Decides.{nat_tests}
use Rattle.std.proofs.lemmas.List.{get_or-take, length-take}
use Rattle.std.proofs.lemmas.List.FromFn.{fill_by_all}
use Rattle.std.proofs.lemmas.List.Sums.{sum_by-cons}
use Rattle.ti_scan.specs.declared.event.Datum.{Datum}
use Rattle.pattern_blocks.specs.Rows.{BitRows}
use Rattle.pattern_blocks.specs.Planes.{PlaneRows}
use Rattle.pattern_store.specs.Gains.{IsTallied, store_gain}
use Rattle.pattern_store.specs.Longest.{AddsRow, is_enough, prefix_counts, rows_from}

module _ (shown : BitRows) (counts : PlaneRows) (groups : ℕ) (event : List Datum) where
  pub rows_none : (k : ℕ) → rows_from shown counts groups event (length event + 1) k ≡ 0
  unfolding rows_from
  rows_none k =
      let none : length event + 1 - (length event + 1) ≡ 0 = omega arith in
      ap (λ n. sum_by (λ r. store_gain shown counts groups event r k) (range_with_len (length event + 1) n)) none

  pub rows_more : (row k : ℕ) → row ≤ length event → rows_from shown counts groups event row k ≡ store_gain shown counts groups event row k + rows_from shown counts groups event (row + 1) k
  unfolding rows_from
  rows_more row k within =
      let wide : length event + 1 - row ≡ suc (length event + 1 - (row + 1)) = omega arith in
      ap (λ n. sum_by (λ r. store_gain shown counts groups event r k) (range_with_len row n)) wide
      ∙ sum_by-cons (λ r. store_gain shown counts groups event r k) row (range_with_len (row + 1) (length event + 1 - (row + 1)))

  -- a row more is summed
  pub row_summed : (least cats len k : ℕ) (tally before after : List ℕ) → IsTallied shown counts groups event least tally → cats ≡ shown.cats → len ≤ 64 → len ≤ length event → least ≤ len → k < shown.cats → get_or before k 0 ≡ rows_from shown counts groups event (len + 1) k → AddsRow tally len cats before after → get_or after k 0 ≡ rows_from shown counts groups event len k
  row_summed least cats len k tally before after tallied cats_are few within from below sums adds =
      omega (arith, adds.each k (omega (arith, cats_are)), tallied.each len k few below from, rows_more len k within)

  pub row_fits : (least cats len k : ℕ) (tally before : List ℕ) → IsTallied shown counts groups event least tally → cats ≡ shown.cats → len ≤ 64 → len ≤ length event → least ≤ len → k < shown.cats → get_or before k 0 ≡ rows_from shown counts groups event (len + 1) k → get_or before k 0 + get_or tally (len * 8 + k) 0 ≡ rows_from shown counts groups event len k
  row_fits least cats len k tally before tallied cats_are few within from below sums = omega (arith, tallied.each len k few below from, rows_more len k within)

  pub counts_taken : (len cats : ℕ) (parts : List ℕ) → cats ≡ shown.cats → cats ≤ length parts → ((k : ℕ) → k < shown.cats → get_or parts k 0 ≡ rows_from shown counts groups event len k) → take cats parts ≡ prefix_counts shown counts groups event len
  counts_taken len cats parts cats_are long sums =
      fill_by_all (rows_from shown counts groups event len) (take cats parts) shown.cats 0 (omega (arith, length-take cats parts))
      (λ k small. get_or-take cats parts k 0 (omega (arith, cats_are)) ∙ sums k small)

  pub enough : (min len total : ℕ) (found : List ℕ) → found ≡ prefix_counts shown counts groups event len → total ≡ sum found → min ≤ total → is_enough shown counts groups event min len ≡ true
  enough min len total found are is le = ap (λ l. nat_le min (sum l)) (sym are) ∙ test (sum found) (omega (arith, is))
    where
      test : (n : ℕ) → min ≤ n → nat_le min n ≡ true
      test n less = grind (arith, nat_tests)

  pub too_few : (min len total : ℕ) (found : List ℕ) → found ≡ prefix_counts shown counts groups event len → total ≡ sum found → total < min → is_enough shown counts groups event min len ≡ false
  too_few min len total found are is less = ap (λ l. nat_le min (sum l)) (sym are) ∙ test (sum found) (omega (arith, is))
    where
      test : (n : ℕ) → n < min → nat_le min n ≡ false
      test n more = grind (arith, nat_tests)

  pub above_more : (min len : ℕ) → 0 < len → is_enough shown counts groups event min len ≡ false → ((m : ℕ) → len < m → m ≤ length event → is_enough shown counts groups event min m ≡ false) → (m : ℕ) → len - 1 < m → m ≤ length event → is_enough shown counts groups event min m ≡ false
  above_more min len some here above m beyond within = elim (cases_eq m len) [
    | inl same ↦ ap (is_enough shown counts groups event min) same ∙ here
    | inr other ↦ above m (omega arith) within
  ]
