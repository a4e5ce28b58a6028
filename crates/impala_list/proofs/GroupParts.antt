-- Counts by groups of entries, and their sums.
use Rattle.std.proofs.Common.{◌≡◌, ℕ, ◌+◌, ◌-◌, ◌*◌, ◌<◌, ◌≤◌, List, length, take, drop, replicate, get_or-drop, length-drop, length-take, ap, ◌∙◌, arith}
use Rattle.std.specs.List.{range_with_len, sum_by}
use Rattle.std.proofs.lemmas.List.{get_or-take, length-replicate}
use Rattle.std.proofs.lemmas.List.FromFn.{fill_by_all}
use Rattle.ti_scan.specs.declared.event.Datum.{Datum}
use Rattle.pattern_blocks.specs.Rows.{BitRows}
use Rattle.pattern_blocks.specs.Planes.{PlaneRows}
use Rattle.pattern_blocks.specs.Tally.{Adds, HasRoom}
use Rattle.pattern_store.specs.Gains.{group_gain, store_gain}
use Rattle.pattern_store.specs.Store.{IsStore}
use Rattle.pattern_store.proofs.Stored.{gain_room}
use Rattle.pattern_store.proofs.StoreSums.{zero_tally}
use Rattle.pattern_store.proofs.Sums.{sum-grows, sum-more}
use Rattle.impala_list.specs.Parts.{group_counts}

module _ (shown : BitRows) (counts : PlaneRows) where
  -- a group adds no more than all groups
  group-le : (groups group : ℕ) (event : List Datum) (row k : ℕ) → group < groups → group_gain shown counts group event row k ≤ store_gain shown counts groups event row k
  unfolding store_gain
  group-le groups group event row k within =
      let whole : group + 1 + (groups - (group + 1)) ≡ groups = omega arith in
      omega (
        arith,
        sum-more (λ g. group_gain shown counts g event row k) group,
        sum-grows (λ g. group_gain shown counts g event row k) (group + 1) (groups - (group + 1)),
        ap (λ n. sum_by (λ g. group_gain shown counts g event row k) (range_with_len 0 n)) whole,
      )

  pub empty_room : (groups group least : ℕ) (event : List Datum) → IsStore shown counts groups → group < groups → HasRoom shown.cats least (group_gain shown counts group event) (replicate 520 0)
  empty_room groups group least event store within = record {
    each = λ row k below from. omega (arith, zero_tally (row * 8 + k), group-le groups group event row k within, gain_room shown counts groups store event row k below);
  }

  -- the row of whole events, of a tally of a group alone
  pub group_counted : (group cats : ℕ) (event : List Datum) (tally : List ℕ) → Adds shown.cats (length event) (group_gain shown counts group event) (replicate 520 0) tally → cats ≡ shown.cats → cats ≤ 8 → length event ≤ 64 → take (length event * 8 + cats - length event * 8) (drop (length event * 8) tally) ≡ group_counts shown counts group event
  group_counted group cats event tally adds cats_are few_cats few =
      let long : length tally ≡ 520 = adds.count ∙ length-replicate {A = ℕ} 520 0 in
      let wide : length event * 8 + cats - length event * 8 ≡ cats = omega arith in
      ap (λ n. take n (drop (length event * 8) tally)) wide
      ∙ fill_by_all (group_gain shown counts group event (length event)) (take cats (drop (length event * 8) tally)) shown.cats 0
      (omega (arith, cats_are, long, length-take cats (drop (length event * 8) tally), length-drop (length event * 8) tally))
      (λ k below.
      get_or-take cats (drop (length event * 8) tally) k 0 (omega (arith, cats_are)) ∙ get_or-drop (length event * 8) tally k 0
      ∙ omega (arith, adds.each (length event) k below (omega arith), zero_tally (length event * 8 + k)))
