-- Counts of events, by groups of entries.
use Rattle.std.specs.Prelude.{◌≡◌, ℕ, ◌+◌, ◌*◌, ◌/◌, ◌%◌, ◌<◌, List, [], length, map, slice_index, slice_index_or}
use Rattle.std.specs.List.{range_with_len, sum_by}
use Rattle.ti_scan.specs.declared.event.Datum.{Datum}
use Rattle.pattern_blocks.specs.Planes.{PlaneRows}
use Rattle.pattern_blocks.specs.Rows.{BitRows}
use Rattle.pattern_store.specs.Gains.{group_gain}
use Rattle.pattern_store.specs.Store.{IsStore}

-- of the entries of a group that have each datum, how many positions have each category at their centre
abbrev pub group_counts : BitRows → PlaneRows → ℕ → List Datum → List ℕ
group_counts shown counts group event = map (group_gain shown counts group event (length event)) (range_with_len 0 shown.cats)

-- part number i: the events by turns, of one group after another
abbrev pub part_at : BitRows → PlaneRows → List (List Datum) → ℕ → List ℕ
part_at shown counts events i = group_counts shown counts (i / length events) (slice_index_or events (i % length events) [])

-- part number i may be counted
pub record HasPart (shown : BitRows) (counts : PlaneRows) (groups : ℕ) (events : List (List Datum)) (i : ℕ) : Type 0 where
  pub store : IsStore shown counts groups
  pub within : i < groups * length events

-- for category k, the sum of the parts of an event, one of `step` events, over the first n groups
unfoldable pub part_sum : List (List ℕ) → ℕ → ℕ → ℕ → ℕ → ℕ
part_sum parts step event n k = sum_by (λ g. slice_index (slice_index_or parts (g * step + event) []) k) (range_with_len 0 n)

-- counts were added to sums by category
pub record AddsCounts (counts before after : List ℕ) : Type 0 where
  pub count : length after ≡ length before
  pub each : (k : ℕ) → k < length counts → slice_index after k ≡ slice_index before k + slice_index counts k
