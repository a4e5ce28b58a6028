-- Counts of prefixes by the rows of a tally.
use Rattle.std.specs.Prelude.{◌≡◌, ℕ, ◌+◌, ◌-◌, ◌*◌, ◌<◌, Bool, nat_le, List, length, map, slice_index, sum}
use Rattle.std.specs.List.{range_with_len, sum_by}
use Rattle.ti_scan.specs.declared.event.Datum.{Datum}
use Rattle.ti_scan.specs.Prefix.{greatest}
use Rattle.pattern_blocks.specs.Rows.{BitRows}
use Rattle.pattern_blocks.specs.Planes.{PlaneRows}
use Rattle.pattern_store.specs.Gains.{store_gain}

-- a row was added to sums by category
pub record AddsRow (tally : List ℕ) (row cats : ℕ) (before after : List ℕ) : Type 0 where
  pub count : length after ≡ length before
  pub each : (k : ℕ) → k < cats → slice_index after k ≡ slice_index before k + slice_index tally (row * 8 + k)

-- the sum of the rows from here to that of the whole event
unfoldable pub rows_from : BitRows → PlaneRows → ℕ → List Datum → ℕ → ℕ → ℕ
rows_from shown counts groups event row k = sum_by (λ r. store_gain shown counts groups event r k) (range_with_len row (length event + 1 - row))

abbrev pub prefix_counts : BitRows → PlaneRows → ℕ → List Datum → ℕ → List ℕ
prefix_counts shown counts groups event len = map (rows_from shown counts groups event len) (range_with_len 0 shown.cats)

abbrev pub is_enough : BitRows → PlaneRows → ℕ → List Datum → ℕ → ℕ → Bool
is_enough shown counts groups event min len = nat_le min (sum (prefix_counts shown counts groups event len))

pub record IsLongest (shown : BitRows) (counts : PlaneRows) (groups : ℕ) (event : List Datum) (min len : ℕ) (found : List ℕ) : Type 0 where
  pub longest : len ≡ greatest (is_enough shown counts groups event min) (length event)
  pub counts_are : found ≡ prefix_counts shown counts groups event len
