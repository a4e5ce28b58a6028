-- What patterns add to the rows of a tally: those of a group of 64 blocks, and those of all groups.
use Rattle.std.specs.Prelude.{◌≡◌, ℕ, ◌+◌, ◌*◌, ◌<◌, ◌≤◌, Bool, true, if◌then◌else◌, List, length, slice_index}
use Rattle.std.specs.List.{range_with_len, sum_by}
use Rattle.ti_scan.specs.declared.event.Datum.{Datum}
use Rattle.pattern_blocks.specs.Rows.{BitRows}
use Rattle.pattern_blocks.specs.Planes.{PlaneRows}
use Rattle.pattern_blocks.specs.Tally.{block_gain}

-- what those blocks of a group add to a row that pass
unfoldable pub blocks_gain : (ℕ → Bool) → BitRows → PlaneRows → ℕ → List Datum → ℕ → ℕ → ℕ
blocks_gain passes shown counts group event row k = sum_by (λ s. if passes s then block_gain shown counts (group * 64 + s) event row k else 0) (range_with_len 0 64)

-- what all blocks add
abbrev pub group_gain : BitRows → PlaneRows → ℕ → List Datum → ℕ → ℕ → ℕ
group_gain shown counts group event row k = blocks_gain (λ s. true) shown counts group event row k

-- what the patterns of the first n groups add
unfoldable pub store_gain : BitRows → PlaneRows → ℕ → List Datum → ℕ → ℕ → ℕ
store_gain shown counts n event row k = sum_by (λ g. group_gain shown counts g event row k) (range_with_len 0 n)

-- each row from the least that is asked for has the numbers of the patterns that have so many of the first data
pub record IsTallied (shown : BitRows) (counts : PlaneRows) (groups : ℕ) (event : List Datum) (least : ℕ) (tally : List ℕ) : Type 0 where
  pub count : length tally ≡ 520
  pub each : (row k : ℕ) → row ≤ 64 → k < shown.cats → least ≤ row → slice_index tally (row * 8 + k) ≡ store_gain shown counts groups event row k

-- what is given for each row from which a tally is asked for is that tally
abbrev pub TalliesFrom : (ℕ → List ℕ → Type 0) → BitRows → PlaneRows → ℕ → List Datum → Type 0
TalliesFrom gives shown counts groups event = (least : ℕ) (tally : List ℕ) → least ≤ length event → gives least tally → IsTallied shown counts groups event least tally
