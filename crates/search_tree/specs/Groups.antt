-- Groups of 64 blocks.
use Rattle.std.specs.Prelude.{◌≡◌, ℕ, ◌+◌, ◌*◌, ◌<◌, ◌==◌, true, false, List}
use Rattle.std.specs.Int.{bit_at}
use Rattle.std.specs.List.{range_with_len, sum_by}
use Rattle.ti_scan.specs.declared.event.Datum.{Datum}
use Rattle.pattern_blocks.specs.Rows.{BitRows, has, matched, word_at}
use Rattle.pattern_blocks.specs.Planes.{PlaneRows}
use Rattle.pattern_blocks.specs.Tally.{number_of}
use Rattle.pattern_store.specs.Gains.{blocks_gain}
use Rattle.pattern_store.specs.Store.{IsStore}

-- what the marked blocks add
abbrev pub open_gain : BitRows → PlaneRows → ℕ → ℕ → List Datum → ℕ → ℕ → ℕ
open_gain shown counts group entered event row k = blocks_gain (λ s. bit_at entered s == 1) shown counts group event row k

-- the sum of the numbers of a block
unfoldable pub block_total : PlaneRows → ℕ → ℕ → ℕ → ℕ
block_total counts cats block k = sum_by (number_of counts cats block k) (range_with_len 0 64)

-- each pattern with the first `least` data is in a marked block of the group
pub record HoldsRest (shown : BitRows) (group : ℕ) (event : List Datum) (least possible : ℕ) : Type 0 where
  pub fewer : (s u : ℕ) → s < 64 → u < 64 → bit_at possible s ≡ 0 → matched shown (group * 64 + s) event u < least

-- what is kept of a group's blocks is true of their patterns: a datum that is absent, one that all have, and the sums
pub record SumsUp (shown : BitRows) (counts : PlaneRows) (any all : BitRows) (totals : PlaneRows) (group : ℕ) : Type 0 where
  pub absent : (s u : ℕ) (d : Datum) → s < 64 → u < 64 → bit_at (word_at any group d) s ≡ 0 → has shown (group * 64 + s) u d ≡ false
  pub whole : (s u : ℕ) (d : Datum) → s < 64 → u < 64 → bit_at (word_at all group d) s ≡ 1 → has shown (group * 64 + s) u d ≡ true
  pub total : (s k : ℕ) → s < 64 → k < shown.cats → number_of totals shown.cats group k s ≡ block_total counts shown.cats (group * 64 + s) k

-- so it is of each group
abbrev pub AreSummed : BitRows → PlaneRows → BitRows → BitRows → PlaneRows → ℕ → Type 0
AreSummed shown counts any all totals groups = (g : ℕ) → g < groups → SumsUp shown counts any all totals g

-- what a tree keeps: the patterns of a store, and of each group what lets it skip blocks
pub record IsTree (shown : BitRows) (counts : PlaneRows) (any all : BitRows) (totals : PlaneRows) (groups : ℕ) : Type 0 where
  pub store : IsStore shown counts groups
  pub sums : AreSummed shown counts any all totals groups
