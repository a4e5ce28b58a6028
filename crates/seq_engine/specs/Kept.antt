-- Stores that are kept from level to level.
use Rattle.std.specs.Prelude.{ℕ, List}
use Rattle.std.specs.List.{sum_by}
use Rattle.ti_scan.specs.Event.{Source}

-- a store that is kept: what it was built from, and how many bits say what its patterns show
pub record Kept : Type 0 where
  pub source : Source
  pub bits : ℕ

-- how many bits all of them have
abbrev pub bits_in : List Kept → ℕ
bits_in stores = sum_by (λ (kept : Kept). kept.bits) stores
