-- Data events by codes.
use Rattle.std.specs.Prelude.{◌≡◌, ℕ, suc, ℤ, Bool, true, ◌&&◌, nat_le, List, [], ◌∷◌}
use Rattle.std.specs.List.{list_all}
use Rattle.mps_scan.specs.declared.coded.CodedDatum.{CodedDatum}

-- a datum by its code
abbrev pub coded : ℕ → ℤ → CodedDatum
coded position code = record { position = position; code = code }

-- positions rise: the first is at least this, and each further one is greater than the one before
abbrev pub positions_rise : ℕ → List CodedDatum → Bool
positions_rise least [] = true
positions_rise least (d ∷ event) = nat_le least d.position && positions_rise (suc d.position) event

-- the least position that may follow those of an event, which begins at from
abbrev pub next_from : ℕ → List CodedDatum → ℕ
next_from from [] = from
next_from from (d ∷ event) = next_from (suc d.position) event

-- the least position that may follow those of an event: 1 where there is none
abbrev pub next_position : List CodedDatum → ℕ
next_position event = next_from 1 event

-- rising positions from 1 to 64
pub record IsCoded (event : List CodedDatum) : Type 0 where
  pub rise : positions_rise 1 event ≡ true
  pub last : list_all (λ d. nat_le d.position 64) event ≡ true
