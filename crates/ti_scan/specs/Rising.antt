-- Data at rising positions.
use Rattle.std.specs.Prelude.{ℕ, suc, ◌≤◌, List, [], ◌∷◌}
use Rattle.ti_scan.specs.declared.event.Datum.{Datum}

-- positions rise, each from least to last
abbrev pub RisesFrom : ℕ → ℕ → List Datum → Type 0
RisesFrom least last [] = Unit {0}
RisesFrom least last (d ∷ event) = (least ≤ d.position) × (d.position ≤ last) × RisesFrom (suc d.position) last event

-- the least position that may follow those of an event, which begins at from
abbrev pub next_from : ℕ → List Datum → ℕ
next_from from [] = from
next_from from (d ∷ event) = next_from (suc d.position) event

abbrev pub next_position : List Datum → ℕ
next_position event = next_from 1 event
