-- What a step on the words tells the thread that takes it.
use Rattle.std.specs.Prelude.{◌≡◌, ℕ, ◌+◌, ◌-◌, ◌≤◌, List, [], length, slice_index}
use Rattle.atomic_table.specs.Table.{Me, Step}
use Rattle.mp_base.specs.declared.cell.Entry.{Entry}
use Rattle.event_retrieve.specs.Plan.{Plan}
use Rattle.shared_grid.specs.declared.rule.View.{View}
use Rattle.shared_grid.specs.declared.rule.View.TheVariants.{Writes, Reads}
use Rattle.shared_grid.specs.Rule.{shown, seen_by, stored_by}

-- of the step, the pass before, the number that is loaded or stored, and the pass after
abbrev pub Tells : Type 1
Tells = Step (Unit {0}) → Me (Unit {0}) View → ℕ → Me (Unit {0}) View → Type 0

-- the front that is loaded is seen
abbrev pub front_loaded : List Entry → Tells
front_loaded story s v n w = (w ≡ (Reads n, [])) × (seen_by v.0 ≤ n) × (n ≤ length story)

-- the word of a cell is that of some moment, at which at least what was seen is stored
abbrev pub cell_loaded : Plan → List Entry → Tells
cell_loaded p story s v n w =
    (w ≡ v) × (n ≤ 256) × ((m : ℕ) × (seen_by v.0 ≤ m) × (m ≤ length story) × (n ≡ slice_index (shown p story m) (s.word - 1)))

abbrev pub cell_stored : Tells
cell_stored s v n w = w ≡ (Writes (stored_by v.0 + 1) (seen_by v.0), [])

abbrev pub front_stored : Tells
front_stored s v n w = w ≡ (Writes (stored_by v.0) (seen_by v.0 + 1), [])
