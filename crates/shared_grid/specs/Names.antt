-- What a name stands for.
use Rattle.std.specs.Prelude.{ℕ, ◌+◌, ◌<◌, List, length}
use Rattle.mp_base.specs.declared.cell.Entry.{Entry}
use Rattle.mp_base.specs.Grid.{Field}
use Rattle.event_retrieve.specs.Plan.{Plan, IsLog, IsPlan}

-- the name is of a plan, and the story's cells are the plan's path, in order
pub record IsNamed (p : Plan) (story : List Entry) : Type 0 where
  pub is_plan : IsPlan p
  pub is_log : IsLog p story

abbrev pub start_of : Plan → Field
start_of p = p.start

-- the cell is inside the plan's grid
abbrev pub HasCell : Plan → ℕ → Type 0
HasCell p c = c < length p.start.cells

-- the front, and a word for each cell
abbrev pub words_in : Plan → ℕ
words_in p = length p.start.cells + 1
