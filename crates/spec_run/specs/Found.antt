-- What is found around a path node while others commit.
use Rattle.std.specs.Prelude.{◌≡◌, ℕ, Option}
use Rattle.event_retrieve.specs.Around.{Centre}
use Rattle.event_retrieve.specs.Gather.{IfCell, MayBeRead, MayPut, wanted_at}
use Rattle.event_retrieve.specs.Plan.{Plan, cell_at_position, cell_of}

-- the centre is path node i
abbrev pub IsCentre : Plan → ℕ → Centre → Type 0
IsCentre p i centre = centre ≡ record { around = record { sides = p.start.sides; template = p.source.template }; cell = cell_of p i }

-- The value may be put at a position of path node i, counted from 1: there is none where none is wanted, and else it may
-- be read of the cell when at least the entries that were seen are there.
pub record MayBeFound (p : Plan) (seen i position : ℕ) (value : Option ℕ) : Type 0 where
  pub put : MayPut (wanted_at p i position (cell_at_position p i position)) value
  pub read : IfCell (wanted_at p i position (cell_at_position p i position)) (λ c. MayBeRead p seen i c value)
