-- Gathering the event of a path node, one template position after another.
use Rattle.std.specs.Prelude.{◌≡◌, ℕ, ◌+◌, ◌-◌, nat_lt, Bool, false, ◌||◌, if◌then◌else◌, List, ◌++◌, length, option_to_list, Option, Some, None, is_some}
use Rattle.std.specs.Option.{option_map_or}
use Rattle.mp_base.specs.Grid.{cat_of}
use Rattle.path_stream.specs.Ranks.{rank_in}
use Rattle.ti_scan.specs.declared.event.Datum.{Datum}
use Rattle.ti_scan.specs.Event.{IsWithin}
use Rattle.event_retrieve.specs.declared.gather.Wanted.{Wanted}
use Rattle.event_retrieve.specs.declared.gather.Wanted.TheVariants.{Done, Outside, Later, Cell}
use Rattle.event_retrieve.specs.Plan.{Plan, cell_at_position, datum_at, grid_at, known}
use Rattle.event_retrieve.specs.Retrieval.{up_to}
use Rattle.event_retrieve.specs.Sequential.{sequential}
use Rattle.event_retrieve.specs.Offer.{event_of_turn}

-- of which path node, which template position is next, counted from 1, and the data so far
pub record Gathering : Type 0 where
  pub index : ℕ
  pub position : ℕ
  pub event : List Datum

-- the cell is known at the start, or its rank is below i
abbrev pub is_early : Plan → ℕ → ℕ → Bool
is_early p i c = is_some (cat_of p.start.cells c) || option_map_or (λ r. nat_lt r i) (rank_in p.path c) false

-- what is wanted at a position, by the cell there
abbrev pub wanted_at : Plan → ℕ → ℕ → Option ℕ → Wanted
wanted_at p i position None = Outside position
wanted_at p i position (Some c) = if is_early p i c then Cell position c else Later position

abbrev pub wanted_of : Plan → Gathering → Wanted
wanted_of p g =
    if nat_lt (length p.source.template) g.position then Done
    else wanted_at p g.index g.position (cell_at_position p g.index g.position)

-- the value may be put where this is wanted
abbrev pub MayPut : Wanted → Option ℕ → Type 0
MayPut Done value = ⊥
MayPut (Outside position) value = value ≡ None
MayPut (Later position) value = value ≡ None
MayPut (Cell position c) value = Unit {0}

-- the fact about the cell, where a cell is wanted
abbrev pub IfCell : Wanted → (ℕ → Type 0) → Type 0
IfCell Done fact = Unit {0}
IfCell (Outside position) fact = Unit {0}
IfCell (Later position) fact = Unit {0}
IfCell (Cell position c) fact = fact c

-- the gathering after a value was put
abbrev pub after_put : Gathering → Option ℕ → Gathering
after_put g value = record { index = g.index; position = g.position + 1; event = g.event ++ option_to_list (datum_at g.position value) }

-- What was gathered lies between the known event after the entries that were seen and that of the node's turn, at all
-- positions so far.
pub record LiesBetween (p : Plan) (seen : ℕ) (g : Gathering) : Type 0 where
  pub lower : IsWithin (up_to (g.position - 1) (known p (sequential p) seen g.index)) g.event
  pub upper : IsWithin g.event (up_to (g.position - 1) (event_of_turn p g.index))

-- What may be read of a cell when at least the entries that were seen are there: the category that it has at the turn of
-- path node i, or nothing where it has none yet.
pub record MayBeRead (p : Plan) (seen i c : ℕ) (value : Option ℕ) : Type 0 where
  pub some : (k : ℕ) → value ≡ Some k → cat_of (grid_at p (sequential p) i).cells c ≡ Some k
  pub none : value ≡ None → cat_of (grid_at p (sequential p) seen).cells c ≡ None
