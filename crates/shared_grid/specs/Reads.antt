-- What a reader may find in a cell.
use Rattle.std.specs.Prelude.{◌≡◌, ◌⊎◌, ℕ, ◌≤◌, List, length, slice_get, Option, Some, None, IfSome}
use Rattle.mp_base.specs.declared.cell.Entry.{Entry}
use Rattle.mp_base.specs.Grid.{cat_of}
use Rattle.path_stream.specs.Ranks.{rank_in}
use Rattle.event_retrieve.specs.Plan.{Plan, grid_at}

-- At some moment the cell shows this: once m entries of the story are stored, for some m that is at least the number seen.
abbrev pub ShowsSince : Plan → List Entry → ℕ → ℕ → Option ℕ → Type 0
ShowsSince p story seen c value = (m : ℕ) × (seen ≤ m) × (m ≤ length story) × (value ≡ cat_of (grid_at p story m).cells c)

-- the category is the cell's at the start, or the story has an entry that gives it to the cell
abbrev pub IsOfStory : Plan → List Entry → ℕ → ℕ → Type 0
IsOfStory p story c k = (cat_of p.start.cells c ≡ Some k) ⊎ ((i : ℕ) × (slice_get story i ≡ Some (record { cell = c; cat = k })))

-- the cell is unknown at the start, and its rank, if it has one, is at least the number seen
abbrev pub IsUnknownTo : Plan → ℕ → ℕ → Type 0
IsUnknownTo p seen c = (cat_of p.start.cells c ≡ None) × IfSome (rank_in p.path c) (λ rank. seen ≤ rank)
