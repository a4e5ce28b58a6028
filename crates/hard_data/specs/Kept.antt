-- What is kept while rows or cells are gone through: a number for each place.
use Rattle.std.specs.Prelude.{◌≡◌, ◌<◌, ℕ, zero, suc, List, length, take, Option, Some, None, slice_get, slice_index}
use Rattle.mp_base.specs.declared.frame.Frame.{Frame}
use Rattle.mp_base.specs.Grid.{cells_of}
use Rattle.gslib_grid.specs.declared.row.Row.{Row}
use Rattle.hard_data.specs.Points.{row_of_cell}

-- the numbers, one for each place, stand for the items that are wanted there
pub record AreKept {X : Type 0} (item_of : ℕ → Option X) (wanted : ℕ → Option X) (places : ℕ) (numbers : List ℕ) : Type 0 where
  pub count : length numbers ≡ places
  pub each : (place : ℕ) → place < places → item_of (slice_index numbers place) ≡ wanted place

-- for each cell the row of the first n that gives it its datum: its number, or one that no row has
abbrev pub RowsAreKept : Frame → List Row → ℕ → List ℕ → Type 0
RowsAreKept frame rows n numbers = AreKept (slice_get rows) (row_of_cell frame (take n rows)) (cells_of frame.shape) numbers

-- the cell that a number stands for: one less than the number, or none for 0
abbrev pub cell_in : ℕ → Option ℕ
cell_in zero = None
cell_in (suc c) = Some c
