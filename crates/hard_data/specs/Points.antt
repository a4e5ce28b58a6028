-- The cells that points stand in, and the data that cells get from them.
use Rattle.std.specs.Prelude.{ℕ, ◌+◌, ◌*◌, ◌==◌, Bool, not, false, nat_lt, ℤ, pos, negsuc, ◌+ℤ◌, ◌-ℤ◌, ◌*ℤ◌, ◌≤ℤ◌, unsigned_abs, List, length, map, filter, All, Option, Some, None, is_some, unwrap_or, option_and_then, slice_index_or, if◌then◌else◌}
use Rattle.std.specs.Int.{int_div_euclid}
use Rattle.std.specs.List.{range_with_len, count_by}
use Rattle.std.specs.Option.{option_map_or}
use Rattle.mp_base.specs.declared.frame.Frame.{Frame}
use Rattle.mp_base.specs.Grid.{cells_of, cell_number, field}
use Rattle.gslib_grid.specs.declared.row.Row.{Row}
use Rattle.hard_data.specs.declared.axis.Axis.{Axis}
use Rattle.hard_data.specs.declared.points.Placed.{Placed}
use Rattle.hard_data.specs.Nearest.{first_nearest}

-- each size is at least a millionth
abbrev pub HasSizes : Frame → Type 0
HasSizes frame = All (λ size. pos 1 ≤ℤ size) frame.size

-- One axis.

-- the axes of a frame
abbrev pub x_axis : Frame → Axis
x_axis frame = record { cells = frame.shape.nx; origin = slice_index_or frame.origin 0 (pos 0); size = slice_index_or frame.size 0 (pos 0) }

abbrev pub y_axis : Frame → Axis
y_axis frame = record { cells = frame.shape.ny; origin = slice_index_or frame.origin 1 (pos 0); size = slice_index_or frame.size 1 (pos 0) }

abbrev pub z_axis : Frame → Axis
z_axis frame = record { cells = frame.shape.nz; origin = slice_index_or frame.origin 2 (pos 0); size = slice_index_or frame.size 2 (pos 0) }

-- how far a coordinate is from the origin: one that isn't read stands at the origin
abbrev pub offset_on : Axis → Option ℤ → ℤ
offset_on axis coordinate = unwrap_or coordinate axis.origin -ℤ axis.origin

-- floor(offset / size + 1 / 2): the number of the cell whose centre is nearest, of two the upper one
unfoldable pub nearest_on : Axis → Option ℤ → ℤ
nearest_on axis coordinate = int_div_euclid (pos 2 *ℤ offset_on axis coordinate +ℤ axis.size) (pos 2 *ℤ axis.size)

-- a number from 0 up that is below n
abbrev pub below : ℕ → ℤ → Option ℕ
below n (pos k) = if nat_lt k n then Some k else None
below n (negsuc k) = None

-- the cell that a coordinate is in, if the axis has it
abbrev pub cell_on : Axis → Option ℤ → Option ℕ
cell_on axis coordinate = below axis.cells (nearest_on axis coordinate)

-- how far a coordinate is from the centre of the cell that it is in
unfoldable pub apart_on : Axis → Option ℤ → ℕ
apart_on axis coordinate = unsigned_abs (offset_on axis coordinate -ℤ nearest_on axis coordinate *ℤ axis.size)

-- One row.

-- the cell that a row's point is in, if the grid has it
unfoldable pub cell_of_row : Frame → Row → Option ℕ
cell_of_row frame row =
    option_and_then
    (λ x. option_and_then (λ y. option_and_then (λ z. Some (cell_number frame.shape x y z)) (cell_on (z_axis frame) row.z)) (cell_on (y_axis frame) row.y))
    (cell_on (x_axis frame) row.x)

-- the squared distance of a row's point to the centre of its cell, in millionths
abbrev pub distance_to_centre : Frame → Row → ℕ
distance_to_centre frame row =
    apart_on (x_axis frame) row.x * apart_on (x_axis frame) row.x
    + (apart_on (y_axis frame) row.y * apart_on (y_axis frame) row.y + apart_on (z_axis frame) row.z * apart_on (z_axis frame) row.z)

-- the cell that a row may give a datum: none where it is outside the grid or has no category
abbrev pub cell_for : Frame → Row → Option ℕ
cell_for frame row = option_and_then (λ _. cell_of_row frame row) row.cat

-- a row may give a cell its datum
abbrev pub is_for : Frame → ℕ → Row → Bool
is_for frame cell row = option_map_or (λ c. c == cell) (cell_for frame row) false

-- a row may give no cell a datum
abbrev pub is_skipped : Frame → Row → Bool
is_skipped frame row = not (is_some (cell_for frame row))

-- All rows.

-- of the rows for a cell the nearest to its centre, and of equally near ones the first
abbrev pub row_of_cell : Frame → List Row → ℕ → Option Row
row_of_cell frame rows cell = first_nearest (distance_to_centre frame) (filter (is_for frame cell) rows)

-- the datum that a cell gets
abbrev pub datum_of_cell : Frame → List Row → ℕ → Option ℕ
datum_of_cell frame rows cell = option_and_then (λ row. row.cat) (row_of_cell frame rows cell)

-- the data of all cells
abbrev pub data_of : Frame → List Row → List (Option ℕ)
data_of frame rows = map (datum_of_cell frame rows) (range_with_len 0 (cells_of frame.shape))

-- the cells of these rows, and how many rows there are, how many cells are known, and how many rows are skipped
unfoldable pub placed_of : Frame → List Row → Placed
placed_of frame rows =
    record {
      cells = field frame.shape (data_of frame rows);
      rows = length rows;
      used = count_by is_some (data_of frame rows);
      skipped = count_by (is_skipped frame) rows;
    }
