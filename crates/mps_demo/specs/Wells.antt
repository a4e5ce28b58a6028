-- The wells, as the rows of a table of points: each in the centre of a cell of the grid.
use Rattle.std.specs.Prelude.{ℕ, ◌+◌, ◌*◌, ℤ, pos, List, map, Some}
use Rattle.std.specs.List.{range_with_len}
use Rattle.mp_base.specs.Grid.{Field, cat_of, cell_number}
use Rattle.gslib_grid.specs.declared.row.Row.{Row}
use Rattle.mps_demo.specs.Drawn.{drawn}
use Rattle.mps_demo.specs.Image.{image_sides}

-- the coordinate of a cell's centre, in millionths
abbrev pub coordinate : ℕ → ℤ
coordinate cell = pos (1000000 * cell)

-- well i at x and y: it has the category of the image's cell at x and y
abbrev pub well_at : Field → ℕ → ℕ → ℕ → Row
well_at image i x y = record {
  line = i + 1;
  x = Some (coordinate x);
  y = Some (coordinate y);
  z = Some (coordinate 0);
  cat = cat_of image.cells (cell_number image_sides x y 0);
}

-- well i, by the words behind those of the channels and of the wells before it
abbrev pub well_of : ℕ → Field → ℕ → Row
well_of seed image i = well_at image i (drawn 100 seed (10 + 2 * i)) (drawn 100 seed (11 + 2 * i))

-- the thirty wells of a seed in an image
unfoldable pub wells_of : ℕ → Field → List Row
wells_of seed image = map (well_of seed image) (range_with_len 0 30)
