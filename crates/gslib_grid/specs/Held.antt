-- The rows of a table, as they are held.
use Rattle.std.specs.Prelude.{Bool, true, false, ◌||◌, ℤ, List, ◌++◌, map, Option, Some, None, is_some}
use Rattle.gslib_grid.specs.declared.row.Row.{Row}
use Rattle.gslib_grid.specs.declared.held.BareRow.{BareRow}
use Rattle.gslib_grid.specs.declared.held.PointRow.{PointRow}

-- the row has a coordinate
abbrev pub has_coordinate : Row → Bool
has_coordinate row = is_some row.x || is_some row.y || is_some row.z

-- a coordinate that is held, if it is there
abbrev pub coordinate : Bool → ℤ → Option ℤ
coordinate true held = Some held
coordinate false held = None

-- the row that is held without coordinates
abbrev pub bare_row : BareRow → Row
bare_row held = record { line = held.line; x = None; y = None; z = None; cat = held.cat }

-- the row that is held with its coordinates
abbrev pub point_row : PointRow → Row
point_row held =
    record {
      line = held.line;
      x = coordinate held.has_x held.x;
      y = coordinate held.has_y held.y;
      z = coordinate held.has_z held.z;
      cat = held.cat;
    }

-- all rows: those before the first with a coordinate, then the others
abbrev pub rows_held : List BareRow → List PointRow → List Row
rows_held bare points = map bare_row bare ++ map point_row points
