-- The rows of a table.
use Rattle.std.specs.Prelude.{◌≤◌, ◌^◌, List, length, All}
use Rattle.mp_base.specs.Grid.{IsBelow}
use Rattle.gslib_grid.specs.declared.row.Row.{Row}

-- rows of the program: at most 2^28, each category at most 7
pub record AreRows (rows : List Row) : Type 0 where
  pub few : length rows ≤ 2 ^ 28
  pub cats : All (λ row. IsBelow 8 row.cat) rows
