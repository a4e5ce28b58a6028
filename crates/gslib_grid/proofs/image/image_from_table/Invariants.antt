use Rattle.std.proofs.Common.{◌≡◌, length, map, take}
use Rattle.mp_base.specs.Grid.{cells_of}
use Rattle.gslib_grid.proofs.image.image_from_table.Given as goal

-- the cells so far are the categories of the rows so far
abbrev pub invariant-loop-number : goal.invariant-loop-number
invariant-loop-number l =
    record {
      sides : l.grid.sides ≡ l.fn.shape;
      count : length l.grid.cells ≡ cells_of l.fn.shape;
      front : take l.number l.grid.cells ≡ take l.number (map (λ row. row.cat) l.table.rows);
    }
