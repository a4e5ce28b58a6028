use Rattle.std.proofs.Common.{◌≡◌, is_some, length, take}
use Rattle.std.specs.List.{count_by}
use Rattle.mp_base.specs.Grid.{cells_of}
use Rattle.hard_data.specs.Points.{data_of}
use Rattle.hard_data.proofs.points.data_of_rows.Given as goal

-- the cells so far have their data
abbrev pub invariant-loop-cell : goal.invariant-loop-cell
invariant-loop-cell l = record {
  sides : l.grid.sides ≡ l.frame.shape;
  count : length l.grid.cells ≡ cells_of l.frame.shape;
  front : take l.cell l.grid.cells ≡ take l.cell (data_of l.frame l.rows);
  used : l.used ≡ count_by is_some (take l.cell (data_of l.frame l.rows));
}
