use Rattle.std.proofs.Common.{◌≡◌}
use Rattle.std.specs.List.{All}
use Rattle.mp_base.specs.Grid.{IsBelow}
use Rattle.seq_engine.proofs.tests.row.Given as goal

abbrev pub invariant-loop-number : goal.invariant-loop-number
invariant-loop-number l = record {
  sides : l.grid.sides ≡ l.initial.grid.sides;
  below : All (IsBelow 2) l.grid.cells;
}
