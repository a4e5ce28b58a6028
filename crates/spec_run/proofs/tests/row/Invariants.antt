use Rattle.std.proofs.Common.{◌≡◌, All}
use Rattle.mp_base.specs.Grid.{IsBelow}
use Rattle.spec_run.proofs.tests.row.Given as goal

abbrev pub invariant-loop-number : goal.invariant-loop-number
invariant-loop-number l = record {
  sides : l.image.sides ≡ record { nx = 6; ny = 1; nz = 1 };
  below : All (IsBelow 2) l.image.cells;
}
