use Rattle.std.proofs.Common.{◌≡◌, All}
use Rattle.mp_base.specs.Grid.{IsBelow}
use Rattle.impala_list.proofs.tests.turns.Given as goal

abbrev pub invariant-loop-i : goal.invariant-loop-i
invariant-loop-i l = record {
  sides : l.image.sides ≡ record { nx = 50; ny = 1; nz = 1 };
  below : All (IsBelow 3) l.image.cells;
}
