use Rattle.std.proofs.Common.{◌≡◌}
use Rattle.hard_data.proofs.start_tests.row.Given as goal

abbrev pub invariant-loop-cell : goal.invariant-loop-cell
invariant-loop-cell l = l.grid.sides ≡ l.fn.shape
