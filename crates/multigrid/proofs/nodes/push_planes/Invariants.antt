use Rattle.std.proofs.Common.{◌≡◌, ◌++◌}
use Rattle.multigrid.specs.Rows.{nodes_of_rows, rows_of_planes}
use Rattle.multigrid.proofs.nodes.push_planes.Given as goal

abbrev pub invariant-loop-i : goal.invariant-loop-i
invariant-loop-i l = l.nodes.items ≡ l.initial.nodes.items ++ nodes_of_rows l.shape l.step (rows_of_planes l.shape l.step l.i)
