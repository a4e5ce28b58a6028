use Rattle.std.proofs.Common.{◌≡◌, ◌++◌}
use Rattle.multigrid.specs.Rows.{first_rows, nodes_of_rows}
use Rattle.multigrid.proofs.nodes.push_rows.Given as goal

abbrev pub invariant-loop-i : goal.invariant-loop-i
invariant-loop-i l = l.nodes.items ≡ l.initial.nodes.items ++ nodes_of_rows l.shape l.step (first_rows l.shape l.step l.z l.i)
