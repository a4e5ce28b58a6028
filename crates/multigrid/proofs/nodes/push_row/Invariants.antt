use Rattle.std.proofs.Common.{◌≡◌, ◌+◌, ◌*◌, ◌++◌}
use Rattle.multigrid.specs.Rows.{first_in_row}
use Rattle.multigrid.proofs.nodes.push_row.Given as goal

abbrev pub invariant-loop-i : goal.invariant-loop-i
invariant-loop-i l = l.nodes.items ≡ l.initial.nodes.items ++ first_in_row l.shape l.step (l.y + l.shape.ny * l.z) l.i
