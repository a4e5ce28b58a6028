use Rattle.std.proofs.Common.{◌≡◌, ◌++◌}
use Rattle.ti_scan.specs.Marks.{cells_marked}
use Rattle.ti_scan.proofs.marks.push_marked.Given as goal

abbrev pub invariant-loop-i : goal.invariant-loop-i
invariant-loop-i l = l.cells.items ≡ l.initial.cells.items ++ cells_marked l.marks l.first l.i
