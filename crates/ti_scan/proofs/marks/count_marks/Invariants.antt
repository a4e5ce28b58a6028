use Rattle.std.proofs.Common.{◌≡◌}
use Rattle.ti_scan.specs.Marks.{marks_in}
use Rattle.ti_scan.proofs.marks.count_marks.Given as goal

abbrev pub invariant-loop-i : goal.invariant-loop-i
invariant-loop-i l = l.count ≡ marks_in l.marks l.i
