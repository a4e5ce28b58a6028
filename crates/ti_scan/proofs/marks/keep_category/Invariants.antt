use Rattle.ti_scan.specs.Marks.{has_byte}
use Rattle.ti_scan.proofs.Marking.{KeepsTo}
use Rattle.ti_scan.proofs.marks.keep_category.Given as goal

abbrev pub invariant-loop-i : goal.invariant-loop-i
invariant-loop-i l = KeepsTo (has_byte l.bytes l.wanted) l.initial.marks l.marks l.i
