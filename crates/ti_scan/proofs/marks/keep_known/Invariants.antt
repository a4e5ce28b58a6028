use Rattle.ti_scan.specs.Marks.{has_category}
use Rattle.ti_scan.proofs.Marking.{KeepsTo}
use Rattle.ti_scan.proofs.marks.keep_known.Given as goal

abbrev pub invariant-loop-i : goal.invariant-loop-i
invariant-loop-i l = KeepsTo (has_category l.bytes) l.initial.marks l.marks l.i
