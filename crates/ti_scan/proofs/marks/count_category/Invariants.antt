use Rattle.std.proofs.Common.{◌≡◌}
use Rattle.ti_scan.specs.Marks.{marked}
use Rattle.ti_scan.proofs.marks.count_category.Given as goal

abbrev pub invariant-loop-i : goal.invariant-loop-i
invariant-loop-i l = l.count ≡ marked l.marks l.bytes l.wanted l.i
