use Rattle.std.proofs.Common.{◌+◌}
use Rattle.ti_scan.specs.Window.{inside_from}
use Rattle.ti_scan.proofs.Marking.{KeepsTo}
use Rattle.ti_scan.proofs.erosion.keep_within.Given as goal

abbrev pub invariant-loop-i : goal.invariant-loop-i
invariant-loop-i l = KeepsTo (inside_from l.ground.image.now.sides l.ground.vectors.now (l.ground.span.first + l.start)) l.initial.marks l.marks l.i
