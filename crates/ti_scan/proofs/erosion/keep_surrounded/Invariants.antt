use Rattle.std.proofs.Common.{◌+◌, take}
use Rattle.ti_scan.specs.Window.{KeepsEroded}
use Rattle.ti_scan.proofs.erosion.keep_surrounded.Given as goal

abbrev pub invariant-loop-v : goal.invariant-loop-v
invariant-loop-v l = KeepsEroded l.ground.image.now l.ground.vectors.now (take l.v-index l.v-items) (l.ground.span.first + l.start) l.fn.marks l.marks
