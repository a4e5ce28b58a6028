use Rattle.std.proofs.Common.{take}
use Rattle.ti_scan.specs.Window.{AreMargins}
use Rattle.ti_scan.proofs.margins.margins_of.Given as goal

abbrev pub invariant-loop-v : goal.invariant-loop-v
invariant-loop-v l = AreMargins l.margins (take l.v-index l.vectors)
