use Rattle.std.proofs.Common.{◌+◌, take}
use Rattle.ti_scan.specs.Window.{KeepsShown}
use Rattle.ti_scan.proofs.scan.keep_shown.Given as goal

abbrev pub invariant-loop-datum : goal.invariant-loop-datum
invariant-loop-datum l = KeepsShown l.source (take l.datum-index l.event) (l.span.first + l.start) l.initial.marks l.marks
