use Rattle.ti_scan.proofs.Adding.{AddsTo}
use Rattle.ti_scan.proofs.marks.add_marked.Given as goal

abbrev pub invariant-loop-k : goal.invariant-loop-k
invariant-loop-k l = AddsTo l.marks l.bytes l.initial.parts l.parts l.k
