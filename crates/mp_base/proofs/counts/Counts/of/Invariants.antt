use Rattle.std.proofs.Common.{◌≡◌, take}
use Rattle.mp_base.proofs.counts.Counts.of.Given as goal

abbrev pub invariant-loop-part : goal.invariant-loop-part
invariant-loop-part l = l.counts.items ≡ take l.part-index l.parts
