use Rattle.std.proofs.Common.{◌≡◌, take}
use Rattle.servo_fraction.proofs.parts.Weights.of.Given as goal

abbrev pub invariant-loop-part : goal.invariant-loop-part
invariant-loop-part l = l.weights.items ≡ take l.part-index l.parts
