use Rattle.std.proofs.Common.{◌≡◌, ◌≤◌, take}
use Rattle.std.specs.List.{sum}
use Rattle.servo_fraction.proofs.exact.pick.Given as goal

abbrev pub invariant-loop-k : goal.invariant-loop-k
invariant-loop-k l = record { so_far : l.sum ≡ sum (take l.k l.parts); below : l.sum ≤ l.point }
