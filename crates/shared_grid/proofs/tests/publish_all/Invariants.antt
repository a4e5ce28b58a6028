use Rattle.std.proofs.Common.{◌≡◌}
use Rattle.shared_grid.proofs.tests.publish_all.Given as goal

abbrev pub invariant-loop : goal.invariant-loop
invariant-loop g l = l.writer ≡ record { stored = 0; front = 0 }

abbrev pub invariant-loop-i : goal.invariant-loop-i
invariant-loop-i g l = l.writer ≡ record { stored = l.i; front = l.i }
