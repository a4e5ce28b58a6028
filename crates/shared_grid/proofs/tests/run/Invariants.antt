use Rattle.std.proofs.Common.{◌≡◌}
use Rattle.shared_grid.proofs.tests.run.Given as goal

abbrev pub invariant-loop : goal.invariant-loop
invariant-loop g l = l.writer ≡ record { stored = 0; front = 0 }
