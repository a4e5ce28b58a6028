use Rattle.std.proofs.Common.{◌≡◌}
use Rattle.event_retrieve.specs.Plan.{nodes_in}
use Rattle.spec_run.specs.Told.{ClaimTells}
use Rattle.spec_run.proofs.workers.work.Given as goal

abbrev pub invariant-loop : goal.invariant-loop
invariant-loop g l = record {
  number : l.helper.number ≡ l.fn.helper.number;
  tells : ClaimTells g.N.Naming.window (nodes_in l.sim) l.helper.pass l.claim;
}
