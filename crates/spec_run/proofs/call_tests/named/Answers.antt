use Rattle.std.proofs.Common.{sym, subst}
use Rattle.event_retrieve.specs.Plan.{IsLog}
use Rattle.event_retrieve.proofs.Logs.{IsLog-sequential}
use Rattle.spec_run.proofs.call_tests.named.Goals as goal

pub new-requires-clause-story : goal.new-requires-clause-story
new-requires-clause-story g c κs within = subst (IsLog g.N.Naming.plan) (sym c.requires.story) (IsLog-sequential g.N.Naming.plan)
