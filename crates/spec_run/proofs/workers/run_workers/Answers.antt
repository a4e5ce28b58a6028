use Rattle.std.proofs.Common.{rules}
use Rattle.spec_run.proofs.Numbers.{numbers_by_place}
use Rattle.spec_run.proofs.workers.run_workers.Goals as goal

pub returns-clause-numbers : goal.returns-clause-numbers
returns-clause-numbers g c = numbers_by_place (λ h. h.number) c.args.helpers.now c.for_each_mut.new.s (search rules) (λ k d below. search rules)
