use Rattle.mps_scan.proofs.TextLemmas.{any_plan}
use Rattle.mps_scan.proofs.plan.plan_of_level.Goals as goal

pub returns-in_err-start-clause-any_plan : goal.returns-in_err-start-clause-any_plan
returns-in_err-start-clause-any_plan c = any_plan c.args.setup.now c.args.level

pub returns-clause-any_plan : goal.returns-clause-any_plan
returns-clause-any_plan c = any_plan c.args.setup.now c.args.level
