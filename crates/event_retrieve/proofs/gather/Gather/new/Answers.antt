use Rattle.std.proofs.Common.{sym, subst}
use Rattle.event_retrieve.specs.Gather.{LiesBetween}
use Rattle.event_retrieve.proofs.Gathered.{empty_between}
use Rattle.event_retrieve.proofs.gather.Gather.new.Goals as goal

pub returns-clause-between : goal.returns-clause-between
returns-clause-between c = λ p seen. subst (λ e. LiesBetween p seen (record { index = c.args.index; position = 1; event = e })) (sym c.empty.ensures) (empty_between p seen c.args.index)
