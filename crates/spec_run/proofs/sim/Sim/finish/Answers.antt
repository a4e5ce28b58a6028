use Rattle.std.proofs.Common.{◌<◌, All, subst}
use Rattle.mp_base.specs.declared.cell.Entry.{Entry}
use Rattle.event_retrieve.specs.Plan.{Plan}
use Rattle.spec_run.proofs.sim.Sim.finish.Goals as goal

pub returns-clause-cats : goal.returns-clause-cats
returns-clause-cats g c =
    subst (λ (p : Plan). All (λ (e : Entry). e.cat < p.source.cats) c.finish.result.items) c.self.view_is c.finish.ensures.cats
