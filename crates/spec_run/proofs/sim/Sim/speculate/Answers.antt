use Rattle.std.proofs.Common.{arith, List, ap, length}
use Rattle.mp_base.specs.declared.cell.Entry.{Entry}
use Rattle.event_retrieve.specs.Plan.{Plan, nodes_in}
use Rattle.event_retrieve.proofs.Logs.{length-log_of}
use Rattle.spec_run.proofs.sim.Sim.speculate.Goals as goal

pub returns-then-front-index-clause-within : goal.returns-then-front-index-clause-within
returns-then-front-index-clause-within g c =
    let p = g.N.Naming.plan in
    let story = ap (λ (l : List Entry). length l) c.self.invariant.1 in
    let plan = ap (λ (q : Plan). nodes_in q) c.self.invariant.0 in
    let view = ap (λ (q : Plan). nodes_in q) c.self.view_is in
    omega (arith, c.front-front.ensures.seen, c.front-front.ensures.within, story, length-log_of p (nodes_in p), plan, view)
