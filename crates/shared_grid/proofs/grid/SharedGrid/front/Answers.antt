use Rattle.std.proofs.Common.{◌∙◌, sym, arith}
use Rattle.shared_grid.proofs.Steps.{fronts_as}
use Rattle.shared_grid.proofs.grid.SharedGrid.front.Goals as goal

pub load-front-requires : goal.load-front-requires
load-front-requires g c =
    let s = c.self.invariant in
    let i = c.pass.invariant in (
      i.0 ∙ sym s.0,
      omega (arith, s.1),
      fronts_as g.N.Naming.plan g.N.Naming.story s.2.is_plan.path s.2.is_log _ _ _ _ i.1,
    )
