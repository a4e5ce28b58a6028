use Rattle.std.proofs.Common.{◌∙◌, sym, ap, arith}
use Rattle.shared_grid.proofs.Steps.{meets_as}
use Rattle.shared_grid.proofs.grid.SharedGrid.give_back.Goals as goal

pub join_seat-requires : goal.join_seat-requires
join_seat-requires g c =
    let s = c.self.invariant in
    let i = c.into.invariant in
    let f = c.from.invariant in (
      i.0 ∙ sym s.0,
      f.0 ∙ sym s.0,
      ap (λ m. m.1) f.1,
      omega (arith, s.1),
      meets_as g.N.Naming.plan g.N.Naming.story s.2.is_plan.path s.2.is_log _ _ _ _ _ _ i.1 f.1,
    )
