use Rattle.std.proofs.Common.{◌∙◌, sym, arith}
use Rattle.shared_grid.proofs.Steps.{notes}
use Rattle.shared_grid.proofs.grid.SharedGrid.reader.Goals as goal

pub split_seat-seat-requires : goal.split_seat-seat-requires
split_seat-seat-requires g c =
    let s = c.self.invariant in
    (c.from.invariant.0 ∙ sym s.0, omega (arith, s.1), notes g.N.Naming.plan g.N.Naming.story s.2.is_plan.path s.2.is_log _ _)
