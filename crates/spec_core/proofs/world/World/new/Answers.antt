use Rattle.std.proofs.Common.{arith, length, ap, sym, ◌∙◌, slice_get}
use Rattle.spec_core.proofs.Fitting.{idle_fits}
use Rattle.spec_core.proofs.world.World.new.Goals as goal

pub returns-clause-fits : goal.returns-clause-fits
returns-clause-fits c = record {
  board = c.in_ok-board.ensures.fits;
  behind = omega arith;
  near = omega (arith, ap length c.in_ok-board.ensures.log);
  workers = λ n w is. idle_fits c.args.plan.now c.in_ok-board.board.next 0 c.loop.counter n w (ap (λ l. slice_get l n) (sym c.loop.invariant) ∙ is);
}
