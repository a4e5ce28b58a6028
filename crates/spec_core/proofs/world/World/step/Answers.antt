use Rattle.std.proofs.Common.{sym, subst}
use Rattle.commit_board.specs.Board.{Fits, IsBoard}
use Rattle.mp_base.specs.Grid.{IsBelow}
use Rattle.spec_steps.specs.Answers.{category_in}
use Rattle.spec_steps.specs.declared.answer.Answer.{Answer}
use Rattle.spec_core.specs.World.{FitsPlan, Machine}
use Rattle.spec_core.proofs.Fitting.{fits_after}
use Rattle.spec_core.proofs.Naming.{named_by}
use Rattle.spec_core.proofs.world.World.step.Goals as goal

pub returns-clause-fits : goal.returns-clause-fits
returns-clause-fits g c =
    let p = c.args.plan.now in
    let board = subst (λ (m : Machine). IsBoard m.board) c.self.view_is c.log.ensures.board in
    subst (FitsPlan p) (sym c.take.ensures.world)
    (fits_after p c.args.self.now c.args.step c.length.ensures.plan board c.requires.fits (subst (λ (m : Machine). Fits p m.board) c.take.ensures.world c.take.ensures.board))

pub returns-clause-named : goal.returns-clause-named
returns-clause-named g c =
    let p = c.args.plan.now in
    subst (λ (a : Answer). IsBelow p.source.cats (category_in a)) (sym c.take.ensures.answer)
    (named_by p c.args.self.now c.args.step c.length.ensures.plan c.requires.fits.board (subst (λ (m : Machine). Fits p m.board) c.take.ensures.world c.take.ensures.board))
