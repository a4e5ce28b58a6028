use Rattle.std.proofs.Common.{◌≡◌, ap, get_or, subst, sym, ◌∙◌}
use Rattle.commit_board.specs.Board.{Fits}
use Rattle.spec_core.specs.World.{Machine}
use Rattle.spec_core.proofs.Placing.{fits_here, offer_sound}
use Rattle.spec_core.proofs.world.World.offer.Goals as goal

pub returns-in-Some-clause-board : goal.returns-in-Some-clause-board
returns-in-Some-clause-board c =
    let p = c.args.plan.now in
    let m = c.args.self.now in
    let at = c.in-Some.ensures.some in
    let w = c.index_mut.result.now in
    let read : w ≡ get_or m.workers c.in-Some.place w = c.index_mut.ensures.value ∙ ap (λ (m : Machine). get_or m.workers c.in-Some.place w) c.self.view_is in
    let fits = fits_here m c.args.number c.in-Some.place w at.1 at.0 read p c.requires.fits in
    c.offer_of.ensures.fits p (subst (λ (m : Machine). Fits p m.board) (sym c.self.view_is) c.requires.fits.board) (offer_sound p m.board.next m.shown w fits)
