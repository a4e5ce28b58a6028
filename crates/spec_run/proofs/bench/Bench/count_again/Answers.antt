use Rattle.std.proofs.Common.{arith, ◌<◌, ◌∙◌, ap, subst, sym}
use Rattle.event_retrieve.specs.Plan.{Plan}
use Rattle.event_retrieve.specs.declared.retrieval.Retained.{Retained}
use Rattle.commit_board.specs.Board.{Fits, State, front, front_offer, with_front}
use Rattle.commit_board.proofs.Again.{recounted_is}
use Rattle.spec_run.specs.Bench.{counted_again}
use Rattle.spec_run.proofs.bench.Bench.count_again.Goals as goal

pub returns : goal.returns
returns g c =
    let p = c.args.plan.now in
    let b = c.self.inside.board in
    let fits : Fits p b = subst (λ (q : Plan). Fits q b) (sym c.requires.plan) c.self.invariant.fits in
    let left : front b < b.nodes = subst (λ (s : State). front s < s.nodes) (sym c.self.view_is) c.requires.left in
    let same = recounted_is p b c.recount.result fits (omega (arith, left, fits.whole)) c.recount.ensures.retained in
    record { board = c.recount.ensures.board ∙ ap (λ (r : Retained). with_front b (front_offer p b r)) same ∙ ap (counted_again p) c.self.view_is }
