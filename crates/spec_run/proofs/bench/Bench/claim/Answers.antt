use Rattle.std.proofs.Common.{arith, ◌≡◌, ◌∙◌, ap, subst, sym}
use Rattle.event_retrieve.specs.Plan.{Plan, nodes_in}
use Rattle.commit_board.specs.declared.claim.Claim.{Claim}
use Rattle.commit_board.specs.Board.{State, front}
use Rattle.spec_run.specs.Told.{ClaimTells}
use Rattle.spec_run.proofs.Telling.{claim_tells, front_claimed}
use Rattle.spec_run.proofs.bench.Bench.claim.Goals as goal

pub returns-clause-tells : goal.returns-clause-tells
returns-clause-tells g c =
    let b = c.self.inside.board in
    let seen = c.show_to.new.pass in
    let nodes : b.nodes ≡ nodes_in c.args.plan.now = c.self.invariant.fits.whole ∙ ap (λ (q : Plan). nodes_in q) (sym c.requires.plan) in
    let same : front c.claim-claim.new.self ≡ front b = ap (λ (s : State). front s) c.claim-claim.ensures.board ∙ front_claimed b c.claim-claim.result in
    subst (λ (a : Claim). ClaimTells g.N.Naming.window (nodes_in c.args.plan.now) seen a) (sym c.claim-claim.ensures.answer)
    (claim_tells b g.N.Naming.window (nodes_in c.args.plan.now) seen c.log.ensures.board c.self.invariant.window_is nodes (omega (arith, same, c.show_to.ensures.seen)))
