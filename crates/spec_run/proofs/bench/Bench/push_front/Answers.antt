use Rattle.std.proofs.Common.{arith, ◌≡◌, ◌∙◌, ap, subst, sym}
use Rattle.event_retrieve.specs.Plan.{Plan, nodes_in}
use Rattle.commit_board.specs.Board.{State, front}
use Rattle.spec_run.specs.declared.bench.Pushed.{Pushed}
use Rattle.spec_run.specs.Bench.{after_push, pushed_of}
use Rattle.spec_run.specs.Told.{PushTells}
use Rattle.spec_run.proofs.Telling.{push_tells}
use Rattle.spec_run.proofs.bench.Bench.push_front.Goals as goal

pub returns-clause-tells : goal.returns-clause-tells
returns-clause-tells g c =
    let p = c.args.plan.now in
    let b = c.self.inside.board in
    let seen = c.show_to.new.pass in
    let nodes : b.nodes ≡ nodes_in p = c.self.invariant.fits.whole ∙ ap (λ (q : Plan). nodes_in q) (sym c.requires.plan) in
    let pushed = ap (λ (s : State). front s) (c.push-pushed.ensures.board ∙ ap (after_push p) (sym c.self.view_is)) in
    subst (λ (a : Pushed). PushTells (nodes_in p) seen a) (sym (c.push-pushed.ensures.answer ∙ ap pushed_of (sym c.self.view_is)))
    (push_tells p b seen c.log.ensures.board nodes (omega (arith, pushed, c.show_to.ensures.seen)))
