use Rattle.std.proofs.Common.{arith, ◌∙◌, ap, sym, slice_get}
use Rattle.event_retrieve.specs.Plan.{Plan, nodes_in}
use Rattle.event_retrieve.specs.Sequential.{sequential}
use Rattle.commit_board.specs.Board.{front}
use Rattle.shared_grid.specs.Rule.{Progress}
use Rattle.spec_run.proofs.Showing.{entry_at}
use Rattle.spec_run.proofs.bench.Bench.settle.Goals as goal

pub publish-requires-clause-next : goal.publish-requires-clause-next
publish-requires-clause-next g c κs within =
    let p = c.args.plan.now in
    let b = c.self.inside.board in
    let story = c.self.invariant.story_is ∙ ap (λ (q : Plan). sequential q) (sym c.requires.plan) in
    let stored = ap (λ (w : Progress). w.stored) c.self.invariant.shown in
    let nodes = c.self.invariant.fits.whole ∙ ap (λ (q : Plan). nodes_in q) (sym c.requires.plan) in
    let next = c.in-Committed.ensures.entry in
    (λ i. slice_get (story i) (stored i)) ∙ entry_at p (front b) _ (omega (arith, next.left, nodes)) next.entry
