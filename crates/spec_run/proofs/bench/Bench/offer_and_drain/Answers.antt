use Rattle.std.proofs.Common.{arith, ◌∙◌, ap, subst, sym}
use Rattle.commit_board.specs.declared.keep.Keep.{Keep}
use Rattle.commit_board.specs.Board.{State, after_keep, front}
use Rattle.spec_run.specs.Bench.{drained}
use Rattle.spec_run.specs.Told.{KeepTells}
use Rattle.spec_run.proofs.Draining.{front_offered}
use Rattle.spec_run.proofs.Telling.{keep_tells}
use Rattle.spec_run.proofs.bench.Bench.offer_and_drain.Goals as goal

pub returns-clause-tells : goal.returns-clause-tells
returns-clause-tells g c =
    let p = c.args.plan.now in
    let b = c.self.inside.board in
    let o = c.args.offer in
    let seen = c.show_to.new.pass in
    let kept = c.keep-keep.ensures.board ∙ ap (λ (k : Keep). after_keep b o k) c.keep-keep.ensures.answer in
    let now = ap (λ (s : State). front s) (c.drain.ensures.board ∙ ap (drained p) kept) in
    subst (λ (k : Keep). KeepTells o.index seen k) (sym c.keep-keep.ensures.answer)
    (keep_tells b o seen (omega (arith, front_offered p b o, now, c.show_to.ensures.seen)))
