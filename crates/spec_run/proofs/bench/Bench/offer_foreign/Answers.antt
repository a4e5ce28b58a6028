use Rattle.std.proofs.Common.{arith, ◌≡◌, ◌≤◌, ◌∙◌, ap, refl, subst, sym}
use Rattle.event_retrieve.specs.Plan.{Plan, nodes_in}
use Rattle.commit_board.specs.declared.keep.Keep.{Keep}
use Rattle.commit_board.specs.Board.{State, front}
use Rattle.spec_run.specs.Told.{TakenTells}
use Rattle.spec_run.proofs.Draining.{front_offered}
use Rattle.spec_run.proofs.Vetted.{fault_tells, taken_tells}
use Rattle.spec_run.proofs.bench.Bench.offer_foreign.Goals as goal

pub returns-in-Ok-clause-tells : goal.returns-in-Ok-clause-tells
returns-in-Ok-clause-tells g c =
    let p = c.args.plan.now in
    let b = c.args.self.now in
    let o = c.args.offer in
    let sound = c.in-Ok.ensures.sound.0 refl in
    let here : o.index ≡ front b = sound.0 ∙ ap (λ (s : State). front s) c.self.view_is in
    let now = ap (λ (s : State). front s) c.offer_and_drain.ensures.board in
    let taken = subst (λ (k : Keep). TakenTells o.index k) (sym c.offer_and_drain.ensures.answer) (taken_tells b o here) in
    (sound.1, (sound.1.in_path, omega (arith, here, front_offered p b o, now, c.offer_and_drain.ensures.seen)), taken)

pub returns-in-Err-clause-tells : goal.returns-in-Err-clause-tells
returns-in-Err-clause-tells g c =
    let p = c.args.plan.now in
    let b = c.self.inside.board in
    let nodes : b.nodes ≡ nodes_in p = c.self.invariant.fits.whole ∙ ap (λ (q : Plan). nodes_in q) (sym c.requires.plan) in
    let same = ap (λ (s : State). front s) c.self.view_is in
    let seen : front b ≤ c.show_to.new.pass = omega (arith, same, c.show_to.ensures.seen) in
    (c.in-Err.ensures.means, fault_tells p b c.args.offer c.show_to.new.pass c.log.ensures.board nodes seen c.in-Err.fault (sym c.in-Err.ensures.fault))
