use Rattle.std.proofs.Common.{◌≡◌, ℕ, ◌+◌, List, [], ◌∷◌, ◌++◌, length, take, get_or, ap, sym, subst, ◌∙◌}
use Rattle.std.proofs.lemmas.List.{take_more, length_push}
use Rattle.std.proofs.lemmas.List.Elements.{All-nil, All-push}
use Rattle.mp_base.specs.Grid.{IsBelow}
use Rattle.spec_steps.specs.Answers.{NamesCategories, category_in}
use Rattle.spec_steps.specs.declared.answer.Answer.{Answer}
use Rattle.spec_steps.specs.declared.step.Step.TheVariants.{Claim}
use Rattle.spec_core.specs.Run.{after_all, answers_of}
use Rattle.spec_core.specs.World.{Machine, after, answer_of}
use Rattle.spec_core.proofs.Runs.{after_more, after_none, answers_more, answers_none}
use Rattle.spec_core.proofs.run.run_steps.Goals as goal

pub loop-step-init : goal.loop-step-init
loop-step-init g c =
    let p = c.args.plan.now in
    let none = c.in_ok-answers.ensures.items in
    record {
      answers = none ∙ sym (answers_none p c.args.world.now);
      world = sym (after_none p c.args.world.now);
      fits = c.requires.fits;
      count = ap length none;
      named = subst (NamesCategories p.source.cats) (sym none) (All-nil (λ (a : Answer). IsBelow p.source.cats (category_in a)));
    }

pub loop-step-preserved : goal.loop-step-preserved
loop-step-preserved g c =
    let p = c.args.plan.now in
    let first = c.args.world.now in
    let before = take c.loop-step.step-index c.args.steps.now in
    let s = get_or c.args.steps.now c.loop-step.step-index (Claim 0) in
    let more : take (c.loop-step.step-index + 1) c.args.steps.now ≡ before ++ s ∷ [] = take_more c.args.steps.now c.loop-step.step-index (Claim 0) c.loop-step-test.true in
    let so_far = c.loop-step.invariant in
    let items = c.in_ok-push.ensures.items in
    let answer : c.step.result ≡ answer_of p (after_all p first before) s = c.step.ensures.answer ∙ ap (λ (m : Machine). answer_of p m s) so_far.world in
    record {
      answers =
          items ∙ ap (λ (a : Answer). c.loop-step.answers.items ++ a ∷ []) answer
          ∙ ap (λ (l : List Answer). l ++ answer_of p (after_all p first before) s ∷ []) so_far.answers
          ∙ sym (answers_more p first before s) ∙ ap (answers_of p first) (sym more);
      world = c.step.ensures.world ∙ ap (λ (m : Machine). after p m s) so_far.world ∙ sym (after_more p first before s) ∙ ap (after_all p first) (sym more);
      fits = c.step.ensures.fits;
      count = ap length items ∙ length_push c.loop-step.answers.items c.step.result ∙ ap (λ (n : ℕ). n + 1) so_far.count;
      named =
          subst (NamesCategories p.source.cats) (sym items)
          (All-push (λ (a : Answer). IsBelow p.source.cats (category_in a)) c.loop-step.answers.items c.step.result so_far.named c.step.ensures.named);
    }
