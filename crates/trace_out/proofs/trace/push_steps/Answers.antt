use Rattle.std.proofs.Common.{◌≡◌, ◌+◌, ◌++◌, length, drop, get_or, arith, subst, sym, ◌∙◌}
use Rattle.std.proofs.lemmas.List.Elements.{All-get_or}
use Rattle.mp_base.specs.Grid.{IsBelow}
use Rattle.spec_steps.specs.Answers.{category_in}
use Rattle.spec_steps.specs.declared.answer.Answer.{Answer}
use Rattle.spec_steps.specs.declared.step.Step.TheVariants.{Claim}
use Rattle.trace_out.specs.Trace.{step_line, steps_text}
use Rattle.trace_out.proofs.StepLemmas.{lines_more, lines_over}
use Rattle.trace_out.proofs.trace.push_steps.Goals as goal

pub loop-index-preserved : goal.loop-index-preserved
loop-index-preserved c =
    let codes = c.args.codes.now in
    let steps = c.args.steps.now in
    let answers = c.args.answers.now in
    let i = c.loop-index.index in
    let committed = c.loop-index.committed in
    let answer = c.index-answers-index.result in
    let line = step_line codes committed (get_or steps i (Claim 0)) answer in
    let now : c.push_step.new.to.items ≡ c.loop-index.to.items ++ line = c.in_ok-push_step.ensures in
    record {
      few = omega (arith, c.commits_in-committed.ensures.few);
      text =
          (λ j. now j ++ steps_text codes (committed + c.commits_in-committed.ensures.value j) (drop (i + 1) steps) (drop (i + 1) answers))
          ∙ lines_more codes steps answers c.loop-index.to.items committed i (Claim 0) answer (omega (arith, c.requires.as_many)) (omega arith) (sym c.index-answers-index.is)
          ∙ c.loop-index.invariant.text;
    }

pub returns : goal.returns
returns c =
    sym (lines_over c.args.codes.now c.args.steps.now c.args.answers.now c.loop-index.to.items c.loop-index.committed c.loop-index.index (omega (arith, c.requires.as_many)))
    ∙ c.loop-index.invariant.text

pub push_step-requires : goal.push_step-requires
push_step-requires c =
    let codes = c.args.codes.now in
    let answers = c.args.answers.now in
    let i = c.loop-index.index in
    let answer = c.index-answers-index.result in
    let below = λ (a : Answer). IsBelow (length codes) (category_in a) in
    subst below (sym c.index-answers-index.is) (All-get_or below answers i answer (omega arith) c.requires.named)
