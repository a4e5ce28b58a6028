use Rattle.std.proofs.Common.{◌≡◌, take, length}
use Rattle.spec_steps.specs.Answers.{NamesCategories}
use Rattle.spec_core.specs.Run.{after_all, answers_of}
use Rattle.spec_core.specs.World.{FitsPlan}
use Rattle.spec_core.proofs.run.run_steps.Given as goal

abbrev pub invariant-loop-step : goal.invariant-loop-step
invariant-loop-step g l = record {
  answers : l.answers.items ≡ answers_of l.plan l.fn.world (take l.step-index l.steps);
  world : l.world ≡ after_all l.plan l.fn.world (take l.step-index l.steps);
  fits : FitsPlan l.plan l.world;
  count : length l.answers.items ≡ l.step-index;
  named : NamesCategories l.plan.source.cats l.answers.items;
}
