use Rattle.std.proofs.Common.{◌≡◌, ◌++◌, length}
use Rattle.std.specs.Prelude.{All}
use Rattle.std.specs.List.{filter_map, find}
use Rattle.spec_steps.specs.Lines.{kept_in}
use Rattle.spec_steps.specs.Schedule.{is_no_step}
use Rattle.spec_steps.specs.Steps.{IsStepOf}
use Rattle.spec_steps.specs.Words.{step_of}
use Rattle.spec_steps.proofs.reading.steps_in.Given as goal

abbrev pub invariant-loop-line : goal.invariant-loop-line
invariant-loop-line l = record {
  bad : find (is_no_step l.workers) (kept_in l.initial.lines) ≡ find (is_no_step l.workers) (kept_in l.lines);
  good : filter_map (λ line. step_of l.workers line.1) (kept_in l.initial.lines) ≡ l.steps.items ++ filter_map (λ line. step_of l.workers line.1) (kept_in l.lines);
  steps : All (IsStepOf l.workers) l.steps.items;
}

abbrev pub decreases-loop-line : goal.decreases-loop-line
decreases-loop-line l = length (kept_in l.lines)
