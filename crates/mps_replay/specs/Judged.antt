-- Replays over judged inputs.
use Rattle.std.specs.Prelude.{◌≡◌, ℕ, List, length, Result}
use Rattle.seq_engine.specs.Setup.{IsSetup}
use Rattle.spec_steps.specs.declared.schedule.Schedule.{Schedule}
use Rattle.mps_inputs.specs.Answers.{Ends, Seen, Serves}
use Rattle.mps_inputs.specs.Inputs.{codes_in}
use Rattle.mps_inputs.specs.Judged.{IsJudged}
use Rattle.mps_inputs.specs.declared.fault.Fault.{Fault}
use Rattle.mps_inputs.specs.declared.inputs.Inputs.{Inputs}
use Rattle.mps_inputs.specs.declared.judging.Judged.{Judged}
use Rattle.mps_replay.specs.Outcome.{replay_done, replay_steps}

-- a schedule can be replayed over judged inputs
pub record CanReplay (judged : Judged) : Type 0 where
  pub setup : IsSetup judged.setup
  pub cats : judged.setup.cats ≡ length judged.parameters.categories
  pub codes : judged.codes ≡ codes_in judged.parameters
  pub levels : judged.setup.levels ≡ judged.parameters.levels

-- what reading a schedule of this name and replaying it over judged inputs answers
abbrev pub ServesJudged : List ℕ → Judged → Seen → Seen → Result (Unit {0}) Fault → Type 0
ServesJudged name judged before now answer = (inputs : Inputs) → IsJudged inputs judged → Serves (replay_steps name inputs) before now answer

-- what replaying a schedule over judged inputs ends in
abbrev pub EndsJudged : Schedule → Judged → Seen → Seen → Result (Unit {0}) Fault → Type 0
EndsJudged s judged before now answer = (inputs : Inputs) → IsJudged inputs judged → Ends (replay_done inputs s) before now answer
