-- The trace of a level that is run by the steps of a schedule.
use Rattle.std.specs.Prelude.{◌≡◌, ℕ, ◌==◌, ◌-◌, length, Option, Some, if◌then◌else◌}
use Rattle.commit_board.specs.Board.{front}
use Rattle.event_retrieve.specs.Plan.{Plan, nodes_in}
use Rattle.seq_engine.specs.Realisation.{plan_over, values_at}
use Rattle.seq_engine.specs.declared.setup.Setup.{Setup}
use Rattle.spec_core.specs.Run.{after_all, answers_of}
use Rattle.spec_core.specs.World.{first_machine}
use Rattle.spec_steps.specs.Answers.{NamesCategories}
use Rattle.spec_steps.specs.declared.schedule.Schedule.{Schedule}
use Rattle.mps_replay.specs.declared.kept.Trace.{Trace}

-- what the steps of a schedule are answered on a plan, and how long the log is behind the last of them
abbrev pub trace_of : Plan → Schedule → ℕ → Trace
trace_of p s window =
    let first = first_machine p s.workers window in
    record {
      answers = answers_of p first s.steps;
      log = record { entries = front (after_all p first s.steps).board; nodes = nodes_in p };
    }

-- a trace that can be told: an answer for each step, by categories that there are
pub record IsTold (cats : ℕ) (s : Schedule) (trace : Trace) : Type 0 where
  pub count : length trace.answers ≡ length s.steps
  pub named : NamesCategories cats trace.answers

-- What a runner goes by that runs one level by a schedule, and what it has kept of that level.
pub record Replaying : Type 0 where
  pub schedule : Schedule
  pub window : ℕ
  pub trace : Option Trace

abbrev pub replaying : Schedule → ℕ → Option Trace → Replaying
replaying schedule window trace = record { schedule = schedule; window = window; trace = trace }

-- the trace of the schedule's level is kept; any other level leaves nothing behind
abbrev pub kept_after : Replaying → Plan → Replaying
kept_after r p = if p.level == r.schedule.level then replaying r.schedule r.window (Some (trace_of p r.schedule r.window)) else r

-- such a runner before a level, the level's plan, and the runner afterwards
pub record Ran (before : Replaying) (p : Plan) (now : Replaying) : Type 0 where
  pub kept : now ≡ kept_after before p
  pub told : p.level ≡ before.schedule.level → IsTold p.source.cats before.schedule (trace_of p before.schedule before.window)

-- the plan of a level of a realisation, over the values of the coarser levels
abbrev pub plan_of_level : Setup → ℕ → ℕ → Plan
plan_of_level s realisation level = plan_over s realisation level (values_at s realisation (s.levels - level))

-- the trace of the schedule's level, in the schedule's realisation
abbrev pub trace_in : Setup → Schedule → ℕ → Trace
trace_in setup s window = trace_of (plan_of_level setup s.realisation s.level) s window
