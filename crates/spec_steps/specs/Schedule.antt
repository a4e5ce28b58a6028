-- What a schedule file says, or why it is refused.
use Rattle.std.specs.Prelude.{◌≡◌, ℕ, ◌≤◌, ◌<◌, ◌^◌, Bool, nat_lt, List, [], ◌∷◌, length, Option, Some, None, is_none, Result, Ok, Err, if◌then◌else◌, All}
use Rattle.std.specs.List.{filter_map, find}
use Rattle.std.specs.Option.{option_map_or}
use Rattle.mp_text.specs.Chain.{◌>>=◌}
use Rattle.spec_steps.specs.declared.schedule.Schedule.{Schedule}
use Rattle.spec_steps.specs.declared.schedule.ScheduleError.{ScheduleError}
use Rattle.spec_steps.specs.declared.schedule.ScheduleError.TheVariants.{BadLine, TooLong, NoMemory}
use Rattle.spec_steps.specs.declared.step.Step.{Step}
use Rattle.spec_steps.specs.declared.words.Heading.{Heading}
use Rattle.spec_steps.specs.Lines.{end_of, kept_in, lines_left}
use Rattle.spec_steps.specs.Steps.{IsStepOf}
use Rattle.spec_steps.specs.Words.{heading_of, is_title, step_of}

-- what a function returned is what reading gives, unless memory ran out
abbrev pub Fails : {X : Type 0} → ScheduleError → Result X ScheduleError → Type 0
Fails NoMemory read = Unit {0}
Fails TooLong read = read ≡ Err TooLong
Fails (BadLine n) read = read ≡ Err (BadLine n)

abbrev pub Gives : {X : Type 0} → Result X ScheduleError → Result X ScheduleError → Type 0
Gives (Ok x) read = read ≡ Ok x
Gives (Err e) read = Fails e read

-- a line is no step of so many workers
abbrev pub is_no_step : ℕ → ℕ × List ℕ → Bool
is_no_step workers line = is_none (step_of workers line.1)

-- a step a line, or the first line that is none
abbrev pub steps_in : ℕ → List (ℕ × List ℕ) → Result (List Step) ScheduleError
steps_in workers lines =
    option_map_or (λ line. Err (BadLine line.0)) (find (is_no_step workers) lines) (Ok (filter_map (λ line. step_of workers line.1) lines))

abbrev pub with_steps : Heading → List Step → Schedule
with_steps h steps = record { realisation = h.realisation; level = h.level; workers = h.workers; steps = steps }

-- the schedule of a heading and the lines behind it, or the heading's line where it is none
abbrev pub below_heading : ℕ → Option Heading → List (ℕ × List ℕ) → Result Schedule ScheduleError
below_heading n None lines = Err (BadLine n)
below_heading n (Some h) lines = steps_in h.workers lines >>= λ steps. Ok (with_steps h steps)

-- the schedule of the lines behind the title, the first of which is the heading
abbrev pub below_title : ℕ → ℕ → ℕ → List (ℕ × List ℕ) → Result Schedule ScheduleError
below_title realisations levels end [] = Err (BadLine end)
below_title realisations levels end (heading ∷ lines) = below_heading heading.0 (heading_of realisations levels heading.1) lines

-- the schedule of lines that aren't skipped, the first of which is the title, or the first line that doesn't fit
abbrev pub schedule_in : ℕ → ℕ → ℕ → List (ℕ × List ℕ) → Result Schedule ScheduleError
schedule_in realisations levels end [] = Err (BadLine end)
schedule_in realisations levels end (title ∷ lines) = if is_title title.1 then below_title realisations levels end lines else Err (BadLine title.0)

-- the schedule of a file for so many realisations and levels, or why it is refused
unfoldable pub schedule_of : ℕ → ℕ → List ℕ → Result Schedule ScheduleError
schedule_of realisations levels file =
    let left = lines_left 0 file in
    if nat_lt (2 ^ 22) (length file) then Err TooLong else schedule_in realisations levels (end_of left) (kept_in left)

-- a schedule for so many realisations and levels
pub record IsSchedule (realisations levels : ℕ) (s : Schedule) : Type 0 where
  pub realisation : s.realisation < realisations
  pub level_some : 1 ≤ s.level
  pub level : s.level ≤ levels
  pub workers_some : 1 ≤ s.workers
  pub workers : s.workers ≤ 64
  pub steps : All (IsStepOf s.workers) s.steps
