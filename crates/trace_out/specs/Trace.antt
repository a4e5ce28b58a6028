-- The text of a trace.
use Rattle.std.specs.Prelude.{ℕ, ◌+◌, ◌++◌, ℤ, List, [], ◌∷◌, Option, codes}
use Rattle.std.specs.Fmt.{decimal}
use Rattle.std.specs.Option.{option_to_list}
use Rattle.realisation_out.specs.Text.{rows_text}
use Rattle.spec_steps.specs.declared.answer.Answer.{Answer}
use Rattle.spec_steps.specs.declared.schedule.Schedule.{Schedule}
use Rattle.spec_steps.specs.declared.step.Step.{Step}
use Rattle.spec_steps.specs.Steps.{step_name, step_worker}
use Rattle.trace_out.specs.declared.trace.LogLength.{LogLength}
use Rattle.trace_out.specs.Answers.{answer_text, commits_in, told}

-- the name of a step, and its worker where it has one
abbrev pub step_text : Step → List ℕ
step_text step = told (step_name step) (option_to_list (step_worker step))

-- a step and what it was answered, where so many nodes were committed before
abbrev pub step_line : List ℤ → ℕ → Step → Answer → List ℕ
step_line categories committed step answer = step_text step ++ (codes " -> " ++ (answer_text categories committed answer ++ codes "\n"))

-- the line of each step, where so many nodes were committed before the first: an entry's place is the number of commits before it
abbrev pub steps_text : List ℤ → ℕ → List Step → List Answer → List ℕ
steps_text categories committed [] answers = []
steps_text categories committed (step ∷ steps) [] = []
steps_text categories committed (step ∷ steps) (answer ∷ answers) =
    step_line categories committed step answer ++ steps_text categories (committed + commits_in answer) steps answers

-- the entries of the log, of so many nodes
abbrev pub log_line : LogLength → List ℕ
log_line log = codes "log " ++ (decimal log.entries ++ (codes " of " ++ (decimal log.nodes ++ codes "\n")))

abbrev pub realisation_line : ℕ → List ℕ
realisation_line realisation = told (codes "realisation") (realisation ∷ []) ++ codes "\n"

-- the whole trace: the steps with their answers, how far the board came by them, and the cells of the realisation
unfoldable pub trace_text : List ℤ → Schedule → List Answer → LogLength → List (Option ℕ) → List ℕ
trace_text categories schedule answers log cells =
    steps_text categories 0 schedule.steps answers ++ (log_line log ++ (realisation_line schedule.realisation ++ rows_text categories cells))
