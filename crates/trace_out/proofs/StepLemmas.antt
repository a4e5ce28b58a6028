-- The lines of steps, one after another.
use Rattle.std.proofs.Common.{◌≡◌, ℕ, ◌+◌, ◌<◌, ◌≤◌, ℤ, List, ◌++◌, length, drop, get_or, append_assoc, ap, sym, ◌∙◌}
use Rattle.std.proofs.lemmas.List.{append-nil, drop_all, drop_more}
use Rattle.spec_steps.specs.declared.answer.Answer.{Answer}
use Rattle.spec_steps.specs.declared.step.Step.{Step}
use Rattle.trace_out.specs.Answers.{commits_in}
use Rattle.trace_out.specs.Trace.{step_line, steps_text}

module _ (categories : List ℤ) (steps : List Step) (answers : List Answer) where
  -- the lines from the next step on
  line_next : (committed i : ℕ) (d : Step) (answer : Answer) → i < length steps → i < length answers → get_or answers i answer ≡ answer → steps_text categories committed (drop i steps) (drop i answers) ≡ step_line categories committed (get_or steps i d) answer ++ steps_text categories (committed + commits_in answer) (drop (i + 1) steps) (drop (i + 1) answers)
  line_next committed i d answer some more is =
      (λ j. steps_text categories committed (drop_more steps i d some j) (drop_more answers i answer more j))
      ∙ (λ j. step_line categories committed (get_or steps i d) (is j) ++ steps_text categories (committed + commits_in (is j)) (drop (i + 1) steps) (drop (i + 1) answers))

  -- one line more, behind the lines of the steps in front
  pub lines_more : (before : List ℕ) (committed i : ℕ) (d : Step) (answer : Answer) → i < length steps → i < length answers → get_or answers i answer ≡ answer → (before ++ step_line categories committed (get_or steps i d) answer) ++ steps_text categories (committed + commits_in answer) (drop (i + 1) steps) (drop (i + 1) answers) ≡ before ++ steps_text categories committed (drop i steps) (drop i answers)
  lines_more before committed i d answer some more is =
      append_assoc before (step_line categories committed (get_or steps i d) answer) (steps_text categories (committed + commits_in answer) (drop (i + 1) steps) (drop (i + 1) answers))
      ∙ ap (λ (text : List ℕ). before ++ text) (sym (line_next committed i d answer some more is))

  -- no line is left
  pub lines_over : (before : List ℕ) (committed i : ℕ) → length steps ≤ i → before ++ steps_text categories committed (drop i steps) (drop i answers) ≡ before
  lines_over before committed i over =
      ap (λ (left : List Step). before ++ steps_text categories committed left (drop i answers)) (drop_all i steps over) ∙ append-nil before
