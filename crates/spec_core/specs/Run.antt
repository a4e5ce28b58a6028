-- Runs: the answers of a list of steps, and the machine after them.
use Rattle.std.specs.Prelude.{List, [], ◌∷◌}
use Rattle.event_retrieve.specs.Plan.{Plan}
use Rattle.spec_steps.specs.declared.answer.Answer.{Answer}
use Rattle.spec_steps.specs.declared.step.Step.{Step}
use Rattle.spec_core.specs.World.{Machine, after, answer_of}

unfoldable pub after_all : Plan → Machine → List Step → Machine
after_all p m [] = m
after_all p m (s ∷ steps) = after_all p (after p m s) steps

unfoldable pub answers_of : Plan → Machine → List Step → List Answer
answers_of p m [] = []
answers_of p m (s ∷ steps) = answer_of p m s ∷ answers_of p (after p m s) steps
