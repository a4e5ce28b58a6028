-- Runs, one step after another.
use Rattle.std.proofs.Common.{◌≡◌, List, [], ◌∷◌, ◌++◌, refl, ap}
use Rattle.event_retrieve.specs.Plan.{Plan}
use Rattle.spec_steps.specs.declared.step.Step.{Step}
use Rattle.spec_core.specs.Run.{after_all, answers_of}
use Rattle.spec_core.specs.World.{Machine, after, answer_of}

-- one step more
pub after_more : (p : Plan) (m : Machine) (steps : List Step) (s : Step) → after_all p m (steps ++ s ∷ []) ≡ after p (after_all p m steps) s
unfolding after_all
after_more p m [] s = refl
after_more p m (first ∷ steps) s = after_more p (after p m first) steps s

pub answers_more : (p : Plan) (m : Machine) (steps : List Step) (s : Step) → answers_of p m (steps ++ s ∷ []) ≡ answers_of p m steps ++ answer_of p (after_all p m steps) s ∷ []
unfolding after_all answers_of
answers_more p m [] s = refl
answers_more p m (first ∷ steps) s = ap (λ answers. answer_of p m first ∷ answers) (answers_more p (after p m first) steps s)

pub after_none : (p : Plan) (m : Machine) → after_all p m [] ≡ m
unfolding after_all
after_none p m = refl

pub answers_none : (p : Plan) (m : Machine) → answers_of p m [] ≡ []
unfolding answers_of
answers_none p m = refl
