-- Steps: their names, and whose they are.
use Rattle.std.specs.Prelude.{ℕ, ◌≤◌, List, [], ◌∷◌, Option, Some, None, IfSome, codes}
use Rattle.spec_steps.specs.declared.step.Step.{Step}
use Rattle.spec_steps.specs.declared.step.Step.TheVariants.{Claim, Front, Look, Count, Offer, Settle, Force, Show}

-- the word that a step's line begins with
abbrev pub step_name : Step → List ℕ
step_name (Claim w) = codes "claim"
step_name (Front w) = codes "front"
step_name (Look w) = codes "look"
step_name (Count w) = codes "count"
step_name (Offer w) = codes "offer"
step_name Settle = codes "settle"
step_name Force = codes "force"
step_name Show = codes "show"

-- the worker whose step it is, where it isn't the board's
abbrev pub step_worker : Step → Option ℕ
step_worker (Claim w) = Some w
step_worker (Front w) = Some w
step_worker (Look w) = Some w
step_worker (Count w) = Some w
step_worker (Offer w) = Some w
step_worker Settle = None
step_worker Force = None
step_worker Show = None

-- the steps that a worker may take
abbrev pub worker_steps : ℕ → List Step
worker_steps w = Claim w ∷ Front w ∷ Look w ∷ Count w ∷ Offer w ∷ []

-- the steps of the board
abbrev pub board_steps : List Step
board_steps = Settle ∷ Force ∷ Show ∷ []

-- a step of the board, or of a worker from 1 to the last
abbrev pub IsStepOf : ℕ → Step → Type 0
IsStepOf last step = IfSome (step_worker step) (λ w. (1 ≤ w) × (w ≤ last))
