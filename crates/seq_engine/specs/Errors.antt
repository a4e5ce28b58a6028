-- Why there is no realisation.
use Rattle.std.specs.Prelude.{◌≡◌, ◌⊎◌, ◌<◌, ℕ}
use Rattle.event_retrieve.specs.declared.plan.PlanError.{PlanError}
use Rattle.event_retrieve.specs.declared.plan.PlanError.TheVariants.{TooFewPositions as PlanTooFew, NoMemory as PlanNoMemory}
use Rattle.seq_engine.specs.declared.setup.RunError.{RunError}
use Rattle.seq_engine.specs.declared.setup.RunError.TheVariants.{TooFewPositions, NoMemory}

-- the fault of a level whose plan was refused
abbrev pub run_error_at : ℕ → PlanError → RunError
run_error_at level (PlanTooFew have want) = TooFewPositions level have want
run_error_at level PlanNoMemory = NoMemory

-- want of memory, or fewer eroded positions at a level than are wanted, with how many there are and how many are wanted
abbrev pub IsRefusalAt : ℕ → ℕ → ℕ → RunError → Type 0
IsRefusalAt level have want error = (error ≡ NoMemory) ⊎ ((error ≡ TooFewPositions level have want) × (have < want))
