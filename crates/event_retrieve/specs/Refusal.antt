-- Why a level has no plan.
use Rattle.std.specs.Prelude.{◌≡◌, ◌⊎◌, ◌<◌, ℕ}
use Rattle.event_retrieve.specs.declared.plan.PlanError.{PlanError}
use Rattle.event_retrieve.specs.declared.plan.PlanError.TheVariants.{TooFewPositions, NoMemory}

-- want of memory, or fewer eroded positions than are wanted, with how many there are and how many are wanted
abbrev pub IsRefusal : ℕ → ℕ → PlanError → Type 0
IsRefusal have want error = (error ≡ NoMemory) ⊎ ((error ≡ TooFewPositions have want) × (have < want))
