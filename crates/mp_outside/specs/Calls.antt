-- The calls of one kind, and which of them are to fail.
use Rattle.std.specs.Prelude.{◌≡◌, ◌≢◌, ℕ, List, [], ◌∷◌, ◌++◌, take, Option, Some, None, Result, Ok, Err, nat_eq}
use Rattle.std.specs.Map.{lookup}
use Rattle.mp_outside.specs.Causes.{one_more}
use Rattle.mp_outside.specs.declared.files.OutFault.{OutFault}
use Rattle.mp_outside.specs.declared.files.OutFault.TheVariants.{Failed, NoMemory}

-- how many were made, and the numbers of those that are to fail, each with how many bytes it adds first
pub record CallPlan : Type 0 where
  pub made : ℕ
  pub failing : List (ℕ × ℕ)

-- none made, none to fail
abbrev pub no_call : CallPlan
no_call = record { made = 0; failing = [] }

-- the number of the next call, counted from 1 up to the end of its type
abbrev pub next_number : CallPlan → ℕ
next_number plan = one_more plan.made

-- where the next call is to fail, how many bytes it adds first: those of the first entry for it
abbrev pub due : CallPlan → Option ℕ
due plan = lookup (nat_eq (next_number plan)) plan.failing

-- one more call made
abbrev pub counted : CallPlan → CallPlan
counted plan = record plan { made = next_number plan }

-- one more call that is to fail
abbrev pub with_failing : ℕ → ℕ → CallPlan → CallPlan
with_failing nth added plan = record plan { failing = plan.failing ++ (nth, added) ∷ [] }

-- a call that adds a piece fails where it is due, after so many bytes, and otherwise only memory may be wanting
abbrev pub FailsAsDue : Option ℕ → List ℕ → List ℕ → List ℕ → Result (Unit {0}) OutFault → Type 0
FailsAsDue None before now piece result = result ≢ Err Failed
FailsAsDue (Some added) before now piece (Ok _) = ⊥
FailsAsDue (Some added) before now piece (Err Failed) = now ≡ before ++ take added piece
FailsAsDue (Some added) before now piece (Err NoMemory) = Unit {0}
