-- One write after another.
use Rattle.std.proofs.Common.{◌≤◌, inl, inr, ℕ, List, arith}
use Rattle.mp_outside.specs.Causes.{Rose}
use Rattle.mp_outside.specs.Seen.{FilesSeen, OnlyWrites}
use Rattle.mps_inputs.specs.Files.{IsWriteFault}
use Rattle.mps_inputs.specs.declared.fault.Fault.{Fault}

-- a count that rose in the second call rose in both
pub cause_through : (name : List ℕ) (before mid now : FilesSeen) → OnlyWrites name before mid → (fault : Fault) → IsWriteFault name mid now fault → IsWriteFault name before now fault
cause_through name before mid now first fault (inl memory) = inl memory
cause_through name before mid now first fault (inr write) = inr (write.0, rose (before.writes name) (mid.writes name) (now.writes name) (first.writes_later name) write.1)
  where
    rose : (a b c : ℕ) → a ≤ b → Rose b c → Rose a c
    rose a b c up more = omega arith
