-- Numbers by category, to which those of a block are added.
use Rattle.std.proofs.Common.{◌≡◌, ℕ, ◌+◌, ◌<◌, ◌≤◌, Bool, List, length, get_or}
use Rattle.ti_scan.specs.Marks.{marked}

-- the categories below n were added
pub record AddsTo (marks : List Bool) (bytes before after : List ℕ) (n : ℕ) : Type 0 where
  pub count : length after ≡ length before
  pub done : (k : ℕ) → k < n → get_or after k 0 ≡ get_or before k 0 + marked marks bytes k (length marks)
  pub rest : (k : ℕ) → n ≤ k → get_or after k 0 ≡ get_or before k 0
