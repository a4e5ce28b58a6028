use Rattle.std.proofs.Common.{◌≡◌, take}
use Rattle.mp_base.specs.Counts.{tally}
use Rattle.mp_base.proofs.grid.Grid.counts.Given as goal

abbrev pub invariant-loop-number : goal.invariant-loop-number
invariant-loop-number l = l.counts ≡ tally (λ v. v) l.cats (take l.number l.self.cells)
