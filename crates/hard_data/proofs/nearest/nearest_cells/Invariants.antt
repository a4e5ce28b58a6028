use Rattle.std.proofs.Common.{◌≤◌}
use Rattle.std.specs.List.{All}
use Rattle.mp_base.specs.Grid.{cells_of}
use Rattle.hard_data.proofs.KeptCells.{CellsAreKept}
use Rattle.hard_data.proofs.nearest.nearest_cells.Given as goal

-- what is kept for each node after the cells so far
abbrev pub invariant-loop-number : goal.invariant-loop-number
invariant-loop-number l = record {
  kept : CellsAreKept l.hard l.level l.number l.slots.items;
  inside : All (λ slot. slot ≤ cells_of l.hard.sides) l.slots.items;
}
