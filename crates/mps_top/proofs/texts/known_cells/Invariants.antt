use Rattle.std.proofs.Common.{◌≡◌, ◌≤◌, take}
use Rattle.std.specs.Prelude.{count_by, is_some}
use Rattle.mps_top.proofs.texts.known_cells.Given as goal

-- the known cells so far
abbrev pub invariant-loop-number : goal.invariant-loop-number
invariant-loop-number l = record {
  known : l.known ≡ count_by is_some (take l.number l.image.cells);
  few : l.known ≤ l.number;
}
