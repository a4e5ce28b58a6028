use Rattle.std.proofs.Common.{◌≡◌, ℕ, ◌<◌, Some, length, slice_index}
use Rattle.mp_base.specs.Grid.{cat_of}
use Rattle.pattern_store.proofs.filling.read_centres.Given as goal

abbrev pub invariant-loop-i : goal.invariant-loop-i
invariant-loop-i l = record {
  count : length l.centres ≡ length l.cells;
  each : (j : ℕ) → j < l.i → cat_of l.eroded.image.cells (slice_index l.cells j) ≡ Some (slice_index l.centres j);
}
