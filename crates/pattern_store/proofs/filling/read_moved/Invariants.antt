use Rattle.std.proofs.Common.{◌≡◌, ℕ, ◌<◌, Some, length, slice_index}
use Rattle.ti_scan.specs.Event.{cat_around}
use Rattle.pattern_store.proofs.filling.read_moved.Given as goal

abbrev pub invariant-loop-i : goal.invariant-loop-i
invariant-loop-i l = record {
  count : length l.shown ≡ length l.cells;
  each : (j : ℕ) → j < l.i → cat_around l.eroded (slice_index l.cells j) l.position ≡ Some (slice_index l.shown j);
}
