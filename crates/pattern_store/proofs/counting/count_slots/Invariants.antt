use Rattle.std.proofs.Common.{◌≡◌, ℕ, ◌<◌, length, slice_index}
use Rattle.pattern_store.specs.Building.{in_slot}
use Rattle.pattern_store.proofs.counting.count_slots.Given as goal

abbrev pub invariant-loop-i : goal.invariant-loop-i
invariant-loop-i l = record {
  count : length l.rows ≡ length l.initial.rows;
  each : (j : ℕ) → j < length l.initial.rows → slice_index l.rows j ≡ in_slot l.places l.cats l.shown l.i j;
}
