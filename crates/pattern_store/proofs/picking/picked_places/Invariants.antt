use Rattle.std.proofs.Common.{◌≡◌, ℕ, ◌<◌, length, slice_index}
use Rattle.pattern_store.proofs.picking.picked_places.Given as goal

abbrev pub invariant-loop-pick : goal.invariant-loop-pick
invariant-loop-pick l = record {
  count : length l.own.items ≡ l.pick-index;
  each : (r : ℕ) → r < l.pick-index → slice_index l.own.items r ≡ slice_index l.places (slice_index l.picks r);
}
