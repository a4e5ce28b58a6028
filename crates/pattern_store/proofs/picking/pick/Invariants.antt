use Rattle.std.proofs.Common.{◌≡◌, ℕ, ◌<◌, length, slice_index}
use Rattle.pattern_store.proofs.picking.pick.Given as goal

abbrev pub invariant-loop-i : goal.invariant-loop-i
invariant-loop-i l = record {
  count : length l.picks ≡ length l.initial.picks;
  within : (r : ℕ) → r < length l.picks → slice_index l.picks r < length l.places;
  own : (j : ℕ) → j < l.i → slice_index l.places (slice_index l.picks (slice_index l.places j)) ≡ slice_index l.places j;
}
