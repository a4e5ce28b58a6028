use Rattle.std.proofs.Common.{◌≡◌, ℕ, ◌<◌, ◌≤◌, length, slice_index}
use Rattle.pattern_store.specs.Slots.{place_slot}
use Rattle.search_tree.proofs.ranks.rank_places.Given as goal

abbrev pub invariant-loop-i : goal.invariant-loop-i
invariant-loop-i l = record {
  count : length l.places ≡ length l.initial.places;
  ranked : (k : ℕ) → k < l.i → slice_index l.places k ≡ slice_index l.ranks (place_slot l.initial.places l.cats l.shown k);
  later : (k : ℕ) → l.i ≤ k → slice_index l.places k ≡ slice_index l.initial.places k;
}
