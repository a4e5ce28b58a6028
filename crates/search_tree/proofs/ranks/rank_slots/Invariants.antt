use Rattle.std.proofs.Common.{◌≡◌, ℕ, ◌<◌, ◌≤◌, length, slice_index}
use Rattle.search_tree.specs.Ranks.{used_before}
use Rattle.search_tree.proofs.ranks.rank_slots.Given as goal

abbrev pub invariant-loop-j : goal.invariant-loop-j
invariant-loop-j l = record {
  count : length l.slots ≡ length l.initial.slots;
  ranked : (k : ℕ) → k < l.j → slice_index l.slots k ≡ used_before l.initial.slots k;
  later : (k : ℕ) → l.j ≤ k → slice_index l.slots k ≡ slice_index l.initial.slots k;
  next_is : l.next ≡ used_before l.initial.slots l.j;
}
