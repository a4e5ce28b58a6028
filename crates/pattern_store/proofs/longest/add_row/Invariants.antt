use Rattle.std.proofs.Common.{◌≡◌, ℕ, ◌+◌, ◌*◌, ◌<◌, ◌≤◌, length, slice_index}
use Rattle.pattern_store.proofs.longest.add_row.Given as goal

abbrev pub invariant-loop-cat : goal.invariant-loop-cat
invariant-loop-cat l = record {
  count : length l.parts ≡ length l.initial.parts;
  added : (k : ℕ) → k < l.cat → slice_index l.parts k ≡ slice_index l.initial.parts k + slice_index l.tally (l.row * 8 + k);
  later : (k : ℕ) → l.cat ≤ k → slice_index l.parts k ≡ slice_index l.initial.parts k;
}
