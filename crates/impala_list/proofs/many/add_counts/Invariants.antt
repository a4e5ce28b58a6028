use Rattle.std.proofs.Common.{◌≡◌, ℕ, ◌+◌, ◌<◌, ◌≤◌, length, slice_index}
use Rattle.impala_list.proofs.many.add_counts.Given as goal

abbrev pub invariant-loop-cat : goal.invariant-loop-cat
invariant-loop-cat l = record {
  count : length l.sums ≡ length l.initial.sums;
  added : (k : ℕ) → k < l.cat → slice_index l.sums k ≡ slice_index l.initial.sums k + slice_index l.counts k;
  later : (k : ℕ) → l.cat ≤ k → slice_index l.sums k ≡ slice_index l.initial.sums k;
}
