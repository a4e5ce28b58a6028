use Rattle.std.proofs.Common.{◌≡◌, ℕ, ◌+◌, ◌*◌, ◌<◌, ◌≤◌, length, slice_index}
use Rattle.impala_list.proofs.keys.append_digits.Given as goal

abbrev pub invariant-loop-i : goal.invariant-loop-i
invariant-loop-i l = record {
  count : length l.keys ≡ length l.initial.keys;
  done : (k : ℕ) → k < l.i → slice_index l.keys k ≡ slice_index l.initial.keys k * l.base + slice_index l.digits k;
  later : (k : ℕ) → l.i ≤ k → slice_index l.keys k ≡ slice_index l.initial.keys k;
}
