use Rattle.std.proofs.Common.{◌≡◌, ℕ, ◌<◌, length, slice_index}
use Rattle.impala_list.specs.Parts.{part_sum}
use Rattle.impala_list.proofs.many.sum_of_parts.Given as goal

abbrev pub invariant-loop-group : goal.invariant-loop-group
invariant-loop-group l = record {
  count : length l.sums ≡ 8;
  summed : (k : ℕ) → k < l.cats → slice_index l.sums k ≡ part_sum l.parts l.events l.event l.group k;
}
