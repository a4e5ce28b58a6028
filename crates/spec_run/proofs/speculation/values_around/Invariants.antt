use Rattle.std.proofs.Common.{◌≡◌, ◌+◌, ◌<◌, ℕ, Option, length, slice_index_or}
use Rattle.arrayvec.specs.ArrayVec.{array_vec_len}
use Rattle.spec_run.specs.Found.{MayBeFound}
use Rattle.spec_run.proofs.speculation.values_around.Given as goal

abbrev pub invariant-loop-number : goal.invariant-loop-number
invariant-loop-number g l = record {
  pass : l.pass ≡ l.fn.pass;
  count : array_vec_len l.values ≡ l.number;
  many : length l.values.items ≡ l.number;
  found : (n : ℕ) (d : Option ℕ) → n < length l.values.items → MayBeFound l.plan l.fn.pass l.index (n + 1) (slice_index_or l.values.items n d);
}
