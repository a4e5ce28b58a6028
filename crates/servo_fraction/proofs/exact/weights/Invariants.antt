use Rattle.std.proofs.Common.{◌≡◌, map, length}
use Rattle.std.specs.List.{range_with_len}
use Rattle.servo_fraction.specs.Weights.{weight_of}
use Rattle.servo_fraction.proofs.exact.weights.Given as goal

abbrev pub invariant-loop-k : goal.invariant-loop-k
invariant-loop-k l = record {
  items : l.result.items ≡ map (weight_of l.counts l.target l.known l.servo) (range_with_len 0 l.k);
  len : length l.result.items ≡ l.k;
}
