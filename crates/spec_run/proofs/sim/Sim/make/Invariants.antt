use Rattle.std.proofs.Common.{◌≡◌, length, map}
use Rattle.std.specs.List.{range_with_len}
use Rattle.spec_run.proofs.sim.Sim.make.Given as goal

abbrev pub invariant-loop-number : goal.invariant-loop-number
invariant-loop-number g l = record {
  count : length l.helpers.items ≡ l.number;
  numbers : map (λ (h : _). h.number) l.helpers.items ≡ range_with_len 0 l.number;
  nothing : l.writer ≡ record { stored = 0; front = 0 };
}
