use Rattle.std.proofs.Common.{◌≡◌, map, take}
use Rattle.std.specs.List.{range_with_len}
use Rattle.mps_scan.proofs.counting.prefixes_of.Given as goal

abbrev pub invariant-loop-len : goal.invariant-loop-len
invariant-loop-len l = l.prefixes.items ≡ map (λ len. take len l.event) (range_with_len 0 l.len)
