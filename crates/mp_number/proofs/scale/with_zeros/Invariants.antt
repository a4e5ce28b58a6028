use Rattle.std.proofs.Common.{◌≡◌, ◌+◌, ◌*◌, ◌^◌, min}
use Rattle.mp_number.proofs.scale.with_zeros.Given as goal

abbrev pub invariant-loop : goal.invariant-loop
invariant-loop l = l.total ≡ min (l.limit + 1) (l.number * 10 ^ l.counter)
