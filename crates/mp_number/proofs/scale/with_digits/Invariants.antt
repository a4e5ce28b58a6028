use Rattle.std.proofs.Common.{◌≡◌, ◌+◌, min, take}
use Rattle.std.specs.Str.Parse.{digits_value_after}
use Rattle.mp_number.proofs.scale.with_digits.Given as goal

abbrev pub invariant-loop-digit : goal.invariant-loop-digit
invariant-loop-digit l = l.total ≡ min (l.limit + 1) (digits_value_after 10 l.number (take l.digit-index l.digits))
