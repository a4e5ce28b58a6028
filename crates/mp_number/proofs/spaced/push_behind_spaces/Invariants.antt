use Rattle.std.proofs.Common.{◌≡◌, ◌++◌, take}
use Rattle.mp_number.specs.Spaced.{behind_spaces}
use Rattle.mp_number.proofs.spaced.push_behind_spaces.Given as goal

abbrev pub invariant-loop-number : goal.invariant-loop-number
invariant-loop-number g l = l.to.items ≡ l.fn.to.items ++ behind_spaces g.N.Printed.text (take l.number-index l.numbers)
