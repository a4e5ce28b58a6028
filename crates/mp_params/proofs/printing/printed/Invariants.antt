use Rattle.std.proofs.Common.{◌≡◌, take}
use Rattle.mp_params.specs.Printing.{lines_text}
use Rattle.mp_params.proofs.printing.printed.Given as goal

abbrev pub invariant-loop-key : goal.invariant-loop-key
invariant-loop-key l = l.text.items ≡ lines_text l.params (take l.key-index l.keys)
