use Rattle.std.proofs.Common.{◌≡◌, take}
use Rattle.hard_data.specs.Start.{values_after}
use Rattle.hard_data.proofs.moves.take_away.Given as goal

abbrev pub invariant-loop-entry : goal.invariant-loop-entry
invariant-loop-entry l = l.values ≡ values_after l.initial.values (take l.entry-index l.log)
