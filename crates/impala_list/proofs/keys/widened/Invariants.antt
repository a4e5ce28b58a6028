use Rattle.std.proofs.Common.{◌≡◌, take}
use Rattle.impala_list.proofs.keys.widened.Given as goal

abbrev pub invariant-loop-place : goal.invariant-loop-place
invariant-loop-place l = l.keys.items ≡ take l.place-index l.places
