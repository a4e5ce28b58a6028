use Rattle.std.proofs.Common.{◌≡◌, nat_eq, drop}
use Rattle.std.specs.Map.{lookup}
use Rattle.mp_outside.proofs.calls.entry_for.Given as goal

abbrev pub invariant-loop-entry : goal.invariant-loop-entry
invariant-loop-entry l = lookup (nat_eq l.nth) (drop l.entry-index l.entries) ≡ lookup (nat_eq l.nth) l.entries
