use Rattle.std.proofs.Common.{◌≤◌, length}
use Rattle.pattern_store.proofs.answering.longest_of.Given as goal

abbrev pub invariant-loop-longest : goal.invariant-loop-longest
invariant-loop-longest g l = l.least ≤ length l.event

abbrev pub decreases-loop-longest : goal.decreases-loop-longest
decreases-loop-longest g l = l.least
