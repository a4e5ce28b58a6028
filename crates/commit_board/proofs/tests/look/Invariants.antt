use Rattle.std.proofs.Common.{◌≡◌, ◌+◌, ◌≤◌, length}
use Rattle.event_retrieve.specs.Gather.{LiesBetween}
use Rattle.commit_board.proofs.tests.look.Given as goal

abbrev pub invariant-loop : goal.invariant-loop
invariant-loop l = record {
  index : l.gather.index ≡ l.fn.gather.index;
  near : l.gather.position ≤ length l.plan.source.template + 1;
  between : LiesBetween l.plan l.seen l.gather;
}
