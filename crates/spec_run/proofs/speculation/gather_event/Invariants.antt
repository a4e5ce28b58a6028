use Rattle.std.proofs.Common.{◌≡◌, ◌+◌}
use Rattle.event_retrieve.specs.Gather.{LiesBetween}
use Rattle.spec_run.proofs.speculation.gather_event.Given as goal

abbrev pub invariant-loop-value : goal.invariant-loop-value
invariant-loop-value g l = record {
  index : l.gather.index ≡ l.index;
  position : l.gather.position ≡ l.value-index + 1;
  between : LiesBetween l.plan l.fn.pass l.gather;
}
