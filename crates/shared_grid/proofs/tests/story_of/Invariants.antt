use Rattle.std.proofs.Common.{◌≡◌, length}
use Rattle.event_retrieve.specs.Plan.{IsFront}
use Rattle.shared_grid.proofs.tests.story_of.Given as goal

abbrev pub invariant-loop-index : goal.invariant-loop-index
invariant-loop-index l = record {
  count : length l.story.items ≡ l.index;
  front : IsFront l.plan l.story.items;
}
