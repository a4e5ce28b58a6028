use Rattle.std.proofs.Common.{◌≡◌, length}
use Rattle.search_tree.specs.Ranks.{AreMarked}
use Rattle.search_tree.proofs.ranks.mark_slots.Given as goal

abbrev pub invariant-loop-i : goal.invariant-loop-i
invariant-loop-i l = record {
  count : length l.slots ≡ length l.initial.slots;
  marked : AreMarked l.places l.cats l.shown l.i l.slots;
}
