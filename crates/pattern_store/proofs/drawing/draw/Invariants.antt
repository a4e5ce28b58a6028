use Rattle.std.proofs.Common.{◌≡◌, length}
use Rattle.pattern_store.specs.Building.{AreDrawnAround}
use Rattle.pattern_store.proofs.drawing.draw.Given as goal

abbrev pub invariant-loop-position : goal.invariant-loop-position
invariant-loop-position l = record {
  shown : length l.shown ≡ length l.initial.shown;
  count : length l.words ≡ length l.initial.words;
  drawn : AreDrawnAround l.eroded l.cells l.places l.position l.words;
}
