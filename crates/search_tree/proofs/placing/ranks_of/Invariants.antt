use Rattle.std.proofs.Common.{◌≡◌, length}
use Rattle.search_tree.specs.Ranks.{IsRanked}
use Rattle.search_tree.proofs.placing.ranks_of.Given as goal

abbrev pub invariant-loop-depth : goal.invariant-loop-depth
invariant-loop-depth l = record {
  shown : length l.shown.items ≡ l.count;
  ranked : IsRanked l.eroded l.depth l.ranks.places.items l.ranks.classes l.ranks.nodes;
}
