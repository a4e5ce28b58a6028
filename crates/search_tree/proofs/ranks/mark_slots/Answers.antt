use Rattle.std.proofs.Common.{◌∙◌, arith}
use Rattle.std.proofs.lemmas.List.{length-set}
use Rattle.search_tree.proofs.Ranking.{marked_more}
use Rattle.search_tree.proofs.ranks.mark_slots.Goals as goal

pub loop-i-preserved : goal.loop-i-preserved
loop-i-preserved c = record {
  count = length-set c.loop-i.slots c.slot-at.result 1 ∙ c.loop-i.invariant.count;
  marked = marked_more c.args.places.now c.args.cats c.args.shown.now c.loop-i.i c.slot-at.result c.slot-at.ensures c.loop-i.slots
      (omega (arith, c.slot-at.ensures, c.requires.have c.loop-i.i c.loop-i-test.true, c.loop-i.invariant.count)) c.loop-i.invariant.marked;
}
