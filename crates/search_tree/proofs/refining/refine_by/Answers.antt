use Rattle.std.proofs.Common.{ℕ, List, get_or, length, ap, refl, ◌∙◌, arith}
use Rattle.pattern_store.proofs.StoreSums.{zeros}
use Rattle.search_tree.proofs.Places.{refined}
use Rattle.search_tree.proofs.refining.refine_by.Goals as goal

pub mark_slots-requires-clause-clear : goal.mark_slots-requires-clause-clear
mark_slots-requires-clause-clear c = λ j. ap (λ (l : List ℕ). get_or l j 0) c.requires.clear ∙ zeros (length c.args.slots.now) j

pub returns : goal.returns
returns c =
    refined c.args.places.now c.args.cats c.args.shown.now c.mark_slots.new.slots c.rank_slots-next.new.slots c.rank_places.new.places (length c.mark_slots.new.slots) c.rank_slots-next.result
    (λ i within. omega (arith, c.requires.have i within, c.mark_slots.ensures.count)) refl c.mark_slots.ensures.marked c.rank_slots-next.ensures.ranks c.rank_slots-next.ensures.many c.rank_places.ensures.count c.rank_places.ensures.ranked
