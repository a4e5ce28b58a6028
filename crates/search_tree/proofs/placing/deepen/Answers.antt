use Rattle.std.proofs.Common.{◌+◌, ◌≤◌, ◌^◌, ℕ, List, length, ap, sym, subst, ◌∙◌, arith}
use Rattle.pattern_store.specs.Levels.{many}
use Rattle.search_tree.specs.Ranks.{IsRanked, IsRefined}
use Rattle.std.proofs.Math.Nat.{mul-le-mul_right}
use Rattle.pattern_store.proofs.Lists.{written_over}
use Rattle.search_tree.proofs.Depths.{deeper, next-le}
use Rattle.search_tree.proofs.placing.deepen.Goals as goal

pub overflow_add-ranks : goal.overflow_add-ranks
overflow_add-ranks c =
    let s = c.args.eroded.now in
    let is = c.positions.ensures.source in
    let few : many s ≤ 2 ^ 20 = omega (arith, ap length c.positions.ensures.positions, c.positions.ensures.few) in
    let old = c.args.ranks.now in
    let refined = subst (λ (p : List ℕ). IsRefined p c.cats-cats.result c.args.shown.now c.in_ok-next.next c.refine_places.new.places) c.deref_mut.ensures.value c.in_ok-next.ensures in
    let le = next-le s is c.args._depth old.places.items old.classes old.nodes c.requires.ranked c.requires.depth c.args.shown.now c.requires.shown c.cats-cats.result c.in_ok-next.next c.refine_places.new.places c.cats-cats.ensures refined in
    let short : c.args._depth ≤ 64 = omega (arith, is.short, c.requires.depth) in
    omega (arith, few, le, c.requires.ranked.nodes_few, mul-le-mul_right (many s) short)

pub returns : goal.returns
returns c =
    let s = c.args.eroded.now in
    let is = c.positions.ensures.source in
    let old = c.args.ranks.now in
    let refined = subst (λ (p : List ℕ). IsRefined p c.cats-cats.result c.args.shown.now c.in_ok-next.next c.refine_places.new.places) c.deref_mut.ensures.value c.in_ok-next.ensures in
    let ranked = deeper s is c.args._depth old.places.items old.classes old.nodes c.requires.ranked c.requires.depth c.args.shown.now c.requires.shown c.cats-cats.result c.in_ok-next.next c.refine_places.new.places c.cats-cats.ensures refined in
    subst (λ (p : List ℕ). IsRanked s (c.args._depth + 1) p c.in_ok-next.next (old.nodes + c.in_ok-next.next)) (sym (written_over old.places.items c.refine_places.new.places old.places.len (c.in_ok-next.ensures.count ∙ c.deref_mut.ensures.len))) ranked
