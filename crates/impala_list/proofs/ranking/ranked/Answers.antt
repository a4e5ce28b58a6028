use Rattle.std.proofs.Common.{ℕ, List, length, ap, sym, ◌∙◌, subst, arith}
use Rattle.std.specs.List.{AllZip}
use Rattle.std.proofs.Math.Dec.{eqb}
use Rattle.std.proofs.lemmas.Map.Made.{distinct_count-le}
use Rattle.impala_list.specs.Ranking.{AreRanked, IsPlace}
use Rattle.impala_list.proofs.Ranks.{are_ranked}
use Rattle.impala_list.proofs.ranking.ranked.Goals as goal

pub places_among-requires-clause-few : goal.places_among-requires-clause-few
places_among-requires-clause-few g c κs within = omega (arith, c.requires, c.deref.ensures.len, ap length c.deref.ensures.value, c.in_ok-distinct.ensures.count, distinct_count-le eqb c.args.keys.now)

pub overflow_cast-result : goal.overflow_cast-result
overflow_cast-result g c = omega (arith, c.requires, c.len.ensures, c.in_ok-distinct.ensures.count, distinct_count-le eqb c.args.keys.now)

pub returns : goal.returns
returns g c =
    let distinct = c.in_ok-distinct.distinct.items in
    let zip = subst (λ (d : List ℕ). AllZip (λ key place. IsPlace d key place) c.args.keys.now c.in_ok-places.places.items) c.deref.ensures.value c.in_ok-places.ensures in
    subst (AreRanked c.args.keys.now c.in_ok-places.places.items) (sym (c.len.ensures ∙ sym c.deref.ensures.len ∙ ap length c.deref.ensures.value)) (are_ranked c.args.keys.now distinct c.in_ok-places.places.items c.in_ok-distinct.ensures zip)
