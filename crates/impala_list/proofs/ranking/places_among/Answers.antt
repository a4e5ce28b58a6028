use Rattle.std.proofs.Common.{ap, sym, ◌∙◌, subst}
use Rattle.std.specs.List.{Contains}
use Rattle.std.proofs.lemmas.Grind.{get_or_default_zero}
use Rattle.rayon.proofs.ToStd.{slice-AllZip}
use Rattle.impala_list.specs.Ranking.{IsPlace}
use Rattle.impala_list.proofs.ranking.places_among.Goals as goal

pub collect-requires-clause-ready : goal.collect-requires-clause-ready
collect-requires-clause-ready g c κs within =
    let slice = ap (λ it. it.slice.now) c.map.ensures.base ∙ c.par_iter.ensures in
    rw (slice, c.map.ensures.f) (λ k d lt x e. (
      record {
        rise = c.requires.distinct.rise;
        few = c.requires.few;
        known = subst (Contains c.args.distinct.now) (sym (e ∙ get_or_default_zero c.args.keys.now k d lt)) (c.requires.distinct.known k lt);
      },
      λ y p. tt,
    ))

pub returns : goal.returns
returns g c =
    let slice = ap (λ it. it.slice.now) c.map.ensures.base ∙ c.par_iter.ensures in
    let h = c.in_ok-places.ensures in
    let chain = rw c.map.ensures.f at h.1 in
    rw h.2 (slice-AllZip chain.0 c.args.keys.now (chain.1 ∙ slice) (λ key place. IsPlace c.args.distinct.now key place) h.0 chain.2)
