use Rattle.std.proofs.Common.{◌≡◌, ◌*◌, ◌-◌, ◌∙◌, length, map, ap, arith}
use Rattle.std.specs.List.{range_with_len}
use Rattle.std.proofs.lemmas.Slice.Zip.{AllZip-map}
use Rattle.rayon.specs.Numbers.{nat_range}
use Rattle.rayon.proofs.ToStd.{nat_range-All}
use Rattle.impala_list.specs.Parts.{HasPart, part_at}
use Rattle.impala_list.proofs.many.parts_of.Goals as goal

pub collect-requires-clause-ready : goal.collect-requires-clause-ready
collect-requires-clause-ready g c κs within =
    let shown = c.args.blocks.now.shown in
    let counts = c.args.blocks.now.counts in
    let events = c.args.events.now in
    let ends = c.into_par_iter.ensures in
    let inside = nat_range-All (HasPart shown counts c.args.groups events) 0 c.in-Some.count (λ i low high. record { store = c.requires; within = omega (arith, c.in-Some.ensures.1) }) in
    rw (c.map.ensures.base, c.with_min_len.ensures.base, c.map.ensures.f, ends.0, ends.1) (λ k d lt. (inside k d lt, λ y p. tt))

pub returns : goal.returns
returns g c =
    let part = part_at c.args.blocks.now.shown c.args.blocks.now.counts c.args.events.now in
    let ends = c.into_par_iter.ensures in
    let whole : c.in-Some.count - 0 ≡ c.args.groups * length c.args.events.now = omega (arith, c.in-Some.ensures.1) in
    let h = c.in_ok-parts.ensures in
    let chain = rw (c.map.ensures.base, c.with_min_len.ensures.base, c.map.ensures.f) at h.1 in
    let numbers = chain.1 ∙ (λ i. nat_range (ends.0 i) (ends.1 i)) ∙ ap (range_with_len 0) whole in
    h.2 ∙ AllZip-map part chain.0 h.0 chain.2 ∙ ap (map part) numbers
