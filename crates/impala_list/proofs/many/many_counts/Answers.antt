use Rattle.std.proofs.Common.{◌≡◌, ℕ, ◌<◌, ◌^◌, ◌∙◌, List, [], length, get_or, map, ap, sym, subst, arith}
use Rattle.std.specs.List.{range_with_len}
use Rattle.impala_list.specs.Parts.{part_sum}
use Rattle.impala_list.proofs.PartSums.{all_counted, count_of_parts, event_summed, parts_wide, sums_fit}
use Rattle.impala_list.proofs.many.many_counts.Goals as goal

pub sum_of_parts-requires-clause-count : goal.sum_of_parts-requires-clause-count
sum_of_parts-requires-clause-count g c = ap length c.deref.ensures.value ∙ count_of_parts c.args.blocks.now.shown c.args.blocks.now.counts c.args.groups c.args.events.now c.in_ok-parts.parts.items c.in_ok-parts.ensures

pub sum_of_parts-requires-clause-wide : goal.sum_of_parts-requires-clause-wide
sum_of_parts-requires-clause-wide g c =
    subst (λ (p : List (List ℕ)). (i : ℕ) → i < length p → length (get_or p i []) ≡ c.cats-cats.result) (sym c.deref.ensures.value)
    (λ i within. parts_wide c.args.blocks.now.shown c.args.blocks.now.counts c.args.groups c.args.events.now c.in_ok-parts.parts.items c.in_ok-parts.ensures i within ∙ sym c.cats-cats.ensures)

pub sum_of_parts-requires-clause-room : goal.sum_of_parts-requires-clause-room
sum_of_parts-requires-clause-room g c =
    subst (λ (p : List (List ℕ)). (k : ℕ) → k < c.cats-cats.result → part_sum p (length c.args.events.now) c.loop-event.event c.args.groups k < 2 ^ 32) (sym c.deref.ensures.value)
    (λ k below. sums_fit c.args.blocks.now.shown c.args.blocks.now.counts c.args.groups c.args.events.now c.in_ok-parts.parts.items c.in_ok-parts.ensures c.requires c.loop-event.event k c.loop-event-test.true (omega (arith, below, c.cats-cats.ensures)))

pub loop-event-preserved : goal.loop-event-preserved
loop-event-preserved g c =
    event_summed c.in_ok-parts.parts.items c.deref.result.now (length c.args.events.now) c.args.groups c.cats-cats.result c.loop-event.event c.loop-event.many.items c.push.new.self.items c.sum_of_parts.result c.deref.ensures.value c.in_ok-push.ensures.items c.loop-event.invariant c.sum_of_parts.ensures

pub returns : goal.returns
returns g c =
    let parts = c.in_ok-parts.parts.items in
    let end : c.loop-event.event ≡ length c.args.events.now = omega (arith, c.loop-event.auto.event-end, c.loop-event-test.false) in
    all_counted c.args.blocks.now.shown c.args.blocks.now.counts c.args.groups c.args.events.now parts c.in_ok-parts.ensures c.cats-cats.result c.loop-event.many.items c.cats-cats.ensures
    (c.loop-event.invariant ∙ ap (λ n. map (λ j. map (part_sum parts (length c.args.events.now) j c.args.groups) (range_with_len 0 c.cats-cats.result)) (range_with_len 0 n)) end)
