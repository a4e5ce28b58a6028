use Rattle.std.proofs.Common.{◌≡◌, ◌+◌, ◌*◌, ◌<◌, ◌∙◌, [], length, get_or, refl, ap, sym, arith}
use Rattle.std.proofs.lemmas.List.{get_or_default}
use Rattle.pattern_blocks.proofs.Pairs.{row-fits}
use Rattle.pattern_store.proofs.StoreSums.{zero_parts}
use Rattle.impala_list.specs.Parts.{part_sum}
use Rattle.impala_list.proofs.PartSums.{none_summed, part_fits, part_summed, sums_taken}
use Rattle.impala_list.proofs.many.sum_of_parts.Goals as goal

pub loop-group-init : goal.loop-group-init
loop-group-init c = record {
  count = refl;
  summed = λ k below. zero_parts k ∙ sym (none_summed c.args.parts.now c.args.events c.args.event k);
}

pub add_counts-requires : goal.add_counts-requires
add_counts-requires c k below =
    let parts = c.args.parts.now in
    let part = c.index-parts-group.result in
    let i = c.loop-group.group * c.args.events + c.args.event in
    let within : i < length parts = omega (arith, c.requires.count, row-fits c.loop-group.group c.args.groups c.args.events c.args.event c.loop-group-test.true c.requires.event) in
    let is : part ≡ get_or parts i [] = c.index-parts-group.is ∙ get_or_default parts i part [] within in
    let small : k < c.args.cats = omega (arith, below, ap length is, c.requires.wide i within) in
    part_fits parts c.args.events c.args.event c.loop-group.group k part c.loop-group.sums is (c.loop-group.invariant.summed k small) c.args.groups c.loop-group-test.true (c.requires.room k small)

pub loop-group-preserved : goal.loop-group-preserved
loop-group-preserved c =
    let parts = c.args.parts.now in
    let part = c.index-parts-group.result in
    let i = c.loop-group.group * c.args.events + c.args.event in
    let within : i < length parts = omega (arith, c.requires.count, row-fits c.loop-group.group c.args.groups c.args.events c.args.event c.loop-group-test.true c.requires.event) in
    let is : part ≡ get_or parts i [] = c.index-parts-group.is ∙ get_or_default parts i part [] within in
    record {
      count = c.add_counts.array_long;
      summed = λ k small. part_summed parts c.args.events c.args.event c.loop-group.group k part c.loop-group.sums is (c.loop-group.invariant.summed k small) c.add_counts.new.sums c.add_counts.ensures (omega (arith, ap length is, c.requires.wide i within));
    }

pub returns : goal.returns
returns c =
    let end : c.loop-group.group ≡ c.args.groups = omega (arith, c.loop-group.auto.group-end, c.loop-group-test.false) in
    c.of.ensures
    ∙ sums_taken c.args.parts.now c.args.events c.args.event c.args.groups c.args.cats c.loop-group.sums (omega (arith, c.requires.cats, c.loop-group.invariant.count))
    (λ k small. c.loop-group.invariant.summed k small ∙ ap (λ n. part_sum c.args.parts.now c.args.events c.args.event n k) end)
