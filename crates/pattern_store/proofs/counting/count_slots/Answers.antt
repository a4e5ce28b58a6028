use Rattle.std.proofs.Common.{◌∙◌, ap, sym, refl, ◌+◌, length, get_or, arith}
use Rattle.std.proofs.lemmas.List.{get_or-replicate, length-set}
use Rattle.pattern_store.proofs.Counted.{in_slot_none, in_slot-le, counted_more}
use Rattle.pattern_store.proofs.counting.count_slots.Goals as goal

pub loop-i-init : goal.loop-i-init
loop-i-init c = record {
  count = refl;
  each = λ j below. ap (λ l. get_or l j 0) c.requires.zero ∙ get_or-replicate (length c.args.rows.now) j 0 0 below ∙ sym (in_slot_none c.args.places.now c.args.cats c.args.shown.now j);
}

pub overflow_add-rows : goal.overflow_add-rows
overflow_add-rows c =
    let have = c.requires.slots c.loop-i.i c.loop-i-test.true in
    omega (arith, c.slot-at.ensures, c.loop-i.invariant.each c.slot-at.result (omega (arith, c.slot-at.ensures)), in_slot-le c.args.places.now c.args.cats c.args.shown.now c.loop-i.i c.slot-at.result)

pub loop-i-preserved : goal.loop-i-preserved
loop-i-preserved c =
    let have = c.requires.slots c.loop-i.i c.loop-i-test.true in
    record {
      count = length-set c.loop-i.rows c.slot-at.result (get_or c.loop-i.rows c.slot-at.result 0 + 1) ∙ c.loop-i.invariant.count;
      each = counted_more c.args.places.now c.args.cats c.args.shown.now c.loop-i.rows c.loop-i.i c.slot-at.result (length c.args.rows.now) c.loop-i.invariant.count c.slot-at.ensures (omega (arith, c.slot-at.ensures)) c.loop-i.invariant.each;
    }
