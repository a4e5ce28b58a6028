use Rattle.std.proofs.Common.{◌<◌, ◌∙◌, get_or, length, refl, ap, slice_index, arith}
use Rattle.std.proofs.lemmas.List.{length-set}
use Rattle.pattern_store.proofs.StoreSums.{zeros}
use Rattle.pattern_store.proofs.Picks.{pick_own, pick_within}
use Rattle.pattern_store.proofs.picking.pick.Goals as goal

pub loop-i-init : goal.loop-i-init
loop-i-init c = record {
  count = refl;
  within = λ r below. omega (arith, ap (λ l. get_or l r 0) c.requires.clear, zeros (length c.args.picks.now) r, c.requires.some (omega arith));
  own = λ j below. absurd (omega arith);
}

pub loop-i-preserved : goal.loop-i-preserved
loop-i-preserved c =
    let places = c.args.places.now in
    let picks = c.loop-i.picks in
    let i = c.loop-i.i in
    let at = slice_index places i in
    let small : at < length picks = omega (arith, c.loop-i.invariant.count, c.requires.below i c.loop-i-test.true) in
    record {
      count = length-set picks at i ∙ c.loop-i.invariant.count;
      within = pick_within places picks i at refl small c.loop-i-test.true c.loop-i.invariant.within;
      own = pick_own places picks i at refl small c.loop-i.invariant.own;
    }
