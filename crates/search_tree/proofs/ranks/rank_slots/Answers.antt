use Rattle.std.proofs.Common.{ℕ, ◌+◌, ◌∙◌, ◌==◌, not, cond, refl, ap, sym, arith}
use Rattle.std.proofs.lemmas.List.{length-set}
use Rattle.search_tree.proofs.Ranking.{later_more, ranked_more, used-le, used_more, used_none}
use Rattle.search_tree.proofs.ranks.rank_slots.Goals as goal

pub loop-j-init : goal.loop-j-init
loop-j-init c = record {
  count = refl;
  ranked = λ k below. absurd (omega arith);
  later = λ k from. refl;
  next_is = sym (used_none c.args.slots.now);
}

pub overflow_add-next : goal.overflow_add-next
overflow_add-next c =
    let same = c.loop-j.invariant.later c.loop-j.j (omega arith) in
    omega (arith, c.one_if-used.ensures, ap {B = ℕ} (λ x. cond (not (x == 0)) 1 0) same, used_more c.args.slots.now c.loop-j.j, used-le c.args.slots.now (c.loop-j.j + 1))

pub loop-j-preserved : goal.loop-j-preserved
loop-j-preserved c =
    let same = c.loop-j.invariant.later c.loop-j.j (omega arith) in
    record {
      count = length-set c.loop-j.slots c.loop-j.j c.loop-j.next ∙ c.loop-j.invariant.count;
      ranked = ranked_more c.loop-j.slots c.args.slots.now c.loop-j.j c.loop-j.next (omega (arith, c.loop-j.invariant.count, c.loop-j-test.true)) c.loop-j.invariant.next_is c.loop-j.invariant.ranked;
      later = later_more c.loop-j.slots c.args.slots.now c.loop-j.j c.loop-j.next c.loop-j.invariant.later;
      next_is = omega (arith, c.one_if-used.ensures, ap {B = ℕ} (λ x. cond (not (x == 0)) 1 0) same, used_more c.args.slots.now c.loop-j.j);
    }
