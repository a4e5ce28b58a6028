-- Ranks of longer and longer prefixes.
use Rattle.std.proofs.Common.{◌≡◌, ℕ, suc, ◌+◌, ◌*◌, ◌^◌, ◌<◌, ◌≤◌, List, length, get_or, replicate, refl, ap, ◌∙◌, arith}
use Rattle.std.specs.List.{range_with_len, sum_by}
use Rattle.std.proofs.Math.Dec.{eqb}
use Rattle.std.proofs.Math.Nat.{mul-le-mul_left}
use Rattle.std.proofs.lemmas.List.{get_or-replicate, length-replicate}
use Rattle.std.proofs.lemmas.List.FromFn.{length-map-range_with_len}
use Rattle.std.proofs.lemmas.List.Sums.{sum_by-append}
use Rattle.std.proofs.lemmas.Map.Made.{distinct_count-le}
use Rattle.ti_scan.proofs.Blocks.{range-append}
use Rattle.ti_scan.specs.Event.{Source, IsSource}
use Rattle.ti_scan.specs.Eroded.{positions_of}
use Rattle.pattern_store.specs.Levels.{AreShown, many}
use Rattle.pattern_store.specs.Prefixes.{prefixes}
use Rattle.pattern_store.specs.Slots.{HaveSlots, place_slot, slots_of}
use Rattle.pattern_store.proofs.Longer.{distinct_slots, first_alike, longer_alike}
use Rattle.pattern_store.proofs.Longer.{have_slots as slots_there}
use Rattle.search_tree.specs.Ranks.{IsRanked, IsRefined}

pub no_depth : (s : Source) → IsRanked s 0 (replicate (many s) 0) 1 1
no_depth s = record {
  count = length-replicate (many s) 0;
  alike = first_alike s (replicate (many s) 0) 0 (λ i within. get_or-replicate (many s) i 0 0 within);
  below = λ i within. let e : ◌≡◌ {A = ℕ} (get_or (replicate (many s) 0) i 0) 0 = get_or-replicate (many s) i 0 0 within in omega arith;
  few = omega arith;
  nodes_are = refl;
  nodes_few = omega arith;
}

module _ (s : Source) (is : IsSource s) where
  prefixes_more : (depth : ℕ) → sum_by (prefixes s) (range_with_len 1 (depth + 1)) ≡ sum_by (prefixes s) (range_with_len 1 depth) + prefixes s (suc depth)
  prefixes_more depth =
      let next : 1 + depth ≡ suc depth = omega arith in
      ap (sum_by (prefixes s)) (range-append 1 depth 1) ∙ sum_by-append (prefixes s) (range_with_len 1 depth) (range_with_len (1 + depth) 1)
      ∙ ap (λ m. sum_by (prefixes s) (range_with_len 1 depth) + m) (one (prefixes s (1 + depth))) ∙ ap (λ d. sum_by (prefixes s) (range_with_len 1 depth) + prefixes s d) next
    where
      one : (x : ℕ) → 0 + x ≡ x
      one x = omega arith

  module _ (depth : ℕ) (places : List ℕ) (classes nodes : ℕ) (ranked : IsRanked s depth places classes nodes) (short : depth < length s.template) (shown : List ℕ) (are : AreShown s (depth + 1) (positions_of s.image s.template) shown) where
    pub have_slots : (cats : ℕ) → cats ≡ s.cats → HaveSlots places cats shown (classes * cats)
    have_slots cats cats_are = slots_there s is depth places short shown are classes cats cats_are ranked.count ranked.below

    pub few_slots : (cats : ℕ) → cats ≡ s.cats → many s ≤ 2 ^ 20 → classes * cats < 2 ^ 32
    few_slots cats cats_are small = omega (arith, ranked.few, is.cats_few, mul-le-mul_left classes is.cats_few, ap (λ n. classes * n) cats_are)

    module _ (cats next : ℕ) (after : List ℕ) (cats_are : cats ≡ s.cats) (refined : IsRefined places cats shown next after) where
      next_is : next ≡ prefixes s (suc depth)
      next_is = refined.many ∙ distinct_slots s is depth places short shown are ranked.alike cats cats_are ranked.count

      pub next-le : next ≤ many s
      next-le = omega (arith, refined.many, distinct_count-le eqb (slots_of places cats shown (length places)), length-map-range_with_len (place_slot places cats shown) 0 (length places), ranked.count)

      pub deeper : IsRanked s (depth + 1) after next (nodes + next)
      deeper = record {
        count = refined.count ∙ ranked.count;
        alike = longer_alike s is depth places short shown are ranked.alike cats after cats_are
            (λ i j i_within j_within. refined.apart i j (omega (arith, ranked.count)) (omega (arith, ranked.count)))
            (λ i j i_within j_within. refined.together i j (omega (arith, ranked.count)) (omega (arith, ranked.count)));
        below = λ i within. refined.below i (omega (arith, ranked.count));
        few = omega (arith, next-le);
        nodes_are = omega (arith, ranked.nodes_are, next_is, prefixes_more depth);
        nodes_few = omega (arith, ranked.nodes_few, next-le);
      }
