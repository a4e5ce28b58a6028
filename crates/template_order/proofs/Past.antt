-- A key that isn't before the last of some keys in order is past them all.
use Rattle.std.proofs.Common.{◌≡◌, ◌-◌, ◌<◌, true, false, List, length, get_or, Some, refl, ap, sym, subst, ◌∙◌, arith}
use Rattle.std.specs.List.{All}
use Rattle.std.specs.List.Sorted.{IsSorted}
use Rattle.std.specs.declared.cmp.Ordering.{Ordering}
use Rattle.std.specs.declared.cmp.Ordering.TheVariants.{Less, Equal, Greater}
use Rattle.std.specs.Ordering.{is_le, is_lt, is_some_and, ordering_reverse, ordering_then, partial_ordering_then}
use Rattle.std.proofs.lemmas.List.{get_or_default}
use Rattle.std.proofs.lemmas.List.Sorted.{sorted_far}
use Rattle.template_order.specs.Keys.{Key, key_cmp, is_up_to}
use Rattle.template_order.proofs.Least.{is_less, less_order, is_not}
use Rattle.template_order.proofs.Strict.{key_total}

-- what `<=` of four parts answers
pub le_is : (a b c d : Ordering) → is_some_and is_le (partial_ordering_then (partial_ordering_then (partial_ordering_then (Some a) (Some b)) (Some c)) (Some d)) ≡ is_le (ordering_then (ordering_then (ordering_then a b) c) d)
le_is Less b c d = refl
le_is Greater b c d = refl
le_is Equal Less c d = refl
le_is Equal Greater c d = refl
le_is Equal Equal Less d = refl
le_is Equal Equal Greater d = refl
le_is Equal Equal Equal d = refl

turned : (o : Ordering) → is_le o ≡ true → is_lt (ordering_reverse o) ≡ false
turned Less le = refl
turned Equal le = refl
turned Greater le = sym le

pub all_up : (keys : List Key) (k : Key) → IsSorted key_cmp keys → 0 < length keys → is_le (key_cmp (get_or keys (length keys - 1) k) k) ≡ true → All (λ q. is_up_to k q ≡ true) keys
all_up keys k sorted some le i d within =
    let last = get_or keys (length keys - 1) k in
    let last_again : get_or keys (length keys - 1) k ≡ get_or keys (length keys - 1) d = get_or_default keys (length keys - 1) k d (omega (arith, some)) in
    let not_before : is_less k last ≡ false = ap is_lt (key_total.antisymm k last) ∙ turned (key_cmp last k) le in
    let not_last : is_less last (get_or keys i d) ≡ false = subst (λ q. is_less q (get_or keys i d) ≡ false) (sym last_again) (sorted_far is_less less_order keys sorted i (length keys - 1) d (omega arith) (omega arith)) in
    is_not (is_less k (get_or keys i d)) (less_order.chain k last (get_or keys i d) not_before not_last)
