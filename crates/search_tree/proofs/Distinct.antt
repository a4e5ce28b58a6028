-- As many ranks as distinct slots.
use Rattle.std.proofs.Common.{◌≡◌, ℕ, zero, suc, ◌+◌, ◌<◌, Bool, true, false, not, cond, ◌&&◌, ◌||◌, nat_lt, List, ◌∷◌, filter, ap, sym, ◌∙◌, arith}
use Rattle.std.specs.Cmp.{nat_eq_equiv}
use Rattle.std.specs.List.{AllByRecursion, IsDistinct, list_any, range_with_len}
use Rattle.std.specs.Set.{distinct_count}
use Rattle.std.proofs.Math.Dec.{eqb}
use Rattle.std.proofs.lemmas.Bool.{eqb-true}
use Rattle.std.proofs.lemmas.Bool.Decides.{nat_tests}
use Rattle.std.proofs.lemmas.List.Sums.{length-filter}
use Rattle.std.proofs.lemmas.Map.Keys.{IsDistinct-cons}
use Rattle.std.proofs.lemmas.Map.Made.{is_member-filter, length-from_keys}
use Rattle.search_tree.specs.Ranks.{is_used, used_before}

member-step : (q a n : ℕ) → (eqb q a || (not (nat_lt q (a + 1)) && nat_lt q (a + 1 + n))) ≡ (not (nat_lt q a) && nat_lt q (a + suc n))
member-step q a n = grind (arith, nat_tests)

member-none : (q a : ℕ) → false ≡ (not (nat_lt q a) && nat_lt q (a + 0))
member-none q a = grind (arith, nat_tests)

range-member : (q a n : ℕ) → list_any (eqb q) (range_with_len a n) ≡ (not (nat_lt q a) && nat_lt q (a + n))
range-member q a zero = member-none q a
range-member q a (suc n) = ap (λ b. eqb q a || b) (range-member q (a + 1) n) ∙ member-step q a n

first-member : (q n : ℕ) → (not (nat_lt q 0) && nat_lt q (0 + n)) ≡ nat_lt q n
first-member q n = grind (arith, nat_tests)

module _ (p : ℕ → Bool) where
  beyond : (a b n : ℕ) → a < b → AllByRecursion (λ y. eqb a y ≡ false) (filter p (range_with_len b n))
  beyond a b zero less = tt
  beyond a b (suc n) less = step (p b) (beyond a (b + 1) n (omega arith))
    where
      other : eqb a b ≡ false
      other = grind (arith, nat_tests)

      step : (c : Bool) → AllByRecursion (λ y. eqb a y ≡ false) (filter p (range_with_len (b + 1) n)) → AllByRecursion (λ y. eqb a y ≡ false) (cond c (b ∷ filter p (range_with_len (b + 1) n)) (filter p (range_with_len (b + 1) n)))
      step true rest = (other, rest)
      step false rest = rest

  range-distinct : (a n : ℕ) → IsDistinct eqb (filter p (range_with_len a n))
  unfolding IsDistinct
  range-distinct a zero = tt
  range-distinct a (suc n) = step (p a) (range-distinct (a + 1) n)
    where
      step : (c : Bool) → IsDistinct eqb (filter p (range_with_len (a + 1) n)) → IsDistinct eqb (cond c (a ∷ filter p (range_with_len (a + 1) n)) (filter p (range_with_len (a + 1) n)))
      step true rest = IsDistinct-cons eqb a (filter p (range_with_len (a + 1) n)) (beyond a (a + 1) n (omega arith)) rest
      step false rest = rest

-- there are as many used slots as distinct ones among the slots that positions have
pub used_many : (uses xs : List ℕ) (n : ℕ) → ((q : ℕ) → list_any (eqb q) xs ≡ (nat_lt q n && is_used uses q)) → used_before uses n ≡ distinct_count eqb xs
unfolding used_before
used_many uses xs n same =
    sym (length-filter (is_used uses) (range_with_len 0 n))
    ∙ length-from_keys nat_eq_equiv (filter (is_used uses) (range_with_len 0 n)) xs (range-distinct (is_used uses) 0 n)
    (λ q. is_member-filter nat_eq_equiv (is_used uses) q (λ x e. ap (is_used uses) (eqb-true q x e)) (range_with_len 0 n) ∙ ap (λ b. b && is_used uses q) (range-member q 0 n ∙ first-member q n) ∙ sym (same q))
