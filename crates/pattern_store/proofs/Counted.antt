-- The slots of positions.
use Rattle.std.proofs.Common.{◌≡◌, ℕ, ◌+◌, ◌<◌, ◌≤◌, ◌==◌, cond, List, length, get_or, set, true, false, ap, sym, ◌∙◌, inl, inr, refl, arith}
use Rattle.std.specs.List.{range_with_len}
use Rattle.std.proofs.lemmas.Bool.{cases_eq}
use Rattle.std.proofs.lemmas.Bool.Decides.{nat_tests}
use Rattle.std.proofs.lemmas.List.{get_or-set_other, get_or-set_same}
use Rattle.std.proofs.lemmas.List.FromFn.{length-range_with_len}
use Rattle.std.proofs.lemmas.List.Sums.{count_by-le-length}
use Rattle.pattern_store.specs.Building.{in_slot}
use Rattle.pattern_store.specs.Slots.{place_slot}
use Rattle.pattern_store.proofs.Sums.{count-more}

module _ (places : List ℕ) (cats : ℕ) (shown : List ℕ) where
  pub in_slot_none : (j : ℕ) → in_slot places cats shown 0 j ≡ 0
  unfolding in_slot
  in_slot_none j = refl

  pub in_slot_more : (n j : ℕ) → in_slot places cats shown (n + 1) j ≡ in_slot places cats shown n j + cond (place_slot places cats shown n == j) 1 0
  unfolding in_slot
  in_slot_more n j = count-more (λ i. place_slot places cats shown i == j) n

  pub in_slot-le : (n j : ℕ) → in_slot places cats shown n j ≤ n
  unfolding in_slot
  in_slot-le n j = omega (arith, count_by-le-length (λ i. place_slot places cats shown i == j) (range_with_len 0 n), length-range_with_len 0 n)

  -- one more position
  pub counted_more : (rows : List ℕ) (n at many : ℕ) → length rows ≡ many → at ≡ place_slot places cats shown n → at < many → ((j : ℕ) → j < many → get_or rows j 0 ≡ in_slot places cats shown n j) → (j : ℕ) → j < many → get_or (set rows at (get_or rows at 0 + 1)) j 0 ≡ in_slot places cats shown (n + 1) j
  counted_more rows n at many long is within each j below = elim (cases_eq j at) [
    | inl here ↦
        let yes : (place_slot places cats shown n == j) ≡ true = grind (arith, nat_tests) in
        let one : cond (place_slot places cats shown n == j) 1 0 ≡ 0 + 1 = ap (λ b. cond b 1 0) yes in
        ap (λ m. get_or (set rows at (get_or rows at 0 + 1)) m 0) here ∙ get_or-set_same rows at (get_or rows at 0 + 1) 0 (omega arith)
        ∙ ap (λ m. get_or rows m 0 + 1) (sym here) ∙ ap (λ m. m + 1) (each j below)
        ∙ omega (arith, in_slot_more n j, one)
    | inr there ↦
        let no : (place_slot places cats shown n == j) ≡ false = grind (arith, nat_tests) in
        let none : cond (place_slot places cats shown n == j) 1 0 ≡ 0 + 0 = ap (λ b. cond b 1 0) no in
        get_or-set_other rows at j (get_or rows at 0 + 1) 0 there ∙ each j below ∙ omega (arith, in_slot_more n j, none)
  ]
