-- Ranks of slots, one after another.
use Rattle.std.proofs.Common.{◌≡◌, ℕ, zero, suc, ◌+◌, ◌-◌, ◌<◌, ◌≤◌, ◌==◌, Bool, true, false, not, cond, ◌||◌, List, [], ◌∷◌, ◌++◌, length, get_or, set, refl, ap, sym, ◌∙◌, inl, inr, arith}
use Rattle.std.specs.List.{count_by, list_any, range_with_len}
use Rattle.std.proofs.Math.Dec.{eqb}
use Rattle.std.proofs.lemmas.Bool.{cases_eq, cases_lt}
use Rattle.std.proofs.lemmas.Bool.Decides.{nat_tests}
use Rattle.std.proofs.lemmas.List.{get_or-set_other, get_or-set_same}
use Rattle.std.proofs.lemmas.List.Folds.{list_any-append}
use Rattle.std.proofs.lemmas.List.FromFn.{length-range_with_len, map-range_with_len_more}
use Rattle.std.proofs.lemmas.List.Sums.{count_by-le-length, sum_by_push}
use Rattle.mp_base.proofs.Ranges.{range_more}
use Rattle.pattern_store.specs.Slots.{place_slot, slots_of}
use Rattle.search_tree.specs.Ranks.{AreMarked, is_used, used_before}

pub used_none : (uses : List ℕ) → used_before uses 0 ≡ 0
unfolding used_before
used_none uses = refl

pub used_more : (uses : List ℕ) (j : ℕ) → used_before uses (j + 1) ≡ used_before uses j + cond (is_used uses j) 1 0
unfolding used_before
used_more uses j = ap (count_by (is_used uses)) (range_more j) ∙ sum_by_push (λ i. cond (is_used uses i) 1 0) (range_with_len 0 j) j

pub used-le : (uses : List ℕ) (j : ℕ) → used_before uses j ≤ j
unfolding used_before
used-le uses j = omega (arith, count_by-le-length (is_used uses) (range_with_len 0 j), length-range_with_len 0 j)

pub used_some : (uses : List ℕ) (j : ℕ) → (get_or uses j 0 ≡ 0 → ⊥) → used_before uses (j + 1) ≡ used_before uses j + 1
used_some uses j some = used_more uses j ∙ ap (λ b. used_before uses j + cond (not b) 1 0) (test (get_or uses j 0) some)
  where
    test : (x : ℕ) → (x ≡ 0 → ⊥) → (x == 0) ≡ false
    test x other = grind (arith, nat_tests)

pub used_same : (uses : List ℕ) (j : ℕ) → get_or uses j 0 ≡ 0 → used_before uses (j + 1) ≡ used_before uses j + 0
used_same uses j none = used_more uses j ∙ ap (λ x. used_before uses j + cond (not (x == 0)) 1 0) none

-- slot j has its rank
pub ranked_more : (slots uses : List ℕ) (j rank : ℕ) → j < length slots → rank ≡ used_before uses j → ((k : ℕ) → k < j → get_or slots k 0 ≡ used_before uses k) → (k : ℕ) → k < j + 1 → get_or (set slots j rank) k 0 ≡ used_before uses k
ranked_more slots uses j rank within is ranked k below = elim (cases_eq k j) [
  | inl same ↦ ap (λ i. get_or (set slots j rank) i 0) same ∙ get_or-set_same slots j rank 0 within ∙ is ∙ ap (used_before uses) (sym same)
  | inr other ↦ get_or-set_other slots j k rank 0 other ∙ ranked k (omega arith)
]

pub later_more : (slots uses : List ℕ) (j rank : ℕ) → ((k : ℕ) → j ≤ k → get_or slots k 0 ≡ get_or uses k 0) → (k : ℕ) → j + 1 ≤ k → get_or (set slots j rank) k 0 ≡ get_or uses k 0
later_more slots uses j rank later k from = get_or-set_other slots j k rank 0 (omega arith) ∙ later k (omega arith)

-- an earlier used slot has a lower rank
pub used-less : (uses : List ℕ) (j d : ℕ) → is_used uses j ≡ true → used_before uses j < used_before uses (j + suc d)
used-less uses j zero used =
    let next : j + 1 ≡ j + 1 = refl in
    omega (arith, used_more uses j, ap {B = ℕ} (λ b. cond b 1 0) used)
used-less uses j (suc d) used =
    let next : j + suc (suc d) ≡ j + suc d + 1 = omega arith in
    omega (arith, used-less uses j d used, used_more uses (j + suc d), ap (used_before uses) next)

-- so used slots of one rank are one slot
pub ranks-apart : (uses : List ℕ) (j k : ℕ) → is_used uses j ≡ true → is_used uses k ≡ true → used_before uses j ≡ used_before uses k → j ≡ k
ranks-apart uses j k j_used k_used same = elim (cases_lt j k) [
  | inl less ↦
      let there : j + suc (k - (j + 1)) ≡ k = omega arith in
      omega (arith, used-less uses j (k - (j + 1)) j_used, ap (used_before uses) there)
  | inr more ↦ elim (cases_lt k j) [
    | inl less ↦
        let there : k + suc (j - (k + 1)) ≡ j = omega arith in
        omega (arith, used-less uses k (j - (k + 1)) k_used, ap (used_before uses) there)
    | inr also ↦ omega arith
  ]
]

or-true : (b : Bool) → (b || true) ≡ true
or-true true = refl
or-true false = refl

or-false : (b : Bool) → (b || false) ≡ b
or-false true = refl
or-false false = refl

module _ (places : List ℕ) (cats : ℕ) (shown : List ℕ) (i at : ℕ) (at_is : at ≡ place_slot places cats shown i) where
  any_more : (j : ℕ) → list_any (eqb j) (slots_of places cats shown (i + 1)) ≡ (list_any (eqb j) (slots_of places cats shown i) || eqb j at)
  any_more j =
      ap (list_any (eqb j)) (map-range_with_len_more (place_slot places cats shown) 0 i i (omega arith) ∙ ap (λ k. slots_of places cats shown i ++ k ∷ []) (sym at_is))
      ∙ list_any-append (eqb j) (slots_of places cats shown i) (at ∷ []) ∙ ap (λ b. list_any (eqb j) (slots_of places cats shown i) || b) (or-false (eqb j at))

  -- the slot of one more position is marked
  pub marked_more : (slots : List ℕ) → at < length slots → AreMarked places cats shown i slots → AreMarked places cats shown (i + 1) (set slots at 1)
  marked_more slots within marked = record { each = λ j. each j }
    where
      same-test : (j : ℕ) → j ≡ at → eqb j at ≡ true
      same-test j e = grind (arith, nat_tests)

      other-test : (j : ℕ) → (j ≡ at → ⊥) → eqb j at ≡ false
      other-test j e = grind (arith, nat_tests)

      each : (j : ℕ) → is_used (set slots at 1) j ≡ list_any (eqb j) (slots_of places cats shown (i + 1))
      each j = elim (cases_eq j at) [
        | inl same ↦
            ap (λ k. is_used (set slots at 1) k) same ∙ ap (λ x. not (x == 0)) (get_or-set_same slots at 1 0 within)
            ∙ sym (any_more j ∙ ap (λ b. list_any (eqb j) (slots_of places cats shown i) || b) (same-test j same) ∙ or-true (list_any (eqb j) (slots_of places cats shown i)))
        | inr other ↦
            ap (λ x. not (x == 0)) (get_or-set_other slots at j 1 0 other) ∙ marked.each j
            ∙ sym (any_more j ∙ ap (λ b. list_any (eqb j) (slots_of places cats shown i) || b) (other-test j other) ∙ or-false (list_any (eqb j) (slots_of places cats shown i)))
      ]
