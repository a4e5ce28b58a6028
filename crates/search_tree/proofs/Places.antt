-- Places after a template position more.
use Rattle.std.proofs.Common.{◌≡◌, ℕ, zero, suc, ◌+◌, ◌-◌, ◌<◌, ◌≤◌, Bool, true, false, ◌&&◌, ◌||◌, nat_lt, List, length, get_or, map, refl, ap, sym, ◌∙◌, inl, inr, arith}
use Rattle.std.specs.List.{list_any, range_with_len}
use Rattle.std.proofs.Math.Dec.{eqb}
use Rattle.std.proofs.lemmas.Bool.{cases_lt}
use Rattle.std.proofs.lemmas.Bool.Decides.{nat_tests}
use Rattle.pattern_store.specs.Slots.{HaveSlots, place_slot, slots_of}
use Rattle.search_tree.specs.Ranks.{AreMarked, AreRanks, IsRefined, is_used, used_before}
use Rattle.search_tree.proofs.Distinct.{used_many}
use Rattle.search_tree.proofs.Ranking.{ranks-apart, used-less}

same-test : (x y : ℕ) → x ≡ y → eqb x y ≡ true
same-test x y e = grind (arith, nat_tests)

or-left : (a b : Bool) → a ≡ true → (a || b) ≡ true
or-left true b e = refl
or-left false b e = absurd (wrong e)
  where
    wrong : false ≡ true → ⊥
    wrong e = cc

or-right : (a b : Bool) → b ≡ true → (a || b) ≡ true
or-right true b e = refl
or-right false b e = e

-- an item of the list is among them
among : (f : ℕ → ℕ) (i a n : ℕ) → a ≤ i → i < a + n → list_any (eqb (f i)) (map f (range_with_len a n)) ≡ true
among f i a zero low high = absurd (omega arith)
among f i a (suc n) low high = elim (cases_lt a i) [
  | inl less ↦ or-right (eqb (f i) (f a)) (list_any (eqb (f i)) (map f (range_with_len (a + 1) n))) (among f i (a + 1) n (omega arith) (omega arith))
  | inr more ↦
      let here : a ≡ i = omega arith in
      or-left (eqb (f i) (f a)) (list_any (eqb (f i)) (map f (range_with_len (a + 1) n))) (same-test (f i) (f a) (ap f (sym here)))
]

-- what isn't below n is no item of numbers below n
outside : (f : ℕ → ℕ) (q to a n : ℕ) → ((i : ℕ) → a ≤ i → i < a + n → f i < to) → to ≤ q → list_any (eqb q) (map f (range_with_len a n)) ≡ false
outside f q to a zero below from = refl
outside f q to a (suc n) below from =
    ap (λ b. b || list_any (eqb q) (map f (range_with_len (a + 1) n))) (differ q (f a) (omega (arith, below a (omega arith) (omega arith))))
    ∙ outside f q to (a + 1) n (λ i low high. below i (omega arith) (omega arith)) from
  where
    differ : (x y : ℕ) → y < x → eqb x y ≡ false
    differ x y less = grind (arith, nat_tests)

module _ (before : List ℕ) (cats : ℕ) (shown uses ranks after : List ℕ) (slots next : ℕ) (have : HaveSlots before cats shown slots) (long : length uses ≡ slots) (marked : AreMarked before cats shown (length before) uses) (ranked : AreRanks uses ranks) (next_is : next ≡ used_before uses slots) (count : length after ≡ length before) (places : (i : ℕ) → i < length before → get_or after i 0 ≡ get_or ranks (place_slot before cats shown i) 0) where
  used : (i : ℕ) → i < length before → is_used uses (place_slot before cats shown i) ≡ true
  used i within = marked.each (place_slot before cats shown i) ∙ among (place_slot before cats shown) i 0 (length before) (omega arith) (omega arith)

  rank_is : (i : ℕ) → i < length before → get_or after i 0 ≡ used_before uses (place_slot before cats shown i)
  rank_is i within = places i within ∙ ranked.each (place_slot before cats shown i) (omega (arith, have i within))

  all-tests : (q : ℕ) → list_any (eqb q) (slots_of before cats shown (length before)) ≡ (nat_lt q slots && is_used uses q)
  all-tests q = elim (cases_lt q slots) [
    | inl less ↦ sym (marked.each q) ∙ sym (ap (λ b. b && is_used uses q) (yes_lt q less))
    | inr more ↦
        outside (place_slot before cats shown) q slots 0 (length before) (λ i low high. have i (omega arith)) (omega arith)
        ∙ sym (ap (λ b. b && is_used uses q) (no_lt q (omega arith)))
  ]
    where
      yes_lt : (q : ℕ) → q < slots → nat_lt q slots ≡ true
      yes_lt q less = grind (arith, nat_tests)

      no_lt : (q : ℕ) → slots ≤ q → nat_lt q slots ≡ false
      no_lt q more = grind (arith, nat_tests)

  pub refined : IsRefined before cats shown next after
  refined = record {
    count = count;
    together = λ i j i_within j_within same. rank_is i i_within ∙ ap (used_before uses) same ∙ sym (rank_is j j_within);
    apart = λ i j i_within j_within same. ranks-apart uses (place_slot before cats shown i) (place_slot before cats shown j) (used i i_within) (used j j_within) (sym (rank_is i i_within) ∙ same ∙ rank_is j j_within);
    below = λ i within. below i within;
    many = next_is ∙ used_many uses (slots_of before cats shown (length before)) slots all-tests;
  }
    where
      below : (i : ℕ) → i < length before → get_or after i 0 < next
      below i within =
          let slot = place_slot before cats shown i in
          let there : slot + suc (slots - (slot + 1)) ≡ slots = omega (arith, have i within) in
          omega (arith, rank_is i within, next_is, used-less uses slot (slots - (slot + 1)) (used i within), ap (used_before uses) there)
