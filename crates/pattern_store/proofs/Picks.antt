-- Patterns that are marked by one position each.
use Rattle.std.proofs.Common.{◌≡◌, ◌⊎◌, ℕ, suc, ◌+◌, ◌<◌, ◌==◌, true, List, length, get_or, set, unwrap_or, ap, sym, ◌∙◌, subst, inl, inr, arith}
use Rattle.std.proofs.lemmas.Bool.{cases_eq}
use Rattle.std.proofs.lemmas.Bool.Decides.{nat_tests}
use Rattle.std.proofs.lemmas.List.{get_or-set_other, get_or-set_same, length-set}
use Rattle.mp_base.specs.Grid.{cells_of}
use Rattle.ti_scan.specs.Eroded.{is_eroded, positions_of}
use Rattle.ti_scan.specs.Event.{Source, IsSource, cat_around}
use Rattle.pattern_blocks.specs.Drawn.{IsAmong, bit_of}
use Rattle.pattern_store.specs.Building.{AreDrawn, ArePicked, ArePicks, IsDrawn}
use Rattle.pattern_store.specs.Levels.{AreAlike, AreEroded, around, cell_of, many, table}
use Rattle.pattern_store.proofs.Source.{eroded}
use Rattle.pattern_store.proofs.Whole.{prefix_table}

module _ (places picks : List ℕ) (i at : ℕ) (at_is : at ≡ get_or places i 0) (small : at < length picks) where
  pub pick_within : i < length places → ((r : ℕ) → r < length picks → get_or picks r 0 < length places) → (r : ℕ) → r < length (set picks at i) → get_or (set picks at i) r 0 < length places
  pick_within here within r below = elim (cases_eq r at) [
    | inl same ↦ omega (arith, ap (λ k. get_or (set picks at i) k 0) same, get_or-set_same picks at i 0 small)
    | inr other ↦ omega (arith, get_or-set_other picks at r i 0 other, within r (omega (arith, length-set picks at i)))
  ]

  pub pick_own : ((j : ℕ) → j < i → get_or places (get_or picks (get_or places j 0) 0) 0 ≡ get_or places j 0) → (j : ℕ) → j < i + 1 → get_or places (get_or (set picks at i) (get_or places j 0) 0) 0 ≡ get_or places j 0
  pick_own own j below = elim (cases_eq (get_or places j 0) at) [
    | inl same ↦
        ap (λ k. get_or places (get_or (set picks at i) k 0) 0) same ∙ ap (λ k. get_or places k 0) (get_or-set_same picks at i 0 small)
        ∙ sym at_is ∙ sym same
    | inr other ↦
        ap (λ k. get_or places k 0) (get_or-set_other picks at (get_or places j 0) i 0 other) ∙ own j (earlier other (cases_eq j i))
  ]
    where
      earlier : (get_or places j 0 ≡ at → ⊥) → (j ≡ i) ⊎ (j ≡ i → ⊥) → j < i
      earlier other (inl same) = absurd (other (ap (λ k. get_or places k 0) same ∙ sym at_is))
      earlier other (inr differ) = omega arith

module _ (s : Source) (is : IsSource s) (places picks own cells : List ℕ) (n_is : length places ≡ many s) (are : ArePicks places picks) (owns : ArePicked places picks own) (stand : ArePicked (positions_of s.image s.template) picks cells) where
  -- the cells of picks are eroded
  pub picked_eroded : ((i : ℕ) → i < many s → cell_of s i < cells_of s.image.sides) → AreEroded s cells
  picked_eroded inside = record {
    inside = λ r below. subst (λ (c : ℕ). c < cells_of s.image.sides) (sym (at r below)) (inside (get_or picks r 0) (within r below));
    eroded = λ r below. ap (is_eroded s.image s.template) (at r below) ∙ eroded s is (get_or picks r 0) (within r below);
  }
    where
      at : (r : ℕ) → r < length cells → get_or cells r 0 ≡ cell_of s (get_or picks r 0)
      at r below = stand.each r (omega (arith, stand.count))

      within : (r : ℕ) → r < length cells → get_or picks r 0 < many s
      within r below = omega (arith, are.within r (omega (arith, stand.count)))

  module _ (alike : AreAlike s (length s.template) places) where
    same-test : (a b : ℕ) → a ≡ b → (a == b) ≡ true
    same-test a b e = grind (arith, nat_tests)

    -- positions of one rank show one pattern
    table_same : (i j q : ℕ) → i < many s → j < many s → q < length s.template → get_or places i 0 ≡ get_or places j 0 → table s i q ≡ table s j q
    table_same i j q i_within j_within short same = prefix_table s is (length s.template) i j q (omega arith) i_within j_within short (sym (alike i j i_within j_within) ∙ same-test (get_or places i 0) (get_or places j 0) same)

    -- what is marked of the picks is marked of all positions
    pub all_drawn : (words : List ℕ) → AreDrawn (around s cells) (λ i. get_or own i 0) (length own) (length s.template) s.cats (length s.template) words → IsDrawn s (λ i. get_or places i 0) (length s.template) words
    all_drawn words drawn = record {
      marked = λ i q within short. marked i q within short;
      only = λ r q k q_small k_small bit. only r q k (drawn.only r q k q_small k_small bit);
    }
      where
        marked : (i q : ℕ) → i < many s → q < length s.template → bit_of words (length s.template) s.cats (get_or places i 0) q (table s i q) ≡ 1
        marked i q within short =
            let r = get_or places i 0 in
            let known : r < length picks = are.known i (omega (arith, within, n_is)) in
            let p = get_or picks r 0 in
            let p_within : p < many s = omega (arith, are.within r known, n_is) in
            let place : get_or own r 0 ≡ r = owns.each r known ∙ are.own i (omega (arith, within, n_is)) in
            let shown : around s cells r q ≡ table s i q = ap (λ c. unwrap_or (cat_around s c (suc q)) 0) (stand.each r known) ∙ table_same p i q p_within within short (are.own i (omega (arith, within, n_is))) in
            ap (λ x. bit_of words (length s.template) s.cats x q (table s i q)) (sym place)
            ∙ ap (bit_of words (length s.template) s.cats (get_or own r 0) q) (sym shown)
            ∙ drawn.marked r q (omega (arith, known, owns.count)) short

        only : (r q k : ℕ) → IsAmong (λ i. get_or own i 0) (λ i. around s cells i q) (length own) r k → IsAmong (λ i. get_or places i 0) (λ i. table s i q) (many s) r k
        only r q k found =
            let known : found.0 < length picks = omega (arith, found.1, owns.count) in
            (get_or picks found.0 0, omega (arith, are.within found.0 known, n_is), sym (owns.each found.0 known) ∙ found.2, ap (λ c. unwrap_or (cat_around s c (suc q)) 0) (sym (stand.each found.0 known)) ∙ found.3)
