-- Levels with too few positions, from the coarsest on, and the numbers of positions.
use Rattle.std.proofs.Common.{◌≡◌, ℕ, zero, suc, ◌+◌, ◌-◌, ◌<◌, ◌≤◌, Bool, true, false, cond, List, [], ◌∷◌, map, length, Some, None, option_map, inl, inr, refl, ap, sym, ◌∙◌, arith}
use Rattle.std.specs.Prelude.{find}
use Rattle.std.specs.List.{range_with_len}
use Rattle.std.proofs.Math.Numerals.{add-one}
use Rattle.std.proofs.lemmas.List.FromFn.{length-map-range_with_len}
use Rattle.std.proofs.lemmas.Bool.{cases_eq, cond-true, cond-false, lt-ltb, le-ltb, ltb-false}
use Rattle.seq_engine.specs.declared.setup.RunError.TheVariants.{TooFewPositions}
use Rattle.seq_engine.specs.declared.setup.Setup.{Setup}
use Rattle.seq_engine.specs.Realisation.{level_positions, positions_by_level, is_short, short_level, too_few}

module _ (q : ℕ → Bool) (f : ℕ → ℕ) where
  find_at : (a n k : ℕ) → a ≤ k → k < a + n → q (f k) ≡ true → ((j : ℕ) → a ≤ j → j < k → q (f j) ≡ false) → find q (map f (range_with_len a n)) ≡ Some (f k)
  find_at a zero k low high holds fails = absurd (omega arith)
  find_at a (suc n) k low high holds fails = elim (cases_eq k a) [
    | inl at ↦ cond-true (q (f a)) (Some (f a)) (find q (map f (range_with_len (a + 1) n))) (ap (λ i. q (f i)) (sym at) ∙ holds) ∙ ap (λ i. Some (f i)) (sym at)
    | inr other ↦
        cond-false (q (f a)) (Some (f a)) (find q (map f (range_with_len (a + 1) n))) (fails a (omega arith) (omega arith))
        ∙ find_at (a + 1) n k (omega arith) (omega arith) holds (λ j up below. fails j (omega arith) below)
  ]

  find_not : (a n : ℕ) → ((j : ℕ) → a ≤ j → j < a + n → q (f j) ≡ false) → find q (map f (range_with_len a n)) ≡ None
  find_not a zero fails = refl
  find_not a (suc n) fails =
      cond-false (q (f a)) (Some (f a)) (find q (map f (range_with_len (a + 1) n))) (fails a (omega arith) (omega arith))
      ∙ find_not (a + 1) n (λ j up below. fails j (omega arith) (omega arith))

  -- where none is found, none passes
  found_none : (a n : ℕ) → find q (map f (range_with_len a n)) ≡ None → (j : ℕ) → a ≤ j → j < a + n → q (f j) ≡ false
  found_none a zero none j low high = absurd (omega arith)
  found_none a (suc n) none j low high = go (q (f a)) refl none (λ rest other. found_none (a + 1) n rest j (omega arith) (omega arith))
    where
      go : (b : Bool) → q (f a) ≡ b → cond b (Some (f a)) (find q (map f (range_with_len (a + 1) n))) ≡ None → (find q (map f (range_with_len (a + 1) n)) ≡ None → (j ≡ a → ⊥) → q (f j) ≡ false) → q (f j) ≡ false
      go true e is later = cc
      go false e is later = elim (cases_eq j a) [ inl at ↦ ap (λ i. q (f i)) at ∙ e | inr other ↦ later is other ]

module _ (s : Setup) where
  -- the coarsest k levels have enough positions
  unfoldable pub Enough : ℕ → Type 0
  Enough k = (j : ℕ) → j < k → is_short s (s.levels - j) ≡ false

  pub enough_none : Enough 0
  unfolding Enough
  enough_none j below = absurd (omega arith)

  pub enough_more : (k level : ℕ) → Enough k → level ≡ s.levels - k → s.min_replicates ≤ length (level_positions s level) → Enough (k + 1)
  unfolding Enough
  enough_more k level before is enough j below = elim (cases_eq j k) [
    | inl last ↦ ap (λ i. is_short s (s.levels - i)) last ∙ ap (is_short s) (sym is) ∙ le-ltb (length (level_positions s level)) s.min_replicates enough
    | inr earlier ↦ before j (omega arith)
  ]

  pub short_none : (k : ℕ) → Enough k → s.levels ≤ k → short_level s ≡ None
  unfolding Enough short_level
  short_none k enough all = find_not (is_short s) (λ j. s.levels - j) 0 s.levels (λ j _ below. enough j (omega arith))

  -- where no level is short, each has enough positions
  pub all_enough : short_level s ≡ None → (level : ℕ) → 1 ≤ level → level ≤ s.levels → s.min_replicates ≤ length (level_positions s level)
  unfolding short_level
  all_enough none level some most =
      let is : s.levels - (s.levels - level) ≡ level = omega arith in
      ltb-false (length (level_positions s level)) s.min_replicates
      (ap (is_short s) (sym is) ∙ found_none (is_short s) (λ j. s.levels - j) 0 s.levels none (s.levels - level) (omega arith) (omega arith))

  pub short_is : (k level : ℕ) → Enough k → k < s.levels → level ≡ s.levels - k → length (level_positions s level) < s.min_replicates → too_few s ≡ Some (TooFewPositions level (length (level_positions s level)) s.min_replicates)
  unfolding Enough short_level
  short_is k level before within is few =
      ap (option_map (λ g. TooFewPositions g (length (level_positions s g)) s.min_replicates))
      (find_at (is_short s) (λ j. s.levels - j) 0 s.levels k (omega arith) (omega arith) (ap (is_short s) (sym is) ∙ lt-ltb (length (level_positions s level)) s.min_replicates few) (λ j _ below. before j below) ∙ ap Some (sym is))

  -- how many positions the finest of the coarsest k levels has, and each after it
  unfoldable pub counted : ℕ → List ℕ
  counted k = map (λ level. length (level_positions s level)) (range_with_len (s.levels - k + 1) k)

  pub counted_none : counted 0 ≡ []
  unfolding counted
  counted_none = refl

  pub length-counted : (k : ℕ) → length (counted k) ≡ k
  unfolding counted
  length-counted k = length-map-range_with_len (λ g. length (level_positions s g)) (s.levels - k + 1) k

  pub counted_more : (k level : ℕ) → k < s.levels → level ≡ s.levels - k → counted (k + 1) ≡ length (level_positions s level) ∷ counted k
  unfolding counted
  counted_more k level within is =
      let first : s.levels - (k + 1) + 1 ≡ level = omega arith in
      let rest : level + 1 ≡ s.levels - k + 1 = omega arith in
      ap (λ a. map (λ g. length (level_positions s g)) (range_with_len a (k + 1))) first ∙ ap (λ n. map (λ g. length (level_positions s g)) (range_with_len level n)) (add-one k)
      ∙ ap (λ a. length (level_positions s level) ∷ map (λ g. length (level_positions s g)) (range_with_len a k)) rest

  pub counted_all : (k : ℕ) → k ≡ s.levels → counted k ≡ positions_by_level s
  unfolding counted
  counted_all k all =
      let one : s.levels - k + 1 ≡ 1 = omega arith in
      ap (λ a. map (λ g. length (level_positions s g)) (range_with_len a k)) one ∙ ap (λ n. map (λ g. length (level_positions s g)) (range_with_len 1 n)) all
