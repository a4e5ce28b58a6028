-- Places by what is shown at a template position more.
use Rattle.std.proofs.Common.{◌≡◌, ℕ, zero, suc, ◌+◌, ◌*◌, ◌<◌, ◌≤◌, ◌==◌, Bool, true, false, cond, ◌&&◌, ◌||◌, List, ◌∷◌, length, get_or, map, Some, refl, ap, sym, ◌∙◌, inl, inr, arith}
use Rattle.std.specs.List.{list_any, range_with_len}
use Rattle.std.specs.Set.{distinct_count, unique_keys}
use Rattle.std.proofs.Math.Dec.{eqb}
use Rattle.std.proofs.lemmas.Bool.{cases_eq}
use Rattle.std.proofs.lemmas.Bool.Decides.{nat_tests}
use Rattle.std.proofs.lemmas.List.FromFn.{fill_by_all}
use Rattle.ti_scan.specs.Event.{Source, IsSource, cat_around}
use Rattle.ti_scan.specs.Eroded.{positions_of}
use Rattle.pattern_store.specs.Levels.{AreAlike, AreShown, cell_of, many, table}
use Rattle.pattern_store.specs.Prefixes.{prefixes, same_cat, same_prefix}
use Rattle.pattern_store.specs.Slots.{HaveSlots, place_slot, slots_of}
use Rattle.pattern_blocks.proofs.Pairs.{row-fits, same_slot}
use Rattle.pattern_store.proofs.Source.{table-below, table_is}

equal : (n m : ℕ) → n ≡ m → (n == m) ≡ true
equal n m same = grind (arith, nat_tests)

differ : (n m : ℕ) → (n ≡ m → ⊥) → (n == m) ≡ false
differ n m apart = grind (arith, nat_tests)

-- tests of equality agree where equality does
tests-agree : (a b c d : ℕ) → (a ≡ b → c ≡ d) → (c ≡ d → a ≡ b) → (a == b) ≡ (c == d)
tests-agree a b c d to from = elim (cases_eq a b) [
  | inl same ↦ equal a b same ∙ sym (equal c d (to same))
  | inr apart ↦ differ a b apart ∙ sym (differ c d (λ e. apart (from e)))
]

-- tests that agree find as many distinct items
module _ {X Y : Type 0} (eq : X → X → Bool) (is : Y → Y → Bool) (f : ℕ → X) (g : ℕ → Y) (to : ℕ) (alike : (i j : ℕ) → i < to → j < to → eq (f i) (f j) ≡ is (g i) (g j)) where
  any-alike : (i a n : ℕ) → i < to → a + n ≤ to → list_any (eq (f i)) (map f (range_with_len a n)) ≡ list_any (is (g i)) (map g (range_with_len a n))
  any-alike i a zero within fits = refl
  any-alike i a (suc n) within fits =
      ap (λ b. b || list_any (eq (f i)) (map f (range_with_len (a + 1) n))) (alike i a within (omega arith))
      ∙ ap (λ b. is (g i) (g a) || b) (any-alike i (a + 1) n within (omega arith))

  distinct-alike : (a n : ℕ) → a + n ≤ to → distinct_count eq (map f (range_with_len a n)) ≡ distinct_count is (map g (range_with_len a n))
  distinct-alike a zero fits = refl
  distinct-alike a (suc n) fits =
      ap (λ b. length (cond b (unique_keys eq (map f (range_with_len (a + 1) n))) (f a ∷ unique_keys eq (map f (range_with_len (a + 1) n))))) (any-alike a (a + 1) n (omega arith) (omega arith))
      ∙ step (list_any (is (g a)) (map g (range_with_len (a + 1) n))) (distinct-alike (a + 1) n (omega arith))
    where
      step : (b : Bool) → distinct_count eq (map f (range_with_len (a + 1) n)) ≡ distinct_count is (map g (range_with_len (a + 1) n)) → length (cond b (unique_keys eq (map f (range_with_len (a + 1) n))) (f a ∷ unique_keys eq (map f (range_with_len (a + 1) n)))) ≡ length (cond b (unique_keys is (map g (range_with_len (a + 1) n))) (g a ∷ unique_keys is (map g (range_with_len (a + 1) n))))
      step true rest = rest
      step false rest = ap suc rest

-- there are as many distinct numbers as distinct prefixes where they are the same for the same prefix
pub distinct_as : (s : Source) (depth : ℕ) (f : ℕ → ℕ) → ((i j : ℕ) → i < many s → j < many s → eqb (f i) (f j) ≡ same_prefix s depth (cell_of s i) (cell_of s j)) → distinct_count eqb (map f (range_with_len 0 (many s))) ≡ prefixes s depth
distinct_as s depth f alike =
    distinct-alike eqb (same_prefix s depth) f (cell_of s) (many s) alike 0 (many s) (omega arith)
    ∙ ap (distinct_count (same_prefix s depth)) (sym cells_are)
  where
    cells_are : positions_of s.image s.template ≡ map (cell_of s) (range_with_len 0 (many s))
    cells_are = fill_by_all (cell_of s) (positions_of s.image s.template) (many s) 0 refl (λ i below. refl)

-- there are as many distinct places as distinct prefixes
pub distinct_places : (s : Source) (depth : ℕ) (places : List ℕ) → length places ≡ many s → AreAlike s depth places → distinct_count eqb places ≡ prefixes s depth
distinct_places s depth places long alike =
    ap (distinct_count eqb) (fill_by_all (λ i. get_or places i 0) places (many s) 0 long (λ i below. refl)) ∙ distinct_as s depth (λ i. get_or places i 0) alike

-- before the first template position all have one place
pub first_alike : (s : Source) (places : List ℕ) (place : ℕ) → ((i : ℕ) → i < many s → get_or places i 0 ≡ place) → AreAlike s 0 places
first_alike s places place all = λ i j i_within j_within. equal (get_or places i 0) (get_or places j 0) (all i i_within ∙ sym (all j j_within))

module _ (s : Source) (is : IsSource s) (depth : ℕ) (places : List ℕ) (short : depth < length s.template) (shown : List ℕ) (are : AreShown s (depth + 1) (positions_of s.image s.template) shown) where
  some_is : (a b : ℕ) → Some a ≡ Some b → a ≡ b
  some_is a b e = cc

  shown_is : (i : ℕ) → i < many s → get_or shown i 0 ≡ table s i depth
  shown_is i within =
      let next : suc depth ≡ depth + 1 = omega arith in
      sym (some_is (table s i depth) (get_or shown i 0) (sym (table_is s is i depth within short) ∙ ap (cat_around s (cell_of s i)) next ∙ are.each i within))

  -- each position shows a category
  pub shown-below : (i : ℕ) → i < many s → get_or shown i 0 < s.cats
  shown-below i within = omega (arith, shown_is i within, table-below s is i depth within short)

  slot_is : (i : ℕ) → i < many s → place_slot places s.cats shown i ≡ get_or places i 0 * s.cats + table s i depth
  slot_is i within = ap (λ x. get_or places i 0 * s.cats + x) (shown_is i within)

  pub have_slots : (classes cats : ℕ) → cats ≡ s.cats → length places ≡ many s → ((i : ℕ) → i < many s → get_or places i 0 < classes) → HaveSlots places cats shown (classes * cats)
  have_slots classes cats cats_are long below i inside =
      let within : i < many s = omega (arith, long) in
      let fits = row-fits (get_or places i 0) classes s.cats (table s i depth) (below i within) (table-below s is i depth within short) in
      omega (arith, slot_is i within, fits, ap (λ n. get_or places i 0 * n) cats_are, ap (λ n. classes * n) cats_are)

  module _ (alike : AreAlike s depth places) where
    pub slots-alike : (i j : ℕ) → i < many s → j < many s → eqb (place_slot places s.cats shown i) (place_slot places s.cats shown j) ≡ same_prefix s (suc depth) (cell_of s i) (cell_of s j)
    slots-alike i j i_within j_within =
        ap (λ x. eqb x (place_slot places s.cats shown j)) (slot_is i i_within) ∙ ap (eqb (get_or places i 0 * s.cats + table s i depth)) (slot_is j j_within)
        ∙ same_slot (get_or places i 0) (get_or places j 0) s.cats (table s i depth) (table s j depth) (table-below s is i depth i_within short) (table-below s is j depth j_within short)
        ∙ ap (λ b. b && (table s i depth == table s j depth)) (alike i j i_within j_within)
        ∙ ap (λ b. same_prefix s depth (cell_of s i) (cell_of s j) && b) (sym cats_same)
      where
        cats_same : same_cat (cat_around s (cell_of s i) (suc depth)) (cat_around s (cell_of s j) (suc depth)) ≡ (table s i depth == table s j depth)
        cats_same = ap (λ v. same_cat v (cat_around s (cell_of s j) (suc depth))) (table_is s is i depth i_within short) ∙ ap (same_cat (Some (table s i depth))) (table_is s is j depth j_within short)

    -- there are as many distinct slots as longer prefixes
    pub distinct_slots : (cats : ℕ) → cats ≡ s.cats → length places ≡ many s → distinct_count eqb (slots_of places cats shown (length places)) ≡ prefixes s (suc depth)
    distinct_slots cats cats_are long =
        ap (λ n. distinct_count eqb (slots_of places n shown (length places))) cats_are ∙ ap (λ n. distinct_count eqb (slots_of places s.cats shown n)) long
        ∙ distinct_as s (suc depth) (place_slot places s.cats shown) slots-alike

    -- places that are the same exactly where slots are, are those of longer prefixes
    pub longer_alike : (cats : ℕ) (after : List ℕ) → cats ≡ s.cats → ((i j : ℕ) → i < many s → j < many s → get_or after i 0 ≡ get_or after j 0 → place_slot places cats shown i ≡ place_slot places cats shown j) → ((i j : ℕ) → i < many s → j < many s → place_slot places cats shown i ≡ place_slot places cats shown j → get_or after i 0 ≡ get_or after j 0) → AreAlike s (depth + 1) after
    longer_alike cats after cats_are apart together i j i_within j_within =
        let more : suc depth ≡ depth + 1 = omega arith in
        tests-agree (get_or after i 0) (get_or after j 0) (place_slot places cats shown i) (place_slot places cats shown j) (apart i j i_within j_within) (together i j i_within j_within)
        ∙ ap (λ n. eqb (place_slot places n shown i) (place_slot places n shown j)) cats_are
        ∙ slots-alike i j i_within j_within ∙ ap (λ d. same_prefix s d (cell_of s i) (cell_of s j)) more

    -- slots themselves are such places
    pub slots_alike : (cats : ℕ) (keys : List ℕ) → cats ≡ s.cats → ((i : ℕ) → i < many s → get_or keys i 0 ≡ place_slot places cats shown i) → AreAlike s (depth + 1) keys
    slots_alike cats keys cats_are slots =
        longer_alike cats keys cats_are
        (λ i j i_within j_within same. sym (slots i i_within) ∙ same ∙ slots j j_within)
        (λ i j i_within j_within same. slots i i_within ∙ same ∙ sym (slots j j_within))
