-- What is kept of groups is true of their blocks.
use Rattle.std.proofs.Common.{◌≡◌, ℕ, ◌+◌, ◌-◌, ◌*◌, ◌^◌, ◌<◌, ◌≤◌, ◌==◌, Bool, true, false, not, cond, ◌&&◌, nat_lt, List, get_or, max, refl, ap, sym, ◌∙◌, subst, arith}
use Rattle.std.specs.Int.{bit_at}
use Rattle.std.proofs.lemmas.Bool.{and_parts, eqb-true}
use Rattle.std.proofs.lemmas.Bool.Decides.{nat_tests}
use Rattle.std.proofs.lemmas.Nat.Bits.{bit_at-zero, bit_at_ones}
use Rattle.ti_scan.specs.declared.event.Datum.{Datum}
use Rattle.pattern_blocks.specs.Making.{AreRows, AreWords, row_number}
use Rattle.pattern_blocks.specs.Planes.{PlaneRows, marked_sum, planes_of}
use Rattle.pattern_blocks.specs.Rows.{BitRows, has, word_at}
use Rattle.pattern_blocks.specs.Tally.{number_of}
use Rattle.pattern_blocks.proofs.Bits.{marks_all}
use Rattle.pattern_blocks.proofs.MarkedSums.{marked_is}
use Rattle.search_tree.specs.Groups.{SumsUp, block_total}
use Rattle.pattern_blocks.proofs.Pairs.{row-fits}
use Rattle.pattern_store.proofs.Numbers.{row_place}

not-zero : (x : ℕ) → ◌≡◌ {A = ℕ} (cond (not (x == 0)) 1 0) 0 → x ≡ 0
not-zero x e = go (x == 0) refl e
  where
    go : (b : Bool) → (x == 0) ≡ b → ◌≡◌ {A = ℕ} (cond (not b) 1 0) 0 → x ≡ 0
    go true test e = eqb-true x 0 test
    go false test e = absurd (omega arith)

is-one : (b : Bool) → ◌≡◌ {A = ℕ} (cond b 1 0) 1 → b ≡ true
is-one true e = refl
is-one false e = absurd (omega arith)

module _ (shown : BitRows) (counts totals : PlaneRows) (some every sums : List ℕ) (count step : ℕ) (cats_some : 1 ≤ shown.cats) (step_is : 1 ≤ shown.reach * shown.cats → step ≡ shown.reach * shown.cats) (somes : AreWords (λ word. not (word == 0)) shown.words step (count * (shown.reach * shown.cats)) some) (everys : AreWords (λ word. word == 2 ^ 64 - 1) shown.words step (count * (shown.reach * shown.cats)) every) (total_rows : AreRows totals.ends totals.words (count * shown.cats) (row_number sums shown.cats)) (sums_are : (r : ℕ) → r < count * 64 * shown.cats → get_or sums r 0 ≡ marked_sum (planes_of counts r) (2 ^ 64 - 1)) where
  abbrev any : BitRows
  any = record { reach = shown.reach; cats = shown.cats; words = some }

  abbrev all : BitRows
  all = record { reach = shown.reach; cats = shown.cats; words = every }

  module _ (g : ℕ) (below : g < count) where
    module _ (s u q k : ℕ) (s_below : s < 64) (u_below : u < 64) (q_small : q < shown.reach) (k_small : k < shown.cats) where
      inside : q * shown.cats + k < shown.reach * shown.cats
      inside = row-fits q shown.reach shown.cats k q_small k_small

      wide : step ≡ shown.reach * shown.cats
      wide = step_is (omega (arith, inside))

      place : ℕ
      place = (g * shown.reach + q) * shown.cats + k

      place_is : (g * shown.reach + q) * shown.cats + k ≡ g * (shown.reach * shown.cats) + (q * shown.cats + k)
      place_is = omega arith

      place_fits : (g * shown.reach + q) * shown.cats + k < count * (shown.reach * shown.cats)
      place_fits = omega (arith, place_is, row-fits g count (shown.reach * shown.cats) (q * shown.cats + k) below inside)

      word_is : row_number shown.words step ((g * shown.reach + q) * shown.cats + k) s ≡ get_or shown.words (((g * 64 + s) * shown.reach + q) * shown.cats + k) 0
      word_is =
          ap (λ w. row_number shown.words w ((g * shown.reach + q) * shown.cats + k) s) wide
          ∙ ap (λ x. row_number shown.words (shown.reach * shown.cats) x s) place_is
          ∙ row_place shown.words g s (shown.reach * shown.cats) (q * shown.cats + k) inside
          ∙ ap (λ i. get_or shown.words i 0) (omega arith)

      none_has : bit_at (get_or some ((g * shown.reach + q) * shown.cats + k) 0) s ≡ 0 → (bit_at (get_or shown.words (((g * 64 + s) * shown.reach + q) * shown.cats + k) 0) u == 1) ≡ false
      none_has none =
          let marks = somes.each ((g * shown.reach + q) * shown.cats + k) place_fits in
          let word : row_number shown.words step ((g * shown.reach + q) * shown.cats + k) s ≡ 0 = not-zero _ (sym (marks.each s s_below) ∙ none) in
          ap (λ w. bit_at w u == 1) (sym word_is ∙ word) ∙ ap (λ x. x == 1) (bit_at-zero u)

      all_have : bit_at (get_or every ((g * shown.reach + q) * shown.cats + k) 0) s ≡ 1 → (bit_at (get_or shown.words (((g * 64 + s) * shown.reach + q) * shown.cats + k) 0) u == 1) ≡ true
      all_have one =
          let marks = everys.each ((g * shown.reach + q) * shown.cats + k) place_fits in
          let word : row_number shown.words step ((g * shown.reach + q) * shown.cats + k) s ≡ 2 ^ 64 - 1 = eqb-true _ _ (is-one _ (sym (marks.each s s_below) ∙ one)) in
          ap (λ w. bit_at w u == 1) (sym word_is ∙ word) ∙ ap (λ x. x == 1) (bit_at_ones 64 u u_below)

    below_of : (x y : ℕ) → nat_lt x y ≡ true → x < y
    below_of x y e = grind (arith, nat_tests)

    absent : (s u : ℕ) (d : Datum) (b : Bool) → s < 64 → u < 64 → (nat_lt d.cat shown.cats && nat_lt (d.position - 1) shown.reach) ≡ b → bit_at (word_at any g d) s ≡ 0 → has shown (g * 64 + s) u d ≡ false
    absent s u d false s_below u_below test none = ap (λ b. bit_at (cond b (get_or shown.words (((g * 64 + s) * shown.reach + (d.position - 1)) * shown.cats + d.cat) 0) 0) u == 1) test ∙ ap (λ x. x == 1) (bit_at-zero u)
    absent s u d true s_below u_below test none =
        let parts = and_parts (nat_lt d.cat shown.cats) (nat_lt (d.position - 1) shown.reach) test in
        ap (λ b. bit_at (cond b (get_or shown.words (((g * 64 + s) * shown.reach + (d.position - 1)) * shown.cats + d.cat) 0) 0) u == 1) test
        ∙ none_has s u (d.position - 1) d.cat s_below u_below (below_of (d.position - 1) shown.reach parts.1) (below_of d.cat shown.cats parts.0)
        (ap (λ b. bit_at (cond b (get_or some ((g * shown.reach + (d.position - 1)) * shown.cats + d.cat) 0) 0) s) (sym test) ∙ none)

    whole : (s u : ℕ) (d : Datum) (b : Bool) → s < 64 → u < 64 → (nat_lt d.cat shown.cats && nat_lt (d.position - 1) shown.reach) ≡ b → bit_at (word_at all g d) s ≡ 1 → has shown (g * 64 + s) u d ≡ true
    whole s u d false s_below u_below test one =
        absurd (zero-one (sym (bit_at-zero s) ∙ ap (λ b. bit_at (cond b (get_or every ((g * shown.reach + (d.position - 1)) * shown.cats + d.cat) 0) 0) s) (sym test) ∙ one))
      where
        zero-one : ◌≡◌ {A = ℕ} 0 1 → ⊥
        zero-one e = omega arith
    whole s u d true s_below u_below test one =
        let parts = and_parts (nat_lt d.cat shown.cats) (nat_lt (d.position - 1) shown.reach) test in
        ap (λ b. bit_at (cond b (get_or shown.words (((g * 64 + s) * shown.reach + (d.position - 1)) * shown.cats + d.cat) 0) 0) u == 1) test
        ∙ all_have s u (d.position - 1) d.cat s_below u_below (below_of (d.position - 1) shown.reach parts.1) (below_of d.cat shown.cats parts.0)
        (ap (λ b. bit_at (cond b (get_or every ((g * shown.reach + (d.position - 1)) * shown.cats + d.cat) 0) 0) s) (sym test) ∙ one)

    total : (s k : ℕ) → s < 64 → k < shown.cats → number_of totals shown.cats g k s ≡ block_total counts shown.cats (g * 64 + s) k
    unfolding block_total
    total s k s_below k_small =
        total_rows.numbers (g * shown.cats + k) s (row-fits g count shown.cats k below k_small) s_below
        ∙ row_place sums g s shown.cats k k_small
        ∙ sums_are ((g * 64 + s) * shown.cats + k) (row-fits (g * 64 + s) (count * 64) shown.cats k (omega arith) k_small)
        ∙ marked_is (λ (x : ℕ). true) (2 ^ 64 - 1) marks_all (omega arith) (planes_of counts ((g * 64 + s) * shown.cats + k))

    pub sums_up : SumsUp shown counts any all totals g
    sums_up = record {
      absent = λ s u d s_below u_below none. absent s u d _ s_below u_below refl none;
      whole = λ s u d s_below u_below one. whole s u d _ s_below u_below refl one;
      total = total;
    }

-- the same where the parts have names of their own
pub groups_sum : (shown : BitRows) (counts totals : PlaneRows) (words others some every sums listed : List ℕ) (count reach cats step : ℕ) (any all : BitRows) → 1 ≤ shown.cats → reach ≡ shown.reach → cats ≡ shown.cats → step ≡ max (reach * cats) 1 → words ≡ shown.words → others ≡ shown.words → AreWords (λ word. not (word == 0)) words step (count * (reach * cats)) some → AreWords (λ word. word == 2 ^ 64 - 1) others step (count * (reach * cats)) every → AreRows totals.ends totals.words (count * cats) (row_number listed cats) → listed ≡ sums → ((r : ℕ) → r < count * 64 * cats → get_or sums r 0 ≡ marked_sum (planes_of counts r) (2 ^ 64 - 1)) → any ≡ record { reach = reach; cats = cats; words = some } → all ≡ record { reach = reach; cats = cats; words = every } → (g : ℕ) → g < count → SumsUp shown counts any all totals g
groups_sum shown counts totals words others some every sums listed count reach cats step any all cats_some reach_are cats_are step_is words_are others_are somes everys rows listed_are sums_are any_is all_is g below =
    let somes1 = subst (λ (w : List ℕ). AreWords (λ word. not (word == 0)) w step (count * (reach * cats)) some) words_are somes in
    let somes2 = subst (λ (r : ℕ). AreWords (λ word. not (word == 0)) shown.words step (count * (r * cats)) some) reach_are somes1 in
    let somes3 = subst (λ (k : ℕ). AreWords (λ word. not (word == 0)) shown.words step (count * (shown.reach * k)) some) cats_are somes2 in
    let everys1 = subst (λ (w : List ℕ). AreWords (λ word. word == 2 ^ 64 - 1) w step (count * (reach * cats)) every) others_are everys in
    let everys2 = subst (λ (r : ℕ). AreWords (λ word. word == 2 ^ 64 - 1) shown.words step (count * (r * cats)) every) reach_are everys1 in
    let everys3 = subst (λ (k : ℕ). AreWords (λ word. word == 2 ^ 64 - 1) shown.words step (count * (shown.reach * k)) every) cats_are everys2 in
    let rows1 = subst (λ (l : List ℕ). AreRows totals.ends totals.words (count * cats) (row_number l cats)) listed_are rows in
    let rows2 = subst (λ (k : ℕ). AreRows totals.ends totals.words (count * k) (row_number sums k)) cats_are rows1 in
    let width : reach * cats ≡ shown.reach * shown.cats = ap (λ r. r * cats) reach_are ∙ ap (λ k. shown.reach * k) cats_are in
    let up =
    sums_up shown counts totals some every sums count step cats_some (λ wide. omega (arith, step_is, width)) somes3 everys3 rows2
    (λ r fits. sums_are r (omega (arith, ap (λ k. count * 64 * k) cats_are))) g below in
    let any_same : record { reach = shown.reach; cats = shown.cats; words = some } ≡ any = ap (λ r. record { reach = r; cats = shown.cats; words = some }) (sym reach_are) ∙ ap (λ k. record { reach = reach; cats = k; words = some }) (sym cats_are) ∙ sym any_is in
    let all_same : record { reach = shown.reach; cats = shown.cats; words = every } ≡ all = ap (λ r. record { reach = r; cats = shown.cats; words = every }) (sym reach_are) ∙ ap (λ k. record { reach = reach; cats = k; words = every }) (sym cats_are) ∙ sym all_is in
    subst (λ (a : BitRows). SumsUp shown counts any a totals g) all_same
    (subst (λ (a : BitRows). SumsUp shown counts a (record { reach = shown.reach; cats = shown.cats; words = every }) totals g) any_same up)
