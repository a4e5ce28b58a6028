-- The numbers of blocks, from a table of the ranks.
use Rattle.std.proofs.Common.{◌≡◌, ℕ, zero, suc, ◌+◌, ◌-◌, ◌*◌, ◌/◌, ◌%◌, ◌<◌, ◌≤◌, ◌==◌, Bool, false, ◌&&◌, List, [], ◌∷◌, length, get_or, refl, ap, sym, ◌∙◌, subst, inl, inr, arith}
use Rattle.std.specs.List.{count_by, range_with_len}
use Rattle.std.proofs.Math.Nat.{mod-eq_of_lt, mul-add-mod_self_right}
use Rattle.std.proofs.lemmas.Bool.{cases_lt}
use Rattle.std.proofs.lemmas.Bool.Decides.{nat_tests}
use Rattle.std.proofs.lemmas.Nat.{div-mul-add}
use Rattle.ti_scan.specs.Eroded.{positions_of}
use Rattle.ti_scan.specs.Event.{Source, IsSource}
use Rattle.pattern_blocks.specs.Making.{AreRows, row_number}
use Rattle.pattern_blocks.specs.Planes.{PlaneRows}
use Rattle.pattern_blocks.specs.Rows.{BitRows}
use Rattle.pattern_blocks.specs.Tally.{number_of}
use Rattle.pattern_store.specs.Building.{IsBuilt, IsDrawn, in_slot}
use Rattle.pattern_store.specs.Levels.{AreCentres, centre, many}
use Rattle.pattern_store.specs.Slots.{HaveSlots, place_slot}
use Rattle.pattern_blocks.proofs.Pairs.{row-fits, same_slot}
use Rattle.pattern_store.proofs.Source.{centre-below, centre_shown}
use Rattle.pattern_store.proofs.Sums.{count-none, count-pointwise}

small-mod : (n w : ℕ) → n < w → n % w ≡ n
small-mod n w less = mod-eq_of_lt less

pub place_div : (g w y : ℕ) → y < w → (g * w + y) / w ≡ g
place_div g w y small = div-mul-add g w y small

pub place_mod : (g w y : ℕ) → y < w → (g * w + y) % w ≡ y
place_mod g w y small = mul-add-mod_self_right g w y ∙ small-mod y w small

-- the numbers of a row stand one below the other
pub row_place : (table : List ℕ) (g s w y : ℕ) → y < w → row_number table w (g * w + y) s ≡ get_or table ((g * 64 + s) * w + y) 0
row_place table g s w y small =
    ap (λ b. get_or table (b * 64 * w + (g * w + y) % w + s * w) 0) (place_div g w y small)
    ∙ ap (λ m. get_or table (g * 64 * w + m + s * w) 0) (place_mod g w y small)
    ∙ ap (λ i. get_or table i 0) (omega arith)

past : (xs : List ℕ) (i : ℕ) → length xs ≤ i → get_or xs i 0 ≡ 0
past [] i beyond = refl
past (x ∷ xs) zero beyond = absurd (omega arith)
past (x ∷ xs) (suc i) beyond = past xs i (omega arith)

not-both : (x y : Bool) → x ≡ false → (x && y) ≡ false
not-both x y fails = ap (λ t. t && y) fails

differ : (n m : ℕ) → (n ≡ m → ⊥) → (n == m) ≡ false
differ n m apart = grind (arith, nat_tests)

module _ (s : Source) (is : IsSource s) (places centres : List ℕ) (classes : ℕ) (long : length places ≡ many s) (below : (i : ℕ) → i < length places → get_or places i 0 < classes) (are : AreCentres s (positions_of s.image s.template) centres) where
  centre_is : (i : ℕ) → i < many s → get_or centres i 0 ≡ centre s i
  centre_is i within = sym (centre_shown s is i (get_or centres i 0) within (are.each i within))

  slot_is : (i : ℕ) → i < many s → place_slot places s.cats centres i ≡ get_or places i 0 * s.cats + centre s i
  slot_is i within = ap (λ x. get_or places i 0 * s.cats + x) (centre_is i within)

  pub have_centres : (cats : ℕ) → cats ≡ s.cats → HaveSlots places cats centres (classes * cats)
  have_centres cats cats_are i inside =
      let within : i < many s = omega (arith, long) in
      let fits = row-fits (get_or places i 0) classes s.cats (centre s i) (below i inside) (centre-below s is i within) in
      omega (arith, slot_is i within, fits, ap (λ n. get_or places i 0 * n) cats_are, ap (λ n. classes * n) cats_are)

  slots_are : (r k : ℕ) → k < s.cats → in_slot places s.cats centres (many s) (r * s.cats + k) ≡ count_by (λ i. get_or places i 0 == r && centre s i == k) (range_with_len 0 (many s))
  unfolding in_slot
  slots_are r k small =
      count-pointwise (λ i. place_slot places s.cats centres i == r * s.cats + k) (λ i. get_or places i 0 == r && centre s i == k) (many s)
      (λ i within. ap (λ x. x == r * s.cats + k) (slot_is i within) ∙ same_slot (get_or places i 0) r s.cats (centre s i) k (centre-below s is i within) small)

  module _ (table : List ℕ) (count : length table ≡ classes * s.cats) (each : (j : ℕ) → j < classes * s.cats → get_or table j 0 ≡ in_slot places s.cats centres (length places) j) where
    numbers_at : (r k : ℕ) → k < s.cats → get_or table (r * s.cats + k) 0 ≡ count_by (λ i. get_or places i 0 == r && centre s i == k) (range_with_len 0 (many s))
    numbers_at r k small = elim (cases_lt r classes) [
      | inl less ↦ each (r * s.cats + k) (row-fits r classes s.cats k less small) ∙ ap (λ n. in_slot places s.cats centres n (r * s.cats + k)) long ∙ slots_are r k small
      | inr more ↦
          past table (r * s.cats + k) (omega (arith, count, beyond more))
          ∙ sym (count-none (λ i. get_or places i 0 == r && centre s i == k) (many s) (λ i within. not-both (get_or places i 0 == r) (centre s i == k) (differ (get_or places i 0) r (λ e. omega (arith, below i (omega (arith, long)))))))
    ]
      where
        beyond : classes ≤ r → classes * s.cats ≤ r * s.cats
        beyond le =
            let rest : classes + (r - classes) ≡ r = omega arith in
            omega (arith, ap (λ n. n * s.cats) rest)

    pub numbers_are : (counts : PlaneRows) (groups : ℕ) → AreRows counts.ends counts.words (groups * 64 * s.cats) (row_number table s.cats) → (b u k : ℕ) → b < groups * 64 → u < 64 → k < s.cats → number_of counts s.cats b k u ≡ count_by (λ i. get_or places i 0 == b * 64 + u && centre s i == k) (range_with_len 0 (many s))
    numbers_are counts groups rows b u k b_below u_below small =
        rows.numbers (b * s.cats + k) u (row-fits b (groups * 64) s.cats k b_below small) u_below
        ∙ row_place table b u s.cats k small ∙ numbers_at (b * 64 + u) k small

pub built : (s : Source) (is : IsSource s) (places centres table listed words : List ℕ) (classes groups reach cats : ℕ) (shown : BitRows) (counts : PlaneRows) → length places ≡ many s → ((i : ℕ) → i < length places → get_or places i 0 < classes) → AreCentres s (positions_of s.image s.template) centres → cats ≡ s.cats → reach ≡ length s.template → length table ≡ classes * cats → ((j : ℕ) → j < classes * cats → get_or table j 0 ≡ in_slot places cats centres (length places) j) → listed ≡ table → AreRows counts.ends counts.words (groups * 64 * cats) (row_number listed cats) → IsDrawn s (λ i. get_or places i 0) (length s.template) words → shown ≡ record { reach = reach; cats = cats; words = words } → IsBuilt s places groups shown counts
built s is places centres table listed words classes groups reach cats shown counts long below are cats_are reach_are count each listed_are rows drawn shown_is =
    let count1 : length table ≡ classes * s.cats = count ∙ ap (λ n. classes * n) cats_are in
    let each1 : (j : ℕ) → j < classes * s.cats → get_or table j 0 ≡ in_slot places s.cats centres (length places) j =
    λ j low. each j (omega (arith, ap (λ n. classes * n) cats_are)) ∙ ap (λ n. in_slot places n centres (length places) j) cats_are in
    let rows1 = subst (λ (l : List ℕ). AreRows counts.ends counts.words (groups * 64 * cats) (row_number l cats)) listed_are rows in
    let rows2 = subst (λ (n : ℕ). AreRows counts.ends counts.words (groups * 64 * n) (row_number table n)) cats_are rows1 in
    record {
      reach = ap (λ (b : BitRows). b.reach) shown_is ∙ reach_are;
      cats = ap (λ (b : BitRows). b.cats) shown_is ∙ cats_are;
      drawn = subst (λ (w : List ℕ). IsDrawn s (λ i. get_or places i 0) (length s.template) w) (sym (ap (λ (b : BitRows). b.words) shown_is)) drawn;
      numbers = numbers_are s is places centres classes long below are table count1 each1 counts groups rows2;
    }
