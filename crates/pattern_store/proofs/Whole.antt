-- What the bits of a rank show is the pattern of its positions.
use Rattle.std.proofs.Common.{◌≡◌, ℕ, zero, suc, ◌+◌, ◌-◌, ◌*◌, ◌/◌, ◌%◌, ◌<◌, ◌≤◌, ◌==◌, Bool, true, false, not, cond, ◌&&◌, nat_lt, List, length, get_or, Some, ap, sym, ◌∙◌, inl, inr, arith}
use Rattle.std.specs.Int.{bit_at}
use Rattle.std.specs.List.{position_or_len, prefix_len, range_with_len}
use Rattle.std.proofs.lemmas.Bool.{and_parts, cases_eq, cases_lt, eqb-true}
use Rattle.std.proofs.lemmas.Bool.Decides.{nat_tests}
use Rattle.std.proofs.lemmas.Nat.Bits.{bit_at-zero}
use Rattle.ti_scan.specs.declared.event.Datum.{Datum}
use Rattle.ti_scan.specs.Event.{Source, IsSource, cat_around}
use Rattle.pattern_blocks.specs.Drawn.{IsAmong, bit_of, word_place}
use Rattle.pattern_blocks.specs.Rows.{BitRows, has}
use Rattle.pattern_store.specs.Building.{IsDrawn}
use Rattle.pattern_store.specs.Levels.{cell_of, many, table}
use Rattle.pattern_store.specs.Prefixes.{same_cat, same_prefix}
use Rattle.pattern_store.specs.Store.{IsWhole, shown_at}
use Rattle.pattern_store.proofs.Source.{table-below, table_is}

equal : (n m : ℕ) → n ≡ m → (n == m) ≡ true
equal n m same = grind (arith, nat_tests)

differ : (n m : ℕ) → (n ≡ m → ⊥) → (n == m) ≡ false
differ n m apart = grind (arith, nat_tests)

-- the first number that is v
first_at : (p : ℕ → Bool) (v a n : ℕ) → ((k : ℕ) → p k ≡ (v == k)) → a ≤ v → v < a + n → position_or_len p (range_with_len a n) + a ≡ v
first_at p v a zero is low high = absurd (omega arith)
first_at p v a (suc n) is low high = elim (cases_eq v a) [
  | inl same ↦
      ap (λ b. cond (not b) (1 + prefix_len (λ x. not (p x)) (range_with_len (a + 1) n)) 0 + a) (is a ∙ equal v a same) ∙ omega arith
  | inr other ↦
      ap (λ b. cond (not b) (1 + prefix_len (λ x. not (p x)) (range_with_len (a + 1) n)) 0 + a) (is a ∙ differ v a other)
      ∙ omega (arith, first_at p v (a + 1) n is (omega arith) (omega arith))
]

module _ (s : Source) (is : IsSource s) where
  -- positions with the same prefix have the same categories
  pub prefix_table : (d i j q : ℕ) → d ≤ length s.template → i < many s → j < many s → q < d → same_prefix s d (cell_of s i) (cell_of s j) ≡ true → table s i q ≡ table s j q
  prefix_table zero i j q within i_within j_within low same = absurd (omega arith)
  prefix_table (suc d) i j q within i_within j_within low same =
      let parts = and_parts (same_prefix s d (cell_of s i) (cell_of s j)) (same_cat (cat_around s (cell_of s i) (suc d)) (cat_around s (cell_of s j) (suc d))) same in
      elim (cases_eq q d) [
        | inl here ↦
            ap (table s i) here
            ∙ eqb-true (table s i d) (table s j d)
            (sym (ap (λ v. same_cat v (cat_around s (cell_of s j) (suc d))) (table_is s is i d i_within (omega arith)) ∙ ap (same_cat (Some (table s i d))) (table_is s is j d j_within (omega arith))) ∙ parts.1)
            ∙ ap (table s j) (sym here)
        | inr other ↦ prefix_table d i j q (omega arith) i_within j_within (omega arith) parts.0
      ]

  module _ (place : ℕ → ℕ) (words : List ℕ) (drawn : IsDrawn s place (length s.template) words) (agree : (i j q : ℕ) → i < many s → j < many s → q < length s.template → place i ≡ place j → table s i q ≡ table s j q) where
    abbrev pub bits : BitRows
    bits = record { reach = length s.template; cats = s.cats; words = words }

    module _ (j b u : ℕ) (within : j < many s) (block : place j / 64 ≡ b) (item : place j % 64 ≡ u) where
      bit_same : (q k : ℕ) → q < length s.template → k < s.cats → (bit_of words (length s.template) s.cats (place j) q k == 1) ≡ (table s j q == k)
      bit_same q k q_small k_small = elim (cases_eq (table s j q) k) [
        | inl same ↦ equal _ 1 (ap (bit_of words (length s.template) s.cats (place j) q) (sym same) ∙ drawn.marked j q within q_small) ∙ sym (equal (table s j q) k same)
        | inr other ↦ differ _ 1 (λ bit. apart (drawn.only (place j) q k q_small k_small bit) other) ∙ sym (differ (table s j q) k other)
      ]
        where
          apart : IsAmong place (λ i. table s i q) (many s) (place j) k → (table s j q ≡ k → ⊥) → ⊥
          apart found other = other (agree j found.0 q within found.1 q_small (sym found.2) ∙ found.3)

      pub has_same : (d : Datum) → d.position - 1 < length s.template → has bits b u d ≡ (table s j (d.position - 1) == d.cat)
      has_same d low = elim (cases_lt d.cat s.cats) [
        | inl small ↦
            ap (λ t. bit_at (cond t (get_or words ((b * length s.template + (d.position - 1)) * s.cats + d.cat) 0) 0) u == 1) (inside d.cat s.cats (d.position - 1) (length s.template) small low)
            ∙ ap (λ x. bit_at (get_or words ((x * length s.template + (d.position - 1)) * s.cats + d.cat) 0) u == 1) (sym block)
            ∙ ap (λ x. bit_at (get_or words (word_place (length s.template) s.cats (place j) (d.position - 1) d.cat) 0) x == 1) (sym item)
            ∙ bit_same (d.position - 1) d.cat low small
        | inr large ↦
            ap (λ t. bit_at (cond t (get_or words ((b * length s.template + (d.position - 1)) * s.cats + d.cat) 0) 0) u == 1) (outside d.cat s.cats (nat_lt (d.position - 1) (length s.template)) large)
            ∙ no_bit u ∙ sym (differ (table s j (d.position - 1)) d.cat (λ e. omega (arith, large, table-below s is j (d.position - 1) within low)))
      ]
        where
          inside : (k c q r : ℕ) → k < c → q < r → (nat_lt k c && nat_lt q r) ≡ true
          inside k c q r small low = grind (arith, nat_tests)

          outside : (k c : ℕ) (t : Bool) → c ≤ k → (nat_lt k c && t) ≡ false
          outside k c t large =
              let no : nat_lt k c ≡ false = grind (arith, nat_tests) in
              ap (λ x. x && t) no

          no_bit : (u : ℕ) → (bit_at 0 u == 1) ≡ false
          no_bit u = ap (λ x. x == 1) (bit_at-zero u)

      shown_same : (q : ℕ) → q < length s.template → shown_at bits b u q ≡ table s j q
      shown_same q low =
          let first = first_at (λ k. has bits b u (record { position = q + 1; cat = k })) (table s j q) 0 s.cats (λ k. each k) (omega arith) (omega (arith, table-below s is j q within low)) in
          omega (arith, first)
        where
          each : (k : ℕ) → has bits b u (record { position = q + 1; cat = k }) ≡ (table s j q == k)
          each k =
              let back : q + 1 - 1 ≡ q = omega arith in
              has_same (record { position = q + 1; cat = k }) (omega arith) ∙ ap (λ x. table s j x == k) back

      -- the item of a position has one category at each template position
      pub position_whole : IsWhole bits b u
      position_whole d from to = has_same d (omega arith) ∙ ap (λ x. x == d.cat) (sym (shown_same (d.position - 1) (omega arith)))
