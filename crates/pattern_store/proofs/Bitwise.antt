-- Marks of what positions show at one template position after another.
use Rattle.std.proofs.Common.{◌≡◌, ◌⊎◌, ℕ, suc, ◌+◌, ◌*◌, ◌/◌, ◌%◌, ◌<◌, ◌≤◌, List, length, get_or, unwrap_or, ap, sym, ◌∙◌, subst, inl, inr, arith}
use Rattle.std.specs.Int.{bit_at}
use Rattle.std.proofs.Math.Nat.{mul-le-mul_right}
use Rattle.std.proofs.lemmas.Bool.{cases_eq}
use Rattle.std.proofs.lemmas.Nat.Bits.{bit_at-zero}
use Rattle.ti_scan.specs.Event.{Source, cat_around}
use Rattle.pattern_blocks.specs.Drawn.{AddsShown, IsAmong, bit_of, word_place}
use Rattle.pattern_store.specs.Building.{AreDrawn, HasBlock}
use Rattle.pattern_store.specs.Levels.{AreShown, Table, around}
use Rattle.pattern_blocks.proofs.Pairs.{row-fits}

-- what was read around cells
pub shown_around : (s : Source) (depth : ℕ) (cells shown : List ℕ) → AreShown s (depth + 1) cells shown → (i : ℕ) → i < length cells → get_or shown i 0 ≡ around s cells i depth
shown_around s depth cells shown are i within =
    let next : suc depth ≡ depth + 1 = omega arith in
    sym (ap (λ v. unwrap_or v 0) (ap (cat_around s (get_or cells i 0)) next ∙ are.each i within))

-- a place in a block for which there are words
word_fits : (place q k reach cats len : ℕ) → (place / 64 + 1) * (reach * cats) ≤ len → q < reach → k < cats → word_place reach cats place q k < len
word_fits place q k reach cats len fits q_small k_small =
    let first = row-fits (place / 64) (place / 64 + 1) reach q (omega arith) q_small in
    let second = row-fits (place / 64 * reach + q) ((place / 64 + 1) * reach) cats k first k_small in
    omega (arith, second, fits)

-- the same under equal names
pub word_fits_as : (place q k reach reach1 cats cats1 len : ℕ) (words : List ℕ) → reach ≡ reach1 → cats ≡ cats1 → length words ≡ len → (place / 64 + 1) * (reach1 * cats1) ≤ len → q < reach → k < cats → word_place reach cats place q k < length words
word_fits_as place q k reach reach1 cats cats1 len words reach_is cats_is long fits q_small k_small =
    omega (arith, long, word_fits place q k reach cats len (omega (arith, fits, ap (λ r. (place / 64 + 1) * (r * cats1)) reach_is, ap (λ c. (place / 64 + 1) * (reach * c)) cats_is)) q_small k_small)

-- places below a number of groups have a block each
pub has_block : (place groups width : ℕ) (words : List ℕ) → place < groups * 4096 → length words ≡ groups * 64 * width → HasBlock width place words
has_block place groups width words below long =
    let block : place / 64 + 1 ≤ groups * 64 = omega arith in
    omega (arith, long, mul-le-mul_right width block)

module _ (place shown : ℕ → ℕ) (depth : ℕ) (before after : List ℕ) where
  -- marks are the same under equal names
  pub adds_as : (reach reach1 cats cats1 n : ℕ) → reach ≡ reach1 → cats ≡ cats1 → AddsShown place shown reach cats depth n before after → AddsShown place shown reach1 cats1 depth n before after
  adds_as reach reach1 cats cats1 n reach_is cats_is adds =
      subst (λ (c : ℕ). AddsShown place shown reach1 c depth n before after) cats_is
      (subst (λ (r : ℕ). AddsShown place shown r cats depth n before after) reach_is adds)

module _ (pattern : Table) (place : ℕ → ℕ) (n reach cats : ℕ) where
  pub nothing_drawn : (words : List ℕ) → ((j : ℕ) → get_or words j 0 ≡ 0) → AreDrawn pattern place n reach cats 0 words
  nothing_drawn words clear = record {
    marked = λ i q within low. absurd (omega arith);
    only = λ r q k q_small k_small bit. absurd (zero-one (sym (ap (λ w. bit_at w (r % 64)) (clear (word_place reach cats r q k)) ∙ bit_at-zero (r % 64)) ∙ bit));
  }
    where
      zero-one : ◌≡◌ {A = ℕ} 0 1 → ⊥
      zero-one e = omega arith

  module _ (depth : ℕ) (before after shown : List ℕ) (short : depth < reach) (small : (i q : ℕ) → i < n → q < depth → pattern i q < cats) (shown_is : (i : ℕ) → i < n → get_or shown i 0 ≡ pattern i depth) (drawn : AreDrawn pattern place n reach cats depth before) (adds : AddsShown place (λ i. get_or shown i 0) reach cats depth n before after) where
    pub drawn_more : AreDrawn pattern place n reach cats (depth + 1) after
    drawn_more = record {
      marked = λ i q within low. marked i q within low (cases_eq q depth);
      only = λ r q k q_small k_small bit. only r q k q_small k_small (adds.only r q k q_small k_small bit);
    }
      where
        marked : (i q : ℕ) → i < n → q < depth + 1 → (q ≡ depth) ⊎ (q ≡ depth → ⊥) → bit_of after reach cats (place i) q (pattern i q) ≡ 1
        marked i q within low (inl same) =
            ap (λ x. bit_of after reach cats (place i) x (pattern i x)) same
            ∙ ap (bit_of after reach cats (place i) depth) (sym (shown_is i within)) ∙ adds.marked i within
        marked i q within low (inr other) = adds.keeps (place i) q (pattern i q) (omega arith) (small i q within (omega arith)) (drawn.marked i q within (omega arith))

        only : (r q k : ℕ) → q < reach → k < cats → (bit_of before reach cats r q k ≡ 1) ⊎ ((q ≡ depth) × IsAmong place (λ i. get_or shown i 0) n r k) → IsAmong place (λ i. pattern i q) n r k
        only r q k q_small k_small (inl old) = drawn.only r q k q_small k_small old
        only r q k q_small k_small (inr new) =
            let found = new.1 in
            (found.0, found.1, found.2, ap (pattern found.0) new.0 ∙ sym (shown_is found.0 found.1) ∙ found.3)
