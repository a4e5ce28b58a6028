-- Marking what positions show, one after another.
use Rattle.std.proofs.Common.{◌≡◌, ◌⊎◌, ℕ, ◌+◌, ◌*◌, ◌/◌, ◌%◌, ◌<◌, ◌≤◌, List, get_or, refl, ap, sym, ◌∙◌, inl, inr, arith}
use Rattle.std.specs.Int.{bit_at}
use Rattle.std.proofs.lemmas.Bool.{cases_eq}
use Rattle.pattern_blocks.specs.Rows.{MarksItem}
use Rattle.pattern_blocks.specs.Drawn.{AddsShown, IsAmong, bit_of, word_place}
use Rattle.pattern_blocks.proofs.Pairs.{same_place, same_row}

same_rank : (r t : ℕ) → r / 64 ≡ t / 64 → r % 64 ≡ t % 64 → r ≡ t
same_rank r t whole rest = omega arith

module _ (reach cats : ℕ) (r q k t p j : ℕ) (q_small : q < reach) (p_small : p < reach) (k_small : k < cats) (j_small : j < cats) (same : word_place reach cats r q k ≡ word_place reach cats t p j) where
  places : r / 64 * reach + q ≡ t / 64 * reach + p
  places = same_row (r / 64 * reach + q) (t / 64 * reach + p) cats k j k_small j_small same

  one_cat : k ≡ j
  one_cat = same_place (r / 64 * reach + q) (t / 64 * reach + p) cats k j k_small j_small same

  one_position : q ≡ p
  one_position = same_place (r / 64) (t / 64) reach q p q_small p_small places

  one_block : r / 64 ≡ t / 64
  one_block = same_row (r / 64) (t / 64) reach q p q_small p_small places

module _ (place shown : ℕ → ℕ) (reach cats position : ℕ) where
  pub none_shown : (words : List ℕ) → AddsShown place shown reach cats position 0 words words
  none_shown words = record {
    count = refl;
    marked = λ i below. absurd (omega arith);
    keeps = λ r q k q_small k_small bit. bit;
    only = λ r q k q_small k_small bit. inl bit;
  }

  module _ (i at item : ℕ) (before now after : List ℕ) (low : position < reach) (small : shown i < cats) (at_is : at ≡ word_place reach cats (place i) position (shown i)) (item_is : item ≡ place i % 64) (adds : AddsShown place shown reach cats position i before now) (marks : MarksItem now at item after) where
    -- a bit of the words after is that which was marked, or one of before
    bit_now : (r q k : ℕ) → q < reach → k < cats → ((place i ≡ r) × (q ≡ position) × (shown i ≡ k) × (bit_of after reach cats r q k ≡ 1)) ⊎ (bit_of after reach cats r q k ≡ bit_of now reach cats r q k)
    bit_now r q k q_small k_small = elim (cases_eq (word_place reach cats r q k) at) [
      | inr other ↦ inr (ap (λ w. bit_at w (r % 64)) (marks.others (word_place reach cats r q k) other))
      | inl word ↦ elim (cases_eq (r % 64) item) [
        | inr other ↦
            inr (ap (λ x. bit_at (get_or after x 0) (r % 64)) word ∙ marks.rest (r % 64) (omega arith) other ∙ ap (λ x. bit_at (get_or now x 0) (r % 64)) (sym word))
        | inl bit ↦
            let same : word_place reach cats r q k ≡ word_place reach cats (place i) position (shown i) = word ∙ at_is in
            inl (
              sym (same_rank r (place i) (one_block reach cats r q k (place i) position (shown i) q_small low k_small small same) (bit ∙ item_is)),
              one_position reach cats r q k (place i) position (shown i) q_small low k_small small same,
              sym (one_cat reach cats r q k (place i) position (shown i) q_small low k_small small same),
              ap (λ x. bit_at (get_or after x 0) (r % 64)) word ∙ ap (bit_at (get_or after at 0)) bit ∙ marks.marked,
            )
      ]
    ]

    later : (r k n m : ℕ) → n ≤ m → IsAmong place shown n r k → IsAmong place shown m r k
    later r k n m le found = (found.0, omega (arith, found.1), found.2, found.3)

    pub one_more_shown : AddsShown place shown reach cats position (i + 1) before after
    one_more_shown = record {
      count = marks.count ∙ adds.count;
      marked = λ j below. marked j below (cases_eq j i);
      keeps = λ r q k q_small k_small bit. keep r q k q_small k_small (adds.keeps r q k q_small k_small bit);
      only = λ r q k q_small k_small bit. only r q k q_small k_small bit (bit_now r q k q_small k_small);
    }
      where
        keep : (r q k : ℕ) → q < reach → k < cats → bit_of now reach cats r q k ≡ 1 → bit_of after reach cats r q k ≡ 1
        keep r q k q_small k_small bit = elim (bit_now r q k q_small k_small) [
          | inl new ↦ new.3
          | inr old ↦ old ∙ bit
        ]

        here : bit_of after reach cats (place i) position (shown i) ≡ 1
        here = ap (λ x. bit_at (get_or after x 0) (place i % 64)) (sym at_is) ∙ ap (bit_at (get_or after at 0)) (sym item_is) ∙ marks.marked

        marked : (j : ℕ) → j < i + 1 → (j ≡ i) ⊎ (j ≡ i → ⊥) → bit_of after reach cats (place j) position (shown j) ≡ 1
        marked j below (inl same) = ap (λ x. bit_of after reach cats (place x) position (shown x)) same ∙ here
        marked j below (inr other) = old j (omega arith) (adds.marked j (omega arith))
          where
            old : (j : ℕ) → j < i → bit_of now reach cats (place j) position (shown j) ≡ 1 → bit_of after reach cats (place j) position (shown j) ≡ 1
            old j less bit = keep_any (place j) (shown j) bit
              where
                keep_any : (r k : ℕ) → bit_of now reach cats r position k ≡ 1 → bit_of after reach cats r position k ≡ 1
                keep_any r k bit = elim (cases_eq (word_place reach cats r position k) at) [
                  | inr other ↦ ap (λ w. bit_at w (r % 64)) (marks.others (word_place reach cats r position k) other) ∙ bit
                  | inl word ↦ elim (cases_eq (r % 64) item) [
                    | inr other ↦ ap (λ x. bit_at (get_or after x 0) (r % 64)) word ∙ marks.rest (r % 64) (omega arith) other ∙ ap (λ x. bit_at (get_or now x 0) (r % 64)) (sym word) ∙ bit
                    | inl same ↦ ap (λ x. bit_at (get_or after x 0) (r % 64)) word ∙ ap (bit_at (get_or after at 0)) same ∙ marks.marked
                  ]
                ]

        only : (r q k : ℕ) → q < reach → k < cats → bit_of after reach cats r q k ≡ 1 → ((place i ≡ r) × (q ≡ position) × (shown i ≡ k) × (bit_of after reach cats r q k ≡ 1)) ⊎ (bit_of after reach cats r q k ≡ bit_of now reach cats r q k) → (bit_of before reach cats r q k ≡ 1) ⊎ ((q ≡ position) × IsAmong place shown (i + 1) r k)
        only r q k q_small k_small bit (inl new) = inr (new.1, (i, omega arith, new.0, new.2))
        only r q k q_small k_small bit (inr old) = elim (adds.only r q k q_small k_small (sym old ∙ bit)) [
          | inl first ↦ inl first
          | inr found ↦ inr (found.0, later r k i (i + 1) (omega arith) found.1)
        ]
