-- Planes of numbers, the highest bit first.
use Rattle.std.proofs.Common.{◌≡◌, ℕ, ◌+◌, ◌-◌, ◌*◌, ◌/◌, ◌%◌, ◌^◌, ◌<◌, ◌≤◌, ◌==◌, ◌⊎◌, true, cond, ◌&&◌, nat_le, List, [], ◌∷◌, ◌++◌, length, get_or, take, drop, refl, ap, sym, ◌∙◌, inl, inr, arith}
use Rattle.std.specs.Int.{bit_at, leading_zeros, w32}
use Rattle.std.specs.List.{fold, slice_range}
use Rattle.std.proofs.Math.ListN.{drop_of_length-le, get_or-append}
use Rattle.std.proofs.Math.Nat.{div-eq_of_lt}
use Rattle.std.proofs.Math.Seq.{take-length, get_or-append_seam}
use Rattle.std.proofs.lemmas.Bool.{cases_eq}
use Rattle.std.proofs.lemmas.Bool.Decides.{nat_tests}
use Rattle.std.proofs.lemmas.List.{drop-append-le, take-append-le, take-take, length-append}
use Rattle.std.proofs.lemmas.List.Sums.{fold_push}
use Rattle.std.proofs.lemmas.Nat.{leading_length, shr-shr}
use Rattle.std.proofs.lemmas.Slice.{between_is}
use Rattle.pattern_blocks.specs.Bits.{AreMarks}
use Rattle.pattern_blocks.specs.Making.{AddsPlanes, AreRows}
use Rattle.pattern_blocks.specs.Planes.{number_in, planes_of}
use Rattle.pattern_blocks.proofs.Bits.{marks_of}

number_push : (planes : List ℕ) (plane u : ℕ) → number_in (planes ++ plane ∷ []) u ≡ 2 * number_in planes u + bit_at plane u
unfolding number_in
number_push planes plane u = fold_push (λ n p. 2 * n + bit_at p u) 0 planes plane

number_none : (planes : List ℕ) (u : ℕ) → planes ≡ [] → number_in planes u ≡ 0
unfolding number_in
number_none planes u none = ap (λ (l : List ℕ). fold (λ n p. 2 * n + bit_at p u) 0 l) none

halved : (n b : ℕ) → n / 2 ^ b ≡ 2 * (n / 2 ^ (b + 1)) + bit_at n b
halved n b =
    let twice : n / 2 ^ b / 2 ^ 1 ≡ n / 2 ^ (b + 1) = shr-shr n b 1 in
    parts (n / 2 ^ b) (n / 2 ^ (b + 1)) twice
  where
    parts : (x y : ℕ) → x / 2 ^ 1 ≡ y → x ≡ 2 * y + x % 2
    parts x y e = omega arith

plane_bit : (number : ℕ → ℕ) (bit plane u : ℕ) → bit < 32 → AreMarks (λ s. bit_at (number s) bit == 1) plane → u < 64 → bit_at plane u ≡ bit_at (number u) bit
plane_bit number bit plane u small marks below = marks.each u below ∙ sym ((marks_of (number u)).each bit (omega arith))

-- no planes yet: as many as the greatest number needs are still to come
pub no_planes : (words : List ℕ) (most : ℕ) (number : ℕ → ℕ) → most < 2 ^ 32 → ((u : ℕ) → u < 64 → number u ≤ most) → (u : ℕ) → u < 64 → number_in (drop (length words) words) u ≡ number u / 2 ^ (32 - leading_zeros w32 most)
no_planes words most number small below u within =
    let long = leading_length 32 most small in
    let bits : long.0 ≡ 32 - leading_zeros w32 most = omega (arith, long.1) in
    number_none (drop (length words) words) u (drop_of_length-le words (omega arith))
    ∙ sym (ap (λ b. number u / 2 ^ b) (sym bits) ∙ div-eq_of_lt (omega (arith, below u within, long.2)))

module _ (words : List ℕ) (start bit next plane : ℕ) (number : ℕ → ℕ) (next_is : next + 1 ≡ bit) (small : bit ≤ 32) (marks : AreMarks (λ s. bit_at (number s) next == 1) plane) (numbers : (u : ℕ) → u < 64 → number_in (drop start words) u ≡ number u / 2 ^ bit) where
  high : (u : ℕ) → u < 64 → number u / 2 ^ next ≡ 2 * number_in (drop start words) u + bit_at plane u
  high u within = omega (arith, halved (number u) next, ap (λ b. number u / 2 ^ b) next_is, numbers u within, plane_bit number next plane u (omega arith) marks within)

  pub plane_added : start ≤ length words → (u : ℕ) → u < 64 → number_in (drop start (words ++ plane ∷ [])) u ≡ number u / 2 ^ next
  plane_added long u within =
      ap (λ l. number_in l u) (drop-append-le start words (plane ∷ []) long) ∙ number_push (drop start words) plane u ∙ sym (high u within)

pub kept_too : (words before : List ℕ) (start plane : ℕ) → start ≤ length words → take start words ≡ before → take start (words ++ plane ∷ []) ≡ before
kept_too words before start plane long kept = take-append-le start words (plane ∷ []) long ∙ kept

row_is : (ends words : List ℕ) (r a b : ℕ) → get_or ends r 0 ≡ a → get_or ends (r + 1) 0 ≡ b → a ≤ b → b ≤ length words → planes_of (record { ends = ends; words = words }) r ≡ drop a (take b words)
row_is ends words r a b first last order within =
    ap (λ x. cond (nat_le x (get_or ends (r + 1) 0) && nat_le (get_or ends (r + 1) 0) (length words)) (slice_range words x (get_or ends (r + 1) 0)) []) first
    ∙ ap (λ y. cond (nat_le a y && nat_le y (length words)) (slice_range words a y) []) last
    ∙ ap (λ t. cond (t && nat_le b (length words)) (slice_range words a b) []) (test a b order)
    ∙ ap (λ t. cond t (slice_range words a b) []) (test b (length words) within)
    ∙ between_is words a b
  where
    test : (x y : ℕ) → x ≤ y → nat_le x y ≡ true
    test x y le = grind (arith, nat_tests)

pub no_rows : (number : ℕ → ℕ → ℕ) → AreRows (0 ∷ []) [] 0 number
no_rows number = record {
  count = omega arith;
  last = refl;
  few = omega arith;
  order = λ r below. absurd (omega arith);
  within = λ r below. absurd (omega arith);
  numbers = λ r u below small. absurd (omega arith);
}

module _ (ends words after : List ℕ) (n e : ℕ) (number : ℕ → ℕ → ℕ) (rows : AreRows ends words n number) (adds : AddsPlanes words (number n) after) (end : e ≡ length after) where
  end_before : (r : ℕ) → r < n + 1 → get_or (ends ++ e ∷ []) r 0 ≡ get_or ends r 0
  end_before r below = get_or-append ends (e ∷ []) 0 r (omega (arith, rows.count))

  end_after : get_or (ends ++ e ∷ []) (n + 1) 0 ≡ e
  end_after = ap (λ i. get_or (ends ++ e ∷ []) i 0) (sym rows.count) ∙ get_or-append_seam ends e [] 0

  old_row : (r : ℕ) → r < n → planes_of (record { ends = ends ++ e ∷ []; words = after }) r ≡ planes_of (record { ends = ends; words = words }) r
  old_row r below =
      let b = get_or ends (r + 1) 0 in
      row_is (ends ++ e ∷ []) after r (get_or ends r 0) b (end_before r (omega arith)) (end_before (r + 1) (omega arith)) (rows.order r below) (omega (arith, rows.within r below, adds.more))
      ∙ ap (drop (get_or ends r 0)) (sym (take-take b (length words) after (rows.within r below)) ∙ ap (take b) adds.kept)
      ∙ sym (row_is ends words r (get_or ends r 0) b refl refl (rows.order r below) (rows.within r below))

  new_row : planes_of (record { ends = ends ++ e ∷ []; words = after }) n ≡ drop (length words) after
  new_row =
      row_is (ends ++ e ∷ []) after n (length words) e (end_before n (omega arith) ∙ rows.last) end_after (omega (arith, adds.more)) (omega arith)
      ∙ ap (λ m. drop (length words) (take m after)) end ∙ ap (drop (length words)) (take-length after)

  pub row_added : AreRows (ends ++ e ∷ []) after (n + 1) number
  row_added = record {
    count = length-append ends (e ∷ []) ∙ omega (arith, rows.count);
    last = end_after ∙ end;
    few = omega (arith, rows.few, adds.few);
    order = λ r below. order r below (cases_eq r n);
    within = λ r below. within r below (cases_eq r n);
    numbers = λ r u below small. numbers r u below small (cases_eq r n);
  }
    where
      order : (r : ℕ) → r < n + 1 → (r ≡ n) ⊎ (r ≡ n → ⊥) → get_or (ends ++ e ∷ []) r 0 ≤ get_or (ends ++ e ∷ []) (r + 1) 0
      order r below (inl same) = omega (arith, ap (λ i. get_or (ends ++ e ∷ []) i 0) same, ap (λ i. get_or (ends ++ e ∷ []) (i + 1) 0) same, end_before n (omega arith), rows.last, end_after, adds.more)
      order r below (inr other) = omega (arith, end_before r below, end_before (r + 1) (omega arith), rows.order r (omega arith))

      within : (r : ℕ) → r < n + 1 → (r ≡ n) ⊎ (r ≡ n → ⊥) → get_or (ends ++ e ∷ []) (r + 1) 0 ≤ length after
      within r below (inl same) = omega (arith, ap (λ i. get_or (ends ++ e ∷ []) (i + 1) 0) same, end_after)
      within r below (inr other) = omega (arith, end_before (r + 1) (omega arith), rows.within r (omega arith), adds.more)

      numbers : (r u : ℕ) → r < n + 1 → u < 64 → (r ≡ n) ⊎ (r ≡ n → ⊥) → number_in (planes_of (record { ends = ends ++ e ∷ []; words = after }) r) u ≡ number r u
      numbers r u below small (inl same) =
          ap (λ i. number_in (planes_of (record { ends = ends ++ e ∷ []; words = after }) i) u) same ∙ ap (λ l. number_in l u) new_row ∙ adds.numbers u small ∙ ap (λ i. number i u) (sym same)
      numbers r u below small (inr other) = ap (λ l. number_in l u) (old_row r (omega arith)) ∙ rows.numbers r u (omega arith) small
