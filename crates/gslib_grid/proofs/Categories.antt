-- The category of a code, by where it stands in the list.
use Rattle.std.proofs.Common.{◌≡◌, ◌⊎◌, inl, inr, ℕ, ◌-◌, ◌<◌, ◌≤◌, ℤ, pos, true, false, ltb, List, length, get_or, Option, Some, None, cond, sym, ap, ◌∙◌, arith}
use Rattle.std.specs.Prelude.{option_map}
use Rattle.std.specs.List.{position, position_or_len}
use Rattle.std.specs.Option.{option_or}
use Rattle.std.specs.Ordering.{int_eq}
use Rattle.std.proofs.lemmas.Bool.{cases_lt}
use Rattle.std.proofs.lemmas.List.Sums.{position_or_len_is}
use Rattle.mp_base.specs.declared.codes.Codes.{Codes}
use Rattle.gslib_grid.specs.Table.{category_of}

-- what category_of says, by the code's place
abbrev told : Codes → ℤ → Option ℕ → Option (Option ℕ)
told codes code place = option_or (option_map Some place) (cond (int_eq code codes.missing) (Some None) None)

pub category_listed : (codes : Codes) (code z : ℤ) (listed : List ℤ) (place : ℕ) → z ≡ code → listed ≡ codes.categories → Some place ≡ position (int_eq z) listed → category_of codes code ≡ Some (Some place)
unfolding category_of
category_listed codes code z listed place same all found = ap (told codes code) (sym (found ∙ (λ i. position (int_eq (same i)) (all i))))

pub category_unlisted : (codes : Codes) (code z : ℤ) (listed : List ℤ) → z ≡ code → listed ≡ codes.categories → None ≡ position (int_eq z) listed → category_of codes code ≡ cond (int_eq code codes.missing) (Some None) None
unfolding category_of
category_unlisted codes code z listed same all found = ap (told codes code) (sym (found ∙ (λ i. position (int_eq (same i)) (all i))))

-- Where a code stands, sought from the end.

-- the first place from one on at which the code stands, or the end
pub record IsPlaceFrom (codes : List ℤ) (code : ℤ) (at place : ℕ) : Type 0 where
  pub behind : at ≤ place
  pub within : place ≤ length codes
  pub none : (k : ℕ) → at ≤ k → k < place → int_eq code (get_or codes k (pos 0)) ≡ false
  pub there : place < length codes → int_eq code (get_or codes place (pos 0)) ≡ true

module _ (codes : List ℤ) (code : ℤ) where
  pub place_at_end : IsPlaceFrom codes code (length codes) (length codes)
  place_at_end = record { behind = omega arith; within = omega arith; none = λ k from below. absurd (omega arith); there = λ below. absurd (omega arith) }

  pub place_here : (at : ℕ) → at < length codes → int_eq code (get_or codes at (pos 0)) ≡ true → IsPlaceFrom codes code at at
  place_here at inside is = record { behind = omega arith; within = omega arith; none = λ k from below. absurd (omega arith); there = λ _. is }

  none_before : (at place k : ℕ) → 0 < at → at - 1 ≤ k → k < place → IsPlaceFrom codes code at place → int_eq code (get_or codes (at - 1) (pos 0)) ≡ false → (k < at) ⊎ (at ≤ k) → int_eq code (get_or codes k (pos 0)) ≡ false
  none_before at place k some from below is isnt (inl before) = ap (λ i. int_eq code (get_or codes i (pos 0))) (omega arith) ∙ isnt
  none_before at place k some from below is isnt (inr behind) = is.none k behind below

  pub place_behind : (at place : ℕ) → 0 < at → IsPlaceFrom codes code at place → int_eq code (get_or codes (at - 1) (pos 0)) ≡ false → IsPlaceFrom codes code (at - 1) place
  place_behind at place some is isnt =
      record {
        behind = omega (arith, is.behind);
        within = is.within;
        none = λ k from below. none_before at place k some from below is isnt (cases_lt k at);
        there = is.there;
      }

  -- from 0 on it is the place in the list
  pub place_is : (at place : ℕ) → at ≡ 0 → IsPlaceFrom codes code at place → cond (ltb place (length codes)) (Some place) None ≡ position (int_eq code) codes
  place_is at place start is =
      let first : position_or_len (int_eq code) codes ≡ place = position_or_len_is (int_eq code) codes place (pos 0) is.within (λ k below. is.none k (omega arith) below) is.there in
      sym (λ i. cond (ltb (first i) (length codes)) (Some (first i)) None)
