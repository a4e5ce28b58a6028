-- The texts of values with a space between each two: their fields, and what bytes they have.
use Rattle.std.proofs.Common.{◌≡◌, ℕ, suc, ◌+◌, ◌-◌, ◌*◌, ◌<◌, ◌≤◌, Bool, true, false, cond, not, List, [], ◌∷◌, ◌++◌, length, map, get_or, Option, Some, None, refl, ap, subst, sym, ◌∙◌, arith}
use Rattle.std.specs.Prelude.{option_map, option_and_then}
use Rattle.std.specs.List.{list_all}
use Rattle.std.proofs.lemmas.Bool.{and_parts, and_from, not-true}
use Rattle.std.proofs.lemmas.Bool.Decides.{nat_tests}
use Rattle.std.proofs.lemmas.List.{append-nil, get_or_append_left, get_or-append_right, length-append, length-map}
use Rattle.std.proofs.lemmas.List.Folds.{list_all-append}
use Rattle.std.proofs.lemmas.List.Sums.{AllPass-from_list_all}
use Rattle.mp_base.specs.Number.{is_number_byte}
use Rattle.mp_base.proofs.ReadBack.{IsNumberText}
use Rattle.mp_base.specs.Spaced.{spaced}
use Rattle.mp_text.specs.Fields.{fields_of, is_blank}
use Rattle.mp_values.specs.Values.{all_read, few_read, is_line_byte, where_so}
use Rattle.mp_values.proofs.Gathered.{few_all}
use Rattle.mp_text.proofs.FieldLemmas.{no_field}
use Rattle.mp_text.proofs.Written.{field_behind, field_one, is_free}
use Rattle.mp_values.proofs.ValueTexts.{IsValueText, all_weaker}

number_no_blank : (b : ℕ) → is_number_byte b ≡ true → not (is_blank b) ≡ true
number_no_blank b is = grind (arith, nat_tests)

number_line_byte : (b : ℕ) → is_number_byte b ≡ true → is_line_byte b ≡ true
number_line_byte b is = grind (arith, nat_tests)

number_free : (text : List ℕ) → IsNumberText text → is_free is_blank text ≡ true
number_free text is = all_weaker is_number_byte (λ b. not (is_blank b)) number_no_blank text is.bytes

number_at : (text : List ℕ) (i : ℕ) → IsNumberText text → i < length text → is_blank (get_or text i 0) ≡ false
number_at text i is within =
    let b : ℕ = get_or text i 0 in
    not-true (is_blank b) (number_no_blank b (AllPass-from_list_all is_number_byte text is.bytes i 0 within))

-- a number's text is a field
number_field : (text rest : List ℕ) → IsNumberText text → fields_of (text ++ 32 ∷ rest) ≡ text ∷ fields_of rest
number_field [] rest is = absurd (omega (arith, is.some))
number_field (x ∷ xs) rest is = field_behind x xs rest (number_free (x ∷ xs) is)

number_field_one : (text : List ℕ) → IsNumberText text → fields_of text ≡ text ∷ []
number_field_one [] is = absurd (omega (arith, is.some))
number_field_one (x ∷ xs) is = field_one x xs (number_free (x ∷ xs) is)

-- bytes that a line may hold, with no blank at either end, and 65 or fewer for each of n values
record IsSpaced (n : ℕ) (text : List ℕ) : Type 0 where
  bytes : list_all is_line_byte text ≡ true
  some : 1 ≤ length text
  first : is_blank (get_or text 0 0) ≡ false
  last : is_blank (get_or text (length text - 1) 0) ≡ false
  few : length text ≤ 65 * n

spaced_one : (text : List ℕ) → IsNumberText text → IsSpaced 1 text
spaced_one text is = record {
  bytes = all_weaker is_number_byte is_line_byte number_line_byte text is.bytes;
  some = is.some;
  first = number_at text 0 is (omega (arith, is.some));
  last = number_at text (length text - 1) is (omega (arith, is.some));
  few = omega (arith, is.few);
}

spaced_more : (n : ℕ) (text rest : List ℕ) → IsNumberText text → IsSpaced n rest → IsSpaced (suc n) (text ++ 32 ∷ rest)
spaced_more n text rest is more =
    let long : length (text ++ 32 ∷ rest) ≡ length text + suc (length rest) = length-append text (32 ∷ rest) in
    let at : length (text ++ 32 ∷ rest) - 1 - length text ≡ suc (length rest - 1) = omega (arith, long, more.some) in
    let end : get_or (text ++ 32 ∷ rest) (length (text ++ 32 ∷ rest) - 1) 0 ≡ get_or rest (length rest - 1) 0 =
    get_or-append_right text (32 ∷ rest) (length text) (length (text ++ 32 ∷ rest) - 1) 0 refl (omega (arith, long)) ∙ ap (λ j. get_or (32 ∷ rest) j 0) at in
    record {
      bytes = list_all-append is_line_byte text (32 ∷ rest) ∙ and_from (list_all is_line_byte text) (list_all is_line_byte (32 ∷ rest)) (all_weaker is_number_byte is_line_byte number_line_byte text is.bytes) more.bytes;
      some = omega (arith, long);
      first = ap is_blank (get_or_append_left text (32 ∷ rest) 0 0 (omega (arith, is.some))) ∙ number_at text 0 is (omega (arith, is.some));
      last = ap is_blank end ∙ more.last;
      few = omega (arith, long, is.few, more.few);
    }

-- one number is a value
pub number_value : (text : List ℕ) → IsNumberText text → IsValueText text
number_value text is =
    let s : IsSpaced 1 text = spaced_one text is in
    record { bytes = s.bytes; some = s.some; first = s.first; last = s.last; few = omega (arith, s.few) }

module _ {X : Type 0} (text : X → List ℕ) (test : X → Bool) (each : (x : X) → test x ≡ true → IsNumberText (text x)) where
  -- the fields are the texts
  fields_spaced : (xs : List X) → list_all test xs ≡ true → fields_of (spaced text xs) ≡ map text xs
  fields_spaced [] all = no_field [] refl
  fields_spaced (x ∷ []) all = ap fields_of (append-nil (text x)) ∙ number_field_one (text x) (each x (and_parts (test x) true all).0)
  fields_spaced (x ∷ y ∷ ys) all =
      let parts = and_parts (test x) (list_all test (y ∷ ys)) all in
      number_field (text x) (spaced text (y ∷ ys)) (each x parts.0) ∙ ap (λ fs. text x ∷ fs) (fields_spaced (y ∷ ys) parts.1)

  is_spaced : (x : X) (xs : List X) → list_all test (x ∷ xs) ≡ true → IsSpaced (length (x ∷ xs)) (spaced text (x ∷ xs))
  is_spaced x [] all = subst (IsSpaced 1) (sym (append-nil (text x))) (spaced_one (text x) (each x (and_parts (test x) true all).0))
  is_spaced x (y ∷ ys) all =
      let parts = and_parts (test x) (list_all test (y ∷ ys)) all in
      spaced_more (length (y ∷ ys)) (text x) (spaced text (y ∷ ys)) (each x parts.0) (is_spaced y ys parts.1)

  -- the texts of one to eight values are a value
  pub spaced_value : (xs : List X) → 1 ≤ length xs → length xs ≤ 8 → list_all test xs ≡ true → IsValueText (spaced text xs)
  spaced_value [] some few all = absurd (omega arith)
  spaced_value (x ∷ xs) some few all =
      let s : IsSpaced (length (x ∷ xs)) (spaced text (x ∷ xs)) = is_spaced x xs all in
      record { bytes = s.bytes; some = s.some; first = s.first; last = s.last; few = omega (arith, s.few) }

  module _ (read : List ℕ → Option X) (back : (x : X) → test x ≡ true → read (text x) ≡ Some x) where
    all_back : (xs : List X) → list_all test xs ≡ true → all_read read (map text xs) ≡ Some xs
    all_back [] all = refl
    all_back (x ∷ xs) all =
        let parts = and_parts (test x) (list_all test xs) all in
        ap (λ o. option_and_then (λ y. option_map (λ ys. y ∷ ys) (all_read read (map text xs))) o) (back x parts.0) ∙ ap (option_map (λ ys. x ∷ ys)) (all_back xs parts.1)

    -- and they are read back
    pub few_back : (xs : List X) → length xs ≤ 8 → list_all test xs ≡ true → few_read read (spaced text xs) ≡ Some xs
    few_back xs few all =
        let fs = fields_spaced xs all in
        few_all read (spaced text xs) (Some xs) (omega (arith, ap length fs, length-map xs text)) (ap (all_read read) fs ∙ all_back xs all)

    pub where_back : (pass : List X → Bool) (xs : List X) → length xs ≤ 8 → list_all test xs ≡ true → pass xs ≡ true → option_and_then (where_so pass) (few_read read (spaced text xs)) ≡ Some xs
    where_back pass xs few all passes = ap (option_and_then (where_so pass)) (few_back xs few all) ∙ ap (λ b. cond b (Some xs) None) passes
