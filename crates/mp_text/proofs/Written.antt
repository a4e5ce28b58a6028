-- Lines and fields that were written one behind another are found where they were put.
use Rattle.std.proofs.Common.{◌≡◌, ℕ, ◌-◌, Bool, true, false, cond, not, ◌&&◌, List, [], ◌∷◌, ◌++◌, length, take, drop, map, get_or, suc, ◌+◌, refl, ap, ◌∙◌, arith, ltb}
use Rattle.std.specs.Prelude.{◌==◌}
use Rattle.std.specs.List.{filter, list_all, onto_first, position_or_len, slice_split}
use Rattle.std.proofs.lemmas.Bool.{and_parts, and_from, not-true, lt-ltb}
use Rattle.std.proofs.lemmas.List.{get_or_at, length_push, take_at}
use Rattle.bstr.specs.Records.{ends_with_byte, trim_record}
use Rattle.mp_text.specs.Lines.{line_texts, lines_of, text_of}
use Rattle.mp_text.specs.Fields.{fields_of, from_visible, is_blank, is_filled, is_visible}

-- no byte passes
abbrev pub is_free : (ℕ → Bool) → List ℕ → Bool
is_free p xs = list_all (λ b. not (p b)) xs

abbrev pub is_feed : ℕ → Bool
is_feed b = b == 10

-- a line, and the lines behind it
pub lines_behind : (xs rest : List ℕ) → is_free is_feed xs ≡ true → lines_of (xs ++ 10 ∷ rest) ≡ (xs ++ 10 ∷ []) ∷ lines_of rest
unfolding lines_of
lines_behind [] rest free = refl
lines_behind (x ∷ xs) rest free =
    let parts = and_parts (not (is_feed x)) (is_free is_feed xs) free in
    ap (λ t. cond t ((x ∷ []) ∷ lines_of (xs ++ 10 ∷ rest)) (onto_first x (lines_of (xs ++ 10 ∷ rest)))) (not-true (is_feed x) parts.0) ∙ ap (onto_first x) (lines_behind xs rest parts.1)

-- without the byte that was put behind it
trim_push : (b : ℕ) (xs : List ℕ) → (b == b) ≡ true → trim_record b (xs ++ b ∷ []) ≡ xs
trim_push b xs same =
    let all : List ℕ = xs ++ b ∷ [] in
    let long : length all - 1 ≡ length xs = omega (arith, length_push xs b) in
    let last : (get_or all (length all - 1) 0 == b) ≡ true = ap (λ n. get_or all n 0 == b) long ∙ ap (λ c. c == b) (get_or_at xs b [] 0 (length xs) refl) ∙ same in
    let ends : ends_with_byte b all ≡ true = and_from _ _ (lt-ltb 0 (length all) (omega (arith, length_push xs b))) last in
    ap (λ t. cond t (take (length all - 1) all) all) ends ∙ ap (λ n. take n all) long ∙ take_at xs (b ∷ []) (length xs) refl

and_false : (a : Bool) → (a && false) ≡ false
and_false true = refl
and_false false = refl

-- nothing is taken off where the byte isn't the last
trim_other : (b : ℕ) (xs : List ℕ) → (get_or xs (length xs - 1) 0 == b) ≡ false → trim_record b xs ≡ xs
trim_other b xs other = ap (λ t. cond t (take (length xs - 1) xs) xs) (ap (λ t. ltb 0 (length xs) && t) other ∙ and_false (ltb 0 (length xs)))

-- what a written line says, and what the lines behind it say
pub line_texts_behind : (xs rest : List ℕ) → is_free is_feed xs ≡ true → (get_or xs (length xs - 1) 0 == 13) ≡ false → line_texts (xs ++ 10 ∷ rest) ≡ xs ∷ line_texts rest
line_texts_behind xs rest free other =
    let says : text_of (xs ++ 10 ∷ []) ≡ xs = ap (trim_record 13) (trim_push 10 xs refl) ∙ trim_other 13 xs other in
    ap (map text_of) (lines_behind xs rest free) ∙ ap (λ line. line ∷ line_texts rest) says

module _ (p : ℕ → Bool) where
  split_behind : (b : ℕ) (xs rest : List ℕ) → p b ≡ true → is_free p xs ≡ true → slice_split p (xs ++ b ∷ rest) ≡ xs ∷ slice_split p rest
  split_behind b [] rest ends free = ap (λ t. cond t ([] ∷ slice_split p rest) (onto_first b (slice_split p rest))) ends
  split_behind b (x ∷ xs) rest ends free =
      let parts = and_parts (not (p x)) (is_free p xs) free in
      ap (λ t. cond t ([] ∷ slice_split p (xs ++ b ∷ rest)) (onto_first x (slice_split p (xs ++ b ∷ rest)))) (not-true (p x) parts.0) ∙ ap (onto_first x) (split_behind b xs rest ends parts.1)

  split_one : (xs : List ℕ) → is_free p xs ≡ true → slice_split p xs ≡ xs ∷ []
  split_one [] free = refl
  split_one (x ∷ xs) free =
      let parts = and_parts (not (p x)) (is_free p xs) free in
      ap (λ t. cond t ([] ∷ slice_split p xs) (onto_first x (slice_split p xs))) (not-true (p x) parts.0) ∙ ap (onto_first x) (split_one xs parts.1)

-- a field, and the fields behind it
pub field_behind : (x : ℕ) (xs rest : List ℕ) → is_free is_blank (x ∷ xs) ≡ true → fields_of ((x ∷ xs) ++ 32 ∷ rest) ≡ (x ∷ xs) ∷ fields_of rest
unfolding fields_of
field_behind x xs rest free =
    let filled : ltb 0 (length (x ∷ xs)) ≡ true = lt-ltb 0 (length (x ∷ xs)) (omega arith) in
    ap (filter is_filled) (split_behind is_blank 32 (x ∷ xs) rest refl free) ∙ ap (λ t. cond t ((x ∷ xs) ∷ filter is_filled (slice_split is_blank rest)) (filter is_filled (slice_split is_blank rest))) filled

pub field_one : (x : ℕ) (xs : List ℕ) → is_free is_blank (x ∷ xs) ≡ true → fields_of (x ∷ xs) ≡ (x ∷ xs) ∷ []
unfolding fields_of
field_one x xs free =
    let filled : ltb 0 (length (x ∷ xs)) ≡ true = lt-ltb 0 (length (x ∷ xs)) (omega arith) in
    ap (filter is_filled) (split_one is_blank (x ∷ xs) free) ∙ ap (λ t. cond t ((x ∷ xs) ∷ []) []) filled

-- a blank in front is passed over
pub from_blank : (b : ℕ) (bs : List ℕ) → is_blank b ≡ true → from_visible (b ∷ bs) ≡ from_visible bs
from_blank b bs is =
    let one : 1 + position_or_len is_visible bs ≡ suc (position_or_len is_visible bs) = omega arith in
    rw is (ap (λ m. drop m (b ∷ bs)) one)

-- and anything else isn't
pub from_seen : (b : ℕ) (bs : List ℕ) → is_blank b ≡ false → from_visible (b ∷ bs) ≡ b ∷ bs
from_seen b bs isnt = rw isnt refl
