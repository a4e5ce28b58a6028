-- A printed line is read back: its line's end, its key and its value are found where they were put.
use Rattle.std.proofs.Common.{◌≡◌, ℕ, ◌+◌, ◌-◌, ◌<◌, ◌≤◌, Bool, true, false, cond, not, List, [], ◌∷◌, ◌++◌, length, take, drop, get_or, Some, None, refl, ap, sym, ◌∙◌, arith, inl, inr}
use Rattle.std.specs.Prelude.{◌==◌, nat_le}
use Rattle.std.specs.List.{after_first, before_first, list_all, list_any, position_or_len, suffix_len}
use Rattle.std.proofs.lemmas.Bool.{and_parts, and_from, cases_lt, not-true, or_right}
use Rattle.std.proofs.lemmas.Bool.Decides.{nat_tests}
use Rattle.std.proofs.lemmas.List.{append_assoc, drop_at, get_or_append_left, get_or_at, get_or_past, length_push, take_at, take_all}
use Rattle.std.proofs.lemmas.List.Folds.{list_all-append, list_any-append}
use Rattle.std.proofs.lemmas.List.Sums.{AllPass-from_list_all, suffix_len_is}
use Rattle.mp_params.specs.Lines.{SettingValue, name_and_text, setting_of, is_equals, is_key_byte, is_key_text, is_setting}
use Rattle.mp_params.specs.Printing.{line_text}
use Rattle.mp_text.specs.Lines.{line_texts}
use Rattle.mp_text.specs.Fields.{is_blank, is_remark, is_skipped, to_visible, trimmed}
use Rattle.mp_values.specs.Values.{is_line_byte}
use Rattle.mp_values.proofs.ValueTexts.{IsValueText, all_weaker}
use Rattle.mp_text.proofs.Written.{is_feed, is_free, line_texts_behind, from_blank, from_seen}

module _ (p : ℕ → Bool) (b : ℕ) (rest : List ℕ) (ends : p b ≡ true) where
  position_behind : (xs : List ℕ) → is_free p xs ≡ true → position_or_len p (xs ++ b ∷ rest) ≡ length xs
  position_behind [] free = rw ends refl
  position_behind (x ∷ xs) free =
      let parts = and_parts (not (p x)) (is_free p xs) free in
      let more : 1 + position_or_len p (xs ++ b ∷ rest) ≡ length (x ∷ xs) = omega (arith, position_behind xs parts.1) in
      ap (λ t. cond t (1 + position_or_len p (xs ++ b ∷ rest)) 0) parts.0 ∙ more

  pub before_is : (xs : List ℕ) → is_free p xs ≡ true → before_first p (xs ++ b ∷ rest) ≡ xs
  before_is xs free = ap (λ n. take n (xs ++ b ∷ rest)) (position_behind xs free) ∙ take_at xs (b ∷ rest) (length xs) refl

  pub after_is : (xs : List ℕ) → is_free p xs ≡ true → after_first p (xs ++ b ∷ rest) ≡ rest
  after_is xs free =
      ap (λ n. drop (n + 1) (xs ++ b ∷ rest)) (position_behind xs free) ∙ ap (drop (length xs + 1)) (sym (append_assoc xs (b ∷ []) rest))
      ∙ drop_at (xs ++ b ∷ []) rest (length xs + 1) (length_push xs b)

-- the bytes of a line end none
line_no_end : (b : ℕ) → is_line_byte b ≡ true → not (is_feed b) ≡ true
line_no_end b is = grind (arith, nat_tests)

line_no_return : (b : ℕ) → is_line_byte b ≡ true → (b == 13) ≡ false
line_no_return b is = grind (arith, nat_tests)

at_no_return : (xs : List ℕ) (i : ℕ) → list_all is_line_byte xs ≡ true → (get_or xs i 0 == 13) ≡ false
at_no_return xs i all = elim (cases_lt i (length xs)) [
  | inl within ↦ line_no_return (get_or xs i 0) (AllPass-from_list_all is_line_byte xs all i 0 within)
  | inr past ↦ ap (λ b. b == 13) (get_or_past xs i 0 past)
]

-- a line, and the lines behind it
pub line_behind : (xs rest : List ℕ) → list_all is_line_byte xs ≡ true → line_texts (xs ++ 10 ∷ rest) ≡ xs ∷ line_texts rest
line_behind xs rest all = line_texts_behind xs rest (all_weaker is_line_byte (λ b. not (is_feed b)) line_no_end xs all) (at_no_return xs (length xs - 1) all)

-- a setting that a line spells
pub record IsSettingValue (e : SettingValue) : Type 0 where
  pub key : is_key_text e.name ≡ true
  pub short : length e.name ≤ 14
  pub value : IsValueText e.text

-- no blanks are at the end
to_end : (xs : List ℕ) → 1 ≤ length xs → is_blank (get_or xs (length xs - 1) 0) ≡ false → to_visible xs ≡ xs
to_end xs some last =
    let none : suffix_len is_blank xs ≡ length xs - length xs = suffix_len_is is_blank xs (length xs) 0 (omega arith) (λ k from below. absurd (omega arith)) (λ _. last) in
    take_all (length xs - suffix_len is_blank xs) xs (omega (arith, none))

-- one blank is at the end
to_blank : (xs : List ℕ) → 1 ≤ length xs → is_blank (get_or xs (length xs - 1) 0) ≡ false → to_visible (xs ++ 32 ∷ []) ≡ xs
to_blank xs some last =
    let all : List ℕ = xs ++ 32 ∷ [] in
    let n : ℕ = length xs in
    let long : length all ≡ n + 1 = length_push xs 32 in
    let end : get_or all n 0 ≡ 32 = get_or_at xs 32 [] 0 n refl in
    let blank : (k : ℕ) → n ≤ k → k < length all → is_blank (get_or all k 0) ≡ true = λ k from below.
    let same : k ≡ n = omega arith in
    ap (λ j. is_blank (get_or all j 0)) same ∙ ap is_blank end in
    let stop : 0 < n → is_blank (get_or all (n - 1) 0) ≡ false = λ _. ap is_blank (get_or_append_left xs (32 ∷ []) 0 (n - 1) (omega arith)) ∙ last in
    let one : suffix_len is_blank all ≡ length all - n = suffix_len_is is_blank all n 0 (omega arith) blank stop in
    let cut : length all - suffix_len is_blank all ≡ n = omega (arith, one, long) in
    ap (λ m. take m all) cut ∙ take_at xs (32 ∷ []) n refl

trim_front : (x : ℕ) (xs : List ℕ) → is_blank x ≡ false → 1 ≤ length (x ∷ xs) → is_blank (get_or (x ∷ xs) (length (x ∷ xs) - 1) 0) ≡ false → trimmed (32 ∷ x ∷ xs) ≡ x ∷ xs
trim_front x xs first some last = ap to_visible (from_blank 32 (x ∷ xs) refl ∙ from_seen x xs first) ∙ to_end (x ∷ xs) some last

-- a value behind a space
value_trimmed : (text : List ℕ) → IsValueText text → trimmed (32 ∷ text) ≡ text
value_trimmed [] is = absurd (omega (arith, is.some))
value_trimmed (x ∷ xs) is = trim_front x xs is.first is.some is.last

key_no_blank : (b : ℕ) → is_key_byte b ≡ true → not (is_blank b) ≡ true
key_no_blank b is = grind (arith, nat_tests)

key_no_equals : (b : ℕ) → is_key_byte b ≡ true → not (is_equals b) ≡ true
key_no_equals b is = grind (arith, nat_tests)

key_line_byte : (b : ℕ) → is_key_byte b ≡ true → is_line_byte b ≡ true
key_line_byte b is = grind (arith, nat_tests)

key_no_remark : (b : ℕ) → is_key_byte b ≡ true → (b == 35) ≡ false
key_no_remark b is = grind (arith, nat_tests)

-- a name's last byte is no blank
key_last : (xs : List ℕ) → 1 ≤ length xs → list_all is_key_byte xs ≡ true → is_blank (get_or xs (length xs - 1) 0) ≡ false
key_last xs some all =
    let b : ℕ = get_or xs (length xs - 1) 0 in
    not-true (is_blank b) (key_no_blank b (AllPass-from_list_all is_key_byte xs all (length xs - 1) 0 (omega arith)))

key_trimmed : (xs : List ℕ) → is_key_text xs ≡ true → trimmed (xs ++ 32 ∷ []) ≡ xs
key_trimmed [] is = cc
key_trimmed (x ∷ xs) is =
    let parts = and_parts (nat_le 1 (length (x ∷ xs))) (list_all is_key_byte (x ∷ xs)) is in
    let here = and_parts (is_key_byte x) (list_all is_key_byte xs) parts.1 in
    ap to_visible (from_seen x (xs ++ 32 ∷ []) (not-true (is_blank x) (key_no_blank x here.0))) ∙ to_blank (x ∷ xs) (omega arith) (key_last (x ∷ xs) (omega arith) parts.1)

-- a line is cut at its first `=`
line_cut : (e : SettingValue) → line_text e ≡ (e.name ++ 32 ∷ []) ++ 61 ∷ 32 ∷ e.text
line_cut e = sym (append_assoc e.name (32 ∷ []) (61 ∷ 32 ∷ e.text))

name_free : (xs : List ℕ) → list_all is_key_byte xs ≡ true → is_free is_equals (xs ++ 32 ∷ []) ≡ true
name_free xs all =
    list_all-append (λ b. not (is_equals b)) xs (32 ∷ []) ∙ and_from _ _ (all_weaker is_key_byte (λ b. not (is_equals b)) key_no_equals xs all) refl

-- the setting of a line is found where it was put
pub setting_back : (e : SettingValue) → IsSettingValue e → name_and_text (line_text e) ≡ e
setting_back e is =
    let keys = (and_parts (nat_le 1 (length e.name)) (list_all is_key_byte e.name) is.key).1 in
    let free = name_free e.name keys in
    let before : before_first is_equals (line_text e) ≡ e.name ++ 32 ∷ [] = ap (before_first is_equals) (line_cut e) ∙ before_is is_equals 61 (32 ∷ e.text) refl (e.name ++ 32 ∷ []) free in
    let after : after_first is_equals (line_text e) ≡ 32 ∷ e.text = ap (after_first is_equals) (line_cut e) ∙ after_is is_equals 61 (32 ∷ e.text) refl (e.name ++ 32 ∷ []) free in
    let name = ap trimmed before ∙ key_trimmed e.name is.key in
    let text = ap trimmed after ∙ value_trimmed e.text is.value in
    λ i. record { name = name i; text = text i }

not_skipped_from : (xs rest : List ℕ) → is_key_text xs ≡ true → is_skipped (xs ++ rest) ≡ false
not_skipped_from [] rest is = cc
not_skipped_from (x ∷ xs) rest is =
    let parts = and_parts (nat_le 1 (length (x ∷ xs))) (list_all is_key_byte (x ∷ xs)) is in
    let here = and_parts (is_key_byte x) (list_all is_key_byte xs) parts.1 in
    ap is_remark (from_seen x (xs ++ rest) (not-true (is_blank x) (key_no_blank x here.0))) ∙ key_no_remark x here.0

-- a line of a setting isn't skipped
pub not_skipped : (e : SettingValue) → IsSettingValue e → is_skipped (line_text e) ≡ false
not_skipped e is = not_skipped_from e.name (32 ∷ 61 ∷ 32 ∷ e.text) is.key

pub line_bytes : (e : SettingValue) → IsSettingValue e → list_all is_line_byte (line_text e) ≡ true
line_bytes e is =
    let keys = (and_parts (nat_le 1 (length e.name)) (list_all is_key_byte e.name) is.key).1 in
    list_all-append is_line_byte e.name (32 ∷ 61 ∷ 32 ∷ e.text) ∙ and_from _ _ (all_weaker is_key_byte is_line_byte key_line_byte e.name keys) is.value.bytes

-- it is a setting
pub line_setting : (e : SettingValue) → IsSettingValue e → is_setting (line_text e) ≡ true
line_setting e is =
    let equals : list_any is_equals (line_text e) ≡ true = list_any-append is_equals e.name (32 ∷ 61 ∷ 32 ∷ e.text) ∙ or_right _ _ refl in
    and_from _ _ (and_from _ _ (line_bytes e is) equals) (ap (λ (x : SettingValue). is_key_text x.name) (setting_back e is) ∙ is.key)

-- the setting of a line
pub setting_of_line : (e : SettingValue) → IsSettingValue e → setting_of (line_text e) ≡ Some e
unfolding setting_of
setting_of_line e is = ap (λ b. cond b None (Some (name_and_text (line_text e)))) (not_skipped e is) ∙ ap Some (setting_back e is)
