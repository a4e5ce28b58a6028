-- A printed number is read back: `whole_reads_back` and `micro_reads_back`. What bytes a printed number has: `whole_text_is` and `micro_text_is`.
use Rattle.std.proofs.Common.{◌≡◌, ℕ, ◌+◌, ◌-◌, ◌*◌, ◌/◌, ◌%◌, ◌^◌, ◌<◌, ◌≤◌, ◌==◌, Bool, true, false, cond, not, ◌&&◌, List, [], ◌∷◌, ◌++◌, length, take, drop, get_or, reverse, ℤ, pos, negsuc, neg_ℤ, nat_abs, Option, Some, None, Ok, decimal, refl, ap, subst, sym, ◌∙◌, arith, inl, inr}
use Rattle.std.specs.Prelude.{nat_le, option_map}
use Rattle.std.specs.Char.{digit_value, is_ascii_digit}
use Rattle.std.specs.Fmt.{signed_decimal}
use Rattle.std.specs.Int.{is_negative}
use Rattle.std.specs.List.{before_first, after_first, list_all, position_or_len, prefix_len, suffix_len}
use Rattle.std.specs.Str.Parse.{digits_value, starts_with_minus, without_leading_sign, without_leading_plus}
use Rattle.std.proofs.Math.Nat.{le_of_mul-le-mul_right, mul-div_cancel, div-one, mod-one}
use Rattle.std.proofs.lemmas.Bool.{and_parts, and_from, cases_eq, cases_lt, le-ltb, ne_eqb, eq-eqb}
use Rattle.std.proofs.lemmas.Bool.Decides.{nat_tests}
use Rattle.std.proofs.lemmas.Fmt.{digits_decimal, digits_value-decimal, decimal_nonempty, length-decimal-le}
use Rattle.std.proofs.lemmas.List.{append-nil, append_assoc, drop_all, drop_at, get_or_append_left, get_or-drop, get_or-reverse, length-append, length-drop, length-take, take-append-drop, take_all, take_at}
use Rattle.std.proofs.lemmas.List.Folds.{list_all-append, prefix_len-append}
use Rattle.std.proofs.lemmas.List.Sums.{list_all-from_AllPass, prefix_len_passes, suffix_len-le-length}
use Rattle.std.proofs.lemmas.Nat.{div-add-mod', pow-add}
use Rattle.std.proofs.lemmas.Str.Parse.{digits_value_short}
use Rattle.mp_number.specs.declared.spelling.Moves.{Moves}
use Rattle.mp_number.specs.Number.{Spelling, all_digits, are_digits, exponent_in, fraction_text, is_mark, is_number_byte, is_point, is_zero_digit, micro_of, micro_text, micro_value, moves_of, numerator, parts_of, sign_text, signed, significant, six_digits, spelling_of, denominator, whole_of, whole_value}
use Rattle.mp_number.proofs.Digits.{own, IsDigit, digit_in, after_is, value-append, zeros-value, all_digits-take}
use Rattle.mp_number.proofs.Sizes.{pow-some}
use Rattle.mp_number.proofs.Values.{micro_within, whole_within}

-- what the digits aren't, none of them is
digits_pass : (test : ℕ → Bool) → ((b : ℕ) → 48 ≤ b → b ≤ 57 → test b ≡ true) → (ds : List ℕ) → all_digits ds ≡ true → list_all test ds ≡ true
digits_pass test each [] digits = refl
digits_pass test each (d ∷ ds) digits =
    let here : IsDigit d = digit_in (d ∷ ds) 0 digits (omega arith) in
    and_from (test d) (list_all test ds) (each d here.low here.high) (digits_pass test each ds (and_parts (is_ascii_digit d) (all_digits ds) digits).1)

no_point : (b : ℕ) → 48 ≤ b → b ≤ 57 → not (is_point b) ≡ true
no_point b low high = grind (arith, nat_tests)

no_mark : (b : ℕ) → 48 ≤ b → b ≤ 57 → not (is_mark b) ≡ true
no_mark b low high = grind (arith, nat_tests)

number_byte : (b : ℕ) → 48 ≤ b → b ≤ 57 → is_number_byte b ≡ true
number_byte b low high = grind (arith, nat_tests)

prefix_all : (test : ℕ → Bool) (xs : List ℕ) → list_all test xs ≡ true → prefix_len test xs ≡ length xs
prefix_all test [] all = refl
prefix_all test (x ∷ xs) all =
    let parts = and_parts (test x) (list_all test xs) all in
    let more : 1 + prefix_len test xs ≡ length (x ∷ xs) = omega (arith, prefix_all test xs parts.1) in
    ap (λ b. cond b (1 + prefix_len test xs) 0) parts.0 ∙ more

-- the sign and what stands behind it
record IsSigned (negative : Bool) (body : List ℕ) : Type 0 where
  sign : starts_with_minus (sign_text negative ++ body) ≡ negative
  rest : without_leading_sign (sign_text negative ++ body) ≡ body

signed_text : (negative : Bool) (body : List ℕ) → 48 ≤ get_or body 0 0 → IsSigned negative body
signed_text true body low = record { sign = refl; rest = refl }
signed_text false [] low = absurd (omega arith)
signed_text false (d ∷ ds) low =
    let minus : (d == 45) ≡ false = ne_eqb d 45 (λ e. omega arith) in
    let plus : (d == 43) ≡ false = ne_eqb d 43 (λ e. omega arith) in
    record {
      sign = minus;
      rest = ap (λ b. cond b ds (without_leading_plus (d ∷ ds))) minus ∙ ap (λ b. drop (cond b 1 0) (d ∷ ds)) plus;
    }

abbrev still : Moves
still = record { right = 0; left = 0 }

abbrev plain : Bool → List ℕ → List ℕ → Spelling
plain negative whole fraction = record { negative = negative; whole = whole; fraction = fraction; moves = still }

abbrev built : Bool → List ℕ → Option (List ℕ) → Option Spelling
built negative mantissa exponent =
    cond (are_digits (before_first is_point mantissa) (after_first is_point mantissa))
    (option_map (λ moves. record { negative = negative; whole = before_first is_point mantissa; fraction = after_first is_point mantissa; moves = moves }) (moves_of exponent))
    None

abbrev built_of : Bool → List ℕ → List ℕ → Option Spelling
built_of negative whole fraction = cond (are_digits whole fraction) (Some (plain negative whole fraction)) None

-- a text without an exponent
parts_plain : (negative : Bool) (body whole fraction : List ℕ) → list_all (λ b. not (is_mark b)) body ≡ true → before_first is_point body ≡ whole → after_first is_point body ≡ fraction → are_digits whole fraction ≡ true → parts_of negative body ≡ Some (plain negative whole fraction)
parts_plain negative body whole fraction unmarked is_whole is_fraction digits =
    let none : position_or_len is_mark body ≡ length body = prefix_all (λ b. not (is_mark b)) body unmarked in
    let mantissa : before_first is_mark body ≡ body = ap (λ n. take n body) none ∙ take_all (length body) body (omega arith) in
    let no_exponent : exponent_in body ≡ None =
    ap (λ b. option_map (λ i. drop (i + 1) body) (cond b (Some (position_or_len is_mark body)) None)) (le-ltb (position_or_len is_mark body) (length body) (omega arith)) in
    let cut : parts_of negative body ≡ built negative body None = (λ i. built negative (mantissa i) (no_exponent i)) in
    let same : built negative body None ≡ built_of negative whole fraction = (λ i. built_of negative (is_whole i) (is_fraction i)) in
    cut ∙ same ∙ ap (λ b. cond b (Some (plain negative whole fraction)) None) digits

spelled_plain : (negative : Bool) (body whole fraction : List ℕ) → length (sign_text negative ++ body) ≤ 64 → 48 ≤ get_or body 0 0 → list_all (λ b. not (is_mark b)) body ≡ true → before_first is_point body ≡ whole → after_first is_point body ≡ fraction → are_digits whole fraction ≡ true → spelling_of (sign_text negative ++ body) ≡ Some (plain negative whole fraction)
unfolding spelling_of
spelled_plain negative body whole fraction few low unmarked is_whole is_fraction digits =
    let text : List ℕ = sign_text negative ++ body in
    let short : nat_le (length text) 64 ≡ true = grind (arith, nat_tests) in
    let at = signed_text negative body low in
    ap (λ b. cond b (parts_of (starts_with_minus text) (without_leading_sign text)) None) short
    ∙ (λ i. parts_of (at.sign i) (at.rest i))
    ∙ parts_plain negative body whole fraction unmarked is_whole is_fraction digits

digits_only : (ds : List ℕ) → all_digits ds ≡ true → 0 < length ds → are_digits ds [] ≡ true
digits_only ds digits some =
    let enough : nat_le 1 (length ds + 0) ≡ true = grind (arith, nat_tests) in
    and_from (all_digits ds && true) (nat_le 1 (length ds + 0)) (and_from (all_digits ds) true digits refl) enough

-- digits alone
spelled_digits : (negative : Bool) (ds : List ℕ) → all_digits ds ≡ true → 0 < length ds → length (sign_text negative ++ ds) ≤ 64 → spelling_of (sign_text negative ++ ds) ≡ Some (plain negative ds [])
spelled_digits negative ds digits some few =
    let none : position_or_len is_point ds ≡ length ds = prefix_all (λ b. not (is_point b)) ds (digits_pass (λ b. not (is_point b)) no_point ds digits) in
    let whole : before_first is_point ds ≡ ds = ap (λ n. take n ds) none ∙ take_all (length ds) ds (omega arith) in
    let nothing : after_first is_point ds ≡ [] = drop_all (position_or_len is_point ds + 1) ds (omega arith) in
    spelled_plain negative ds ds [] few (digit_in ds 0 digits some).low (digits_pass (λ b. not (is_mark b)) no_mark ds digits) whole nothing (digits_only ds digits some)

-- digits, a point and digits
spelled_fraction : (negative : Bool) (ds fs : List ℕ) → all_digits ds ≡ true → all_digits fs ≡ true → 0 < length ds → length (sign_text negative ++ (ds ++ (46 ∷ fs))) ≤ 64 → spelling_of (sign_text negative ++ (ds ++ (46 ∷ fs))) ≡ Some (plain negative ds fs)
spelled_fraction negative ds fs digits more some few =
    let body : List ℕ = ds ++ (46 ∷ fs) in
    let front : prefix_len (λ b. not (is_point b)) ds ≡ length ds = prefix_all (λ b. not (is_point b)) ds (digits_pass (λ b. not (is_point b)) no_point ds digits) in
    let at : position_or_len is_point body ≡ length ds =
    prefix_len-append (λ b. not (is_point b)) ds (46 ∷ fs)
    ∙ ap (λ b. cond b (length ds + 0) (prefix_len (λ b. not (is_point b)) ds)) (eq-eqb (prefix_len (λ b. not (is_point b)) ds) (length ds) front) ∙ omega arith in
    let whole : before_first is_point body ≡ ds = ap (λ n. take n body) at ∙ take_at ds (46 ∷ fs) (length ds) refl in
    let joined : (ds ++ (46 ∷ [])) ++ fs ≡ body = append_assoc ds (46 ∷ []) fs in
    let fraction : after_first is_point body ≡ fs =
    ap (λ n. drop (n + 1) body) at ∙ ap (λ xs. drop (length ds + 1) xs) (sym joined) ∙ drop_at (ds ++ (46 ∷ [])) fs (length ds + 1) (length-append ds (46 ∷ [])) in
    let first : 48 ≤ get_or body 0 0 = omega (arith, get_or_append_left ds (46 ∷ fs) 0 0 some, (digit_in ds 0 digits some).low) in
    let unmarked : list_all (λ b. not (is_mark b)) body ≡ true =
    list_all-append (λ b. not (is_mark b)) ds (46 ∷ fs)
    ∙ and_from (list_all (λ b. not (is_mark b)) ds) (list_all (λ b. not (is_mark b)) (46 ∷ fs)) (digits_pass (λ b. not (is_mark b)) no_mark ds digits) (digits_pass (λ b. not (is_mark b)) no_mark fs more) in
    let enough : nat_le 1 (length ds + length fs) ≡ true = grind (arith, nat_tests) in
    spelled_plain negative body ds fs few first unmarked whole fraction
    (and_from (all_digits ds && all_digits fs) (nat_le 1 (length ds + length fs)) (and_from (all_digits ds) (all_digits fs) digits more) enough)

-- a number by its sign and its size
sign_of : (z : ℤ) → signed (is_negative z) (nat_abs z) ≡ z
sign_of (pos n) = ap (λ b. cond b (neg_ℤ (pos n)) (pos n)) (le-ltb n 0 (omega arith))
sign_of (negsuc n) = refl

text_of : (z : ℤ) → signed_decimal z ≡ sign_text (is_negative z) ++ decimal (nat_abs z)
text_of (pos n) = sym (ap (λ b. sign_text b ++ decimal n) (le-ltb n 0 (omega arith)))
text_of (negsuc n) = refl

length-sign : (negative : Bool) → length (sign_text negative) ≤ 1
length-sign true = omega arith
length-sign false = omega arith

-- a printed whole number is read back
pub whole_reads_back : (z : ℤ) → nat_abs z ≤ 999999999 → whole_of (signed_decimal z) ≡ Ok z
unfolding whole_of
whole_reads_back z within =
    let n : ℕ = nat_abs z in
    let ds : List ℕ = decimal n in
    let fits : n < 2 ^ 64 = omega arith in
    let digits : all_digits ds ≡ true = digits_decimal own n fits in
    let some : 0 < length ds = decimal_nonempty n fits in
    let few : length (sign_text (is_negative z) ++ ds) ≤ 64 =
    omega (arith, length-append (sign_text (is_negative z)) ds, length-sign (is_negative z), length-decimal-le 9 n (omega arith) (omega arith) fits) in
    let s : Spelling = plain (is_negative z) ds [] in
    let found : spelling_of (signed_decimal z) ≡ Some s = ap spelling_of (text_of z) ∙ spelled_digits (is_negative z) ds digits some few in
    let value : numerator s ≡ n = omega (arith, ap (digits_value 10) (append-nil ds), digits_value-decimal own n fits) in
    ap whole_value found ∙ whole_within s n (omega (arith, value)) (mod-one (numerator s)) (div-one (numerator s) ∙ value) ∙ ap Ok (sign_of z)

-- the zeros at the end are zeros
end_zeros : (ds : List ℕ) → list_all is_zero_digit (drop (length ds - suffix_len is_zero_digit ds) ds) ≡ true
end_zeros ds = list_all-from_AllPass is_zero_digit (drop (length ds - suffix_len is_zero_digit ds) ds) (λ i d in_list. each i d (omega (arith, length-drop (length ds - suffix_len is_zero_digit ds) ds)))
  where
    each : (i d : ℕ) → i < suffix_len is_zero_digit ds → is_zero_digit (get_or (drop (length ds - suffix_len is_zero_digit ds) ds) i d) ≡ true
    each i d below =
        let s : ℕ = suffix_len is_zero_digit ds in
        let most : s ≤ length ds = suffix_len-le-length is_zero_digit ds in
        let back : ℕ = s - 1 - i in
        let place : length ds - s + i ≡ length ds - 1 - back = omega arith in
        ap is_zero_digit (get_or-drop (length ds - s) ds i d ∙ ap (λ n. get_or ds n d) place ∙ sym (get_or-reverse ds back d (omega arith)))
        ∙ prefix_len_passes is_zero_digit (reverse ds) back d (omega arith)

-- digits and what is left of them without the zeros at their end
record IsTrimmed (ds : List ℕ) (k : ℕ) : Type 0 where
  digits : all_digits (significant ds) ≡ true
  long : length (significant ds) + k ≡ length ds
  value : digits_value 10 ds ≡ digits_value 10 (significant ds) * 10 ^ k

trimmed : (ds : List ℕ) → all_digits ds ≡ true → IsTrimmed ds (suffix_len is_zero_digit ds)
trimmed ds digits =
    let k : ℕ = suffix_len is_zero_digit ds in
    let n : ℕ = length ds - k in
    let most : k ≤ length ds = suffix_len-le-length is_zero_digit ds in
    let rest : length (drop n ds) ≡ k = omega (arith, length-drop n ds) in
    let none : digits_value 10 (drop n ds) ≡ 0 = zeros-value (drop n ds) (end_zeros ds) in
    record {
      digits = all_digits-take n ds digits;
      long = omega (arith, length-take n ds);
      value = sym (ap (digits_value 10) (take-append-drop n ds)) ∙ value-append (take n ds) (drop n ds) ∙ ap (λ m. digits_value 10 (take n ds) * 10 ^ m + digits_value 10 (drop n ds)) rest ∙ omega (arith, none);
    }

-- the six digits of a number below a million
record IsSix (n : ℕ) (ds : List ℕ) : Type 0 where
  digits : all_digits ds ≡ true
  long : length ds ≡ 6
  value : digits_value 10 ds ≡ n

six_behind : (n : ℕ) (ds : List ℕ) → all_digits ds ≡ true → length ds ≡ 7 → digits_value 10 ds ≡ 1000000 + n → n < 1000000 → IsSix n (drop 1 ds)
six_behind n [] digits long value below = absurd (omega arith)
six_behind n (d ∷ ds) digits long value below =
    let rest : all_digits ds ≡ true = (and_parts (is_ascii_digit d) (all_digits ds) digits).1 in
    let six : length ds ≡ 6 = omega arith in
    let sum : digits_value 10 (d ∷ ds) ≡ (0 * 10 + digit_value d) * 10 ^ length ds + digits_value 10 ds = after_is (0 * 10 + digit_value d) ds in
    let shifted : (0 * 10 + digit_value d) * 10 ^ length ds ≡ (0 * 10 + digit_value d) * 1000000 = ap (λ m. (0 * 10 + digit_value d) * 10 ^ m) six in
    let small : digits_value 10 ds < 10 ^ 6 = digits_value_short own ds 6 rest (omega arith) in
    record { digits = rest; long = six; value = omega arith }

six_of : (n : ℕ) → n < 1000000 → IsSix n (six_digits n)
six_of n below =
    let m : ℕ = 1000000 + n in
    let ds : List ℕ = decimal m in
    let fits : m < 2 ^ 64 = omega arith in
    let digits : all_digits ds ≡ true = digits_decimal own m fits in
    let value : digits_value 10 ds ≡ m = digits_value-decimal own m fits in
    let most : length ds ≤ 7 = length-decimal-le 7 m (omega arith) (omega arith) fits in
    let long : length ds ≡ 7 = elim (cases_lt (length ds) 7) [
      | inl short ↦ let few : digits_value 10 ds < 10 ^ 6 = digits_value_short own ds 6 digits (omega arith) in absurd (omega arith)
      | inr enough ↦ omega arith
    ] in
    six_behind n ds digits long value below

-- the value of a whole part and six digits without the zeros at their end
fraction_value : (n k v w f : ℕ) → f + k ≡ 6 → v * 10 ^ k ≡ n % 1000000 → w ≡ n / 1000000 * 10 ^ f + v → w * 10 ^ k ≡ n
fraction_value n k v w f six value is =
    let million : 10 ^ f * 10 ^ k ≡ 1000000 = sym (pow-add 10 f k) ∙ ap (λ m. 10 ^ m) six in
    let front : n / 1000000 * 10 ^ f * 10 ^ k ≡ n / 1000000 * 1000000 = omega (arith, ap (λ m. n / 1000000 * m) million) in
    ap (λ m. m * 10 ^ k) is ∙ omega (arith, front, value, div-add-mod' n 1000000)

fraction_size : (o u w f k n : ℕ) → f + k ≡ 6 → w * 10 ^ k ≡ n → o ≡ w → u ≡ 10 ^ f → n ≤ 10 ^ 18 → (o ≤ 10 ^ 12 * u) × (o * 10 ^ 6 / u ≡ n)
fraction_size o u w f k n six size is_over is_under within =
    let million : 10 ^ f * 10 ^ k ≡ 10 ^ 6 = sym (pow-add 10 f k) ∙ ap (λ m. 10 ^ m) six in
    let wide : w * 10 ^ k ≤ 10 ^ 12 * 10 ^ f * 10 ^ k = omega (arith, million, size) in
    let low : w ≤ 10 ^ 12 * 10 ^ f = le_of_mul-le-mul_right wide (pow-some k) in
    let top : o * 10 ^ 6 ≡ n * 10 ^ f = ap (λ m. m * 10 ^ 6) is_over ∙ ap (λ m. w * m) (sym million) ∙ omega arith ∙ ap (λ m. m * 10 ^ f) size in (
      omega (arith, low, is_over, is_under),
      (λ i. top i / is_under i) ∙ mul-div_cancel n (pow-some f),
    )

module _ (negative : Bool) (n : ℕ) (within : n ≤ 10 ^ 18) where
  w_fits : n / 1000000 < 2 ^ 64
  w_fits = omega arith

  w_digits : all_digits (decimal (n / 1000000)) ≡ true
  w_digits = digits_decimal own (n / 1000000) w_fits

  w_some : 0 < length (decimal (n / 1000000))
  w_some = decimal_nonempty (n / 1000000) w_fits

  w_few : length (decimal (n / 1000000)) ≤ 13
  w_few = length-decimal-le 13 (n / 1000000) (omega arith) (omega arith) w_fits

  micro_whole : n % 1000000 ≡ 0 → micro_of (sign_text negative ++ (decimal (n / 1000000) ++ [])) ≡ Ok (signed negative n)
  unfolding micro_of
  micro_whole none =
      let ds : List ℕ = decimal (n / 1000000) in
      let few : length (sign_text negative ++ ds) ≤ 64 = omega (arith, length-append (sign_text negative) ds, length-sign negative, w_few) in
      let s : Spelling = plain negative ds [] in
      let found : spelling_of (sign_text negative ++ (ds ++ [])) ≡ Some s = ap (λ xs. spelling_of (sign_text negative ++ xs)) (append-nil ds) ∙ spelled_digits negative ds w_digits w_some few in
      let value : numerator s ≡ n / 1000000 = omega (arith, ap (digits_value 10) (append-nil ds), digits_value-decimal own (n / 1000000) w_fits) in
      ap micro_value found ∙ micro_within s n (omega (arith, value)) (div-one (numerator s * 10 ^ 6) ∙ omega (arith, value, div-add-mod' n 1000000))

  micro_parts : (n % 1000000 ≡ 0 → ⊥) → micro_of (sign_text negative ++ (decimal (n / 1000000) ++ (46 ∷ significant (six_digits (n % 1000000))))) ≡ Ok (signed negative n)
  unfolding micro_of
  micro_parts some =
      let ds : List ℕ = decimal (n / 1000000) in
      let six : IsSix (n % 1000000) (six_digits (n % 1000000)) = six_of (n % 1000000) (omega arith) in
      let k : ℕ = suffix_len is_zero_digit (six_digits (n % 1000000)) in
      let cut : IsTrimmed (six_digits (n % 1000000)) k = trimmed (six_digits (n % 1000000)) six.digits in
      let fs : List ℕ = significant (six_digits (n % 1000000)) in
      let f : ℕ = length fs in
      let long : f + k ≡ 6 = omega (arith, cut.long, six.long) in
      let few : length (sign_text negative ++ (ds ++ (46 ∷ fs))) ≤ 64 =
      omega (arith, length-append (sign_text negative) (ds ++ (46 ∷ fs)), length-append ds (46 ∷ fs), length-sign negative, w_few) in
      let s : Spelling = plain negative ds fs in
      let found : spelling_of (sign_text negative ++ (ds ++ (46 ∷ fs))) ≡ Some s = spelled_fraction negative ds fs w_digits cut.digits w_some few in
      let w : ℕ = digits_value 10 (ds ++ fs) in
      let front : digits_value 10 ds * 10 ^ f ≡ n / 1000000 * 10 ^ f = ap (λ m. m * 10 ^ f) (digits_value-decimal own (n / 1000000) w_fits) in
      let joined : w ≡ n / 1000000 * 10 ^ f + digits_value 10 fs = value-append ds fs ∙ omega (arith, front) in
      let size : w * 10 ^ k ≡ n = fraction_value n k (digits_value 10 fs) w f long (sym cut.value ∙ six.value) joined in
      let value = fraction_size (numerator s) (denominator s) w f k n long size (omega arith) (ap (λ m. 10 ^ m) (omega arith)) within in
      ap micro_value found ∙ micro_within s n value.0 value.1

-- a printed number of millionths is read back
pub micro_reads_back : (z : ℤ) → nat_abs z ≤ 10 ^ 18 → micro_of (micro_text z) ≡ Ok z
unfolding micro_text
micro_reads_back z within = elim (cases_eq (nat_abs z % 1000000) 0) [
  | inl none ↦
      ap (λ b. micro_of (sign_text (is_negative z) ++ (decimal (nat_abs z / 1000000) ++ cond b [] (46 ∷ significant (six_digits (nat_abs z % 1000000)))))) (eq-eqb (nat_abs z % 1000000) 0 none)
      ∙ micro_whole (is_negative z) (nat_abs z) within none ∙ ap Ok (sign_of z)
  | inr some ↦
      ap (λ b. micro_of (sign_text (is_negative z) ++ (decimal (nat_abs z / 1000000) ++ cond b [] (46 ∷ significant (six_digits (nat_abs z % 1000000)))))) (ne_eqb (nat_abs z % 1000000) 0 some)
      ∙ micro_parts (is_negative z) (nat_abs z) within some ∙ ap Ok (sign_of z)
]

-- some bytes, of those that numbers have, and at most 64
pub record IsNumberText (text : List ℕ) : Type 0 where
  pub some : 1 ≤ length text
  pub few : length text ≤ 64
  pub bytes : list_all is_number_byte text ≡ true

sign_bytes : (negative : Bool) → list_all is_number_byte (sign_text negative) ≡ true
sign_bytes true = refl
sign_bytes false = refl

digit_bytes : (ds : List ℕ) → all_digits ds ≡ true → list_all is_number_byte ds ≡ true
digit_bytes ds digits = digits_pass is_number_byte number_byte ds digits

-- a printed whole number has the bytes of one
pub whole_text_is : (z : ℤ) → nat_abs z < 2 ^ 64 → IsNumberText (signed_decimal z)
whole_text_is z fits =
    let sign : List ℕ = sign_text (is_negative z) in
    let ds : List ℕ = decimal (nat_abs z) in
    let long : length (sign ++ ds) ≡ length sign + length ds = length-append sign ds in
    let most : length ds ≤ 20 = length-decimal-le 20 (nat_abs z) (omega arith) (omega arith) fits in
    let bytes : list_all is_number_byte (sign ++ ds) ≡ true =
    list_all-append is_number_byte sign ds ∙ and_from (list_all is_number_byte sign) (list_all is_number_byte ds) (sign_bytes (is_negative z)) (digit_bytes ds (digits_decimal own (nat_abs z) fits)) in
    subst IsNumberText (sym (text_of z)) (record { some = omega (arith, decimal_nonempty (nat_abs z) fits); few = omega (arith, length-sign (is_negative z)); bytes = bytes })

-- the point and the millionths
record IsTail (text : List ℕ) : Type 0 where
  few : length text ≤ 7
  bytes : list_all is_number_byte text ≡ true

tail_of : (n : ℕ) → n < 1000000 → IsTail (fraction_text n)
tail_of n below = elim (cases_eq n 0) [
  | inl none ↦ subst IsTail (sym (ap (λ b. cond b [] (46 ∷ significant (six_digits n))) (eq-eqb n 0 none))) (record { few = omega arith; bytes = refl })
  | inr some ↦
      let six : IsSix n (six_digits n) = six_of n below in
      let cut : IsTrimmed (six_digits n) (suffix_len is_zero_digit (six_digits n)) = trimmed (six_digits n) six.digits in
      subst IsTail (sym (ap (λ b. cond b [] (46 ∷ significant (six_digits n))) (ne_eqb n 0 some)))
      (record { few = omega (arith, cut.long, six.long); bytes = digit_bytes (significant (six_digits n)) cut.digits })
]

-- a printed number of millionths has the bytes of one
pub micro_text_is : (z : ℤ) → nat_abs z < 2 ^ 64 → IsNumberText (micro_text z)
unfolding micro_text
micro_text_is z fits =
    let n : ℕ = nat_abs z in
    let w : ℕ = n / 1000000 in
    let sign : List ℕ = sign_text (is_negative z) in
    let ds : List ℕ = decimal w in
    let last : List ℕ = fraction_text (n % 1000000) in
    let tail : IsTail last = tail_of (n % 1000000) (omega arith) in
    let small : w < 2 ^ 64 = omega arith in
    let most : length ds ≤ 20 = length-decimal-le 20 w (omega arith) (omega arith) small in
    let long : length (sign ++ (ds ++ last)) ≡ length sign + (length ds + length last) = omega (arith, length-append sign (ds ++ last), length-append ds last) in
    let behind : list_all is_number_byte (ds ++ last) ≡ true =
    list_all-append is_number_byte ds last ∙ and_from (list_all is_number_byte ds) (list_all is_number_byte last) (digit_bytes ds (digits_decimal own w small)) tail.bytes in
    record {
      some = omega (arith, decimal_nonempty w small);
      few = omega (arith, length-sign (is_negative z), tail.few);
      bytes = list_all-append is_number_byte sign (ds ++ last) ∙ and_from (list_all is_number_byte sign) (list_all is_number_byte (ds ++ last)) (sign_bytes (is_negative z)) behind;
    }
