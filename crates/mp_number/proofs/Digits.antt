-- Decimal digits and what they are worth.
use Rattle.std.proofs.Common.{◌≡◌, ℕ, ◌+◌, ◌*◌, ◌^◌, ◌<◌, ◌≤◌, min, true, ◌&&◌, List, [], ◌∷◌, ◌++◌, length, take, drop, get_or, refl, ap, sym, ◌∙◌, arith, rules, inl, inr}
use Rattle.std.specs.Char.{digit_value, is_ascii_digit}
use Rattle.std.specs.Int.{IsInRange}
use Rattle.std.specs.List.{list_all}
use Rattle.std.specs.Str.Parse.{digits_value, digits_value_after}
use Rattle.std.proofs.Math.Nat.{pow-suc, one-le-pow, le-mul_of_pos_right}
use Rattle.std.proofs.lemmas.Bool.{and_parts, and_from, cases_lt, eq-eqb, eqb-true}
use Rattle.std.proofs.lemmas.Int.Digits.{digits_value-lt}
use Rattle.std.proofs.lemmas.List.{take_more, take-append-drop}
use Rattle.std.proofs.lemmas.List.Folds.{list_all-append}
use Rattle.std.proofs.lemmas.Str.{digit_value_digit}
use Rattle.std.proofs.lemmas.Str.Parse.{IsDigitsTest, IsNumeralModel, numerals_by_value, digit_at}
use Rattle.mp_number.specs.Number.{all_digits, is_zero_digit}

pub tells_digits : IsDigitsTest (λ ds. all_digits ds ≡ true)
tells_digits = search rules

pub own : IsNumeralModel (λ ds. all_digits ds ≡ true) (digits_value 10)
own = numerals_by_value (λ ds. all_digits ds ≡ true) tells_digits

-- a digit's byte, and what it is worth
pub record IsDigit (b : ℕ) : Type 0 where
  pub low : 48 ≤ b
  pub high : b ≤ 57
  pub worth : digit_value b + 48 ≡ b

digit_of : (b : ℕ) → IsInRange 48 57 b → IsDigit b
digit_of b within = record { low = omega arith; high = omega arith; worth = digit_value_digit b within }

pub digit_in : (ds : List ℕ) (i : ℕ) → all_digits ds ≡ true → i < length ds → IsDigit (get_or ds i 0)
digit_in ds i digits in_list = digit_of (get_or ds i 0) (digit_at ds i (own.to ds digits) in_list)

pub after-append : (n : ℕ) (xs ys : List ℕ) → digits_value_after 10 n (xs ++ ys) ≡ digits_value_after 10 (digits_value_after 10 n xs) ys
after-append n [] ys = refl
after-append n (x ∷ xs) ys = after-append (n * 10 + digit_value x) xs ys

-- one more digit
pub after_more : (n : ℕ) (ds : List ℕ) (i : ℕ) → i < length ds → digits_value_after 10 n (take (i + 1) ds) ≡ digits_value_after 10 n (take i ds) * 10 + digit_value (get_or ds i 0)
after_more n ds i in_list = ap (digits_value_after 10 n) (take_more ds i 0 in_list) ∙ after-append n (take i ds) (get_or ds i 0 ∷ [])

-- the number in front counts ten for each digit
pub after_is : (n : ℕ) (xs : List ℕ) → digits_value_after 10 n xs ≡ n * 10 ^ length xs + digits_value 10 xs
after_is n [] = omega arith
after_is n (x ∷ xs) =
    let k : ℕ = 10 ^ length xs in
    let first : digits_value 10 (x ∷ xs) ≡ (0 * 10 + digit_value x) * k + digits_value 10 xs = after_is (0 * 10 + digit_value x) xs in
    let more : n * 10 ^ length (x ∷ xs) ≡ n * (k * 10) = ap (λ m. n * m) (pow-suc 10 (length xs)) in
    let here : (n * 10 + digit_value x) * k + digits_value 10 xs ≡ n * 10 ^ length (x ∷ xs) + digits_value 10 (x ∷ xs) = omega (arith, first, more) in
    after_is (n * 10 + digit_value x) xs ∙ here

pub value-append : (xs ys : List ℕ) → digits_value 10 (xs ++ ys) ≡ digits_value 10 xs * 10 ^ length ys + digits_value 10 ys
value-append xs ys = after-append 0 xs ys ∙ after_is (digits_value 10 xs) ys

pub value-below : (ds : List ℕ) → all_digits ds ≡ true → digits_value 10 ds < 10 ^ length ds
value-below ds digits = digits_value-lt 10 ds (own.to ds digits)

-- digits that are worth nothing are zeros
pub zeros-value : (ds : List ℕ) → list_all is_zero_digit ds ≡ true → digits_value 10 ds ≡ 0
zeros-value [] zeros = refl
zeros-value (d ∷ ds) zeros =
    let parts = and_parts (is_zero_digit d) (list_all is_zero_digit ds) zeros in
    let same : d ≡ 48 = eqb-true d 48 parts.0 in
    let none : digit_value d ≡ 0 = ap digit_value same in
    ap (λ n. digits_value_after 10 (0 * 10 + n) ds) none ∙ zeros-value ds parts.1

pub value-zeros : (ds : List ℕ) → all_digits ds ≡ true → digits_value 10 ds ≡ 0 → list_all is_zero_digit ds ≡ true
value-zeros [] digits none = refl
value-zeros (d ∷ ds) digits none =
    let parts = and_parts (is_ascii_digit d) (list_all is_ascii_digit ds) digits in
    let here : IsDigit d = digit_in (d ∷ ds) 0 digits (omega arith) in
    let sum : digits_value 10 (d ∷ ds) ≡ (0 * 10 + digit_value d) * 10 ^ length ds + digits_value 10 ds = after_is (0 * 10 + digit_value d) ds in
    let least : digit_value d ≤ digit_value d * 10 ^ length ds = le-mul_of_pos_right (digit_value d) (one-le-pow (length ds) 10 (omega arith)) in
    let first : d ≡ 48 = omega (arith, here.worth) in
    let rest : digits_value 10 ds ≡ 0 = omega arith in
    and_from (is_zero_digit d) (list_all is_zero_digit ds) (eq-eqb d 48 first) (value-zeros ds parts.1 rest)

pub all_digits-append : (xs ys : List ℕ) → all_digits xs ≡ true → all_digits ys ≡ true → all_digits (xs ++ ys) ≡ true
all_digits-append xs ys of_xs of_ys = list_all-append is_ascii_digit xs ys ∙ and_from (all_digits xs) (all_digits ys) of_xs of_ys

pub all_digits-drop : (n : ℕ) (ds : List ℕ) → all_digits ds ≡ true → all_digits (drop n ds) ≡ true
all_digits-drop n ds digits =
    let split : (all_digits (take n ds) && all_digits (drop n ds)) ≡ true = sym (list_all-append is_ascii_digit (take n ds) (drop n ds)) ∙ ap all_digits (take-append-drop n ds) ∙ digits in
    (and_parts (all_digits (take n ds)) (all_digits (drop n ds)) split).1

pub all_digits-take : (n : ℕ) (ds : List ℕ) → all_digits ds ≡ true → all_digits (take n ds) ≡ true
all_digits-take n ds digits =
    let split : (all_digits (take n ds) && all_digits (drop n ds)) ≡ true = sym (list_all-append is_ascii_digit (take n ds) (drop n ds)) ∙ ap all_digits (take-append-drop n ds) ∙ digits in
    (and_parts (all_digits (take n ds)) (all_digits (drop n ds)) split).0

-- a cap on the number before more digits or a product doesn't change what the cap leaves of them
pub min-after : (cap n : ℕ) (ds : List ℕ) → min cap (digits_value_after 10 (min cap n) ds) ≡ min cap (digits_value_after 10 n ds)
min-after cap n [] = omega arith
min-after cap n (d ∷ ds) =
    let same : min cap (min cap n * 10 + digit_value d) ≡ min cap (n * 10 + digit_value d) = omega arith in
    sym (min-after cap (min cap n * 10 + digit_value d) ds) ∙ ap (λ m. min cap (digits_value_after 10 m ds)) same ∙ min-after cap (n * 10 + digit_value d) ds

pub min-mul : (cap n k : ℕ) → 0 < k → min cap (min cap n * k) ≡ min cap (n * k)
min-mul cap n k some = elim (cases_lt n cap) [
  | inl below ↦
      let same : min cap n ≡ n = omega arith in
      ap (λ m. min cap (m * k)) same
  | inr above ↦
      let same : min cap n ≡ cap = omega arith in
      let more : cap ≤ cap * k = le-mul_of_pos_right cap some in
      let most : n ≤ n * k = le-mul_of_pos_right n some in
      let both : min cap (cap * k) ≡ min cap (n * k) = omega arith in
      ap (λ m. min cap (m * k)) same ∙ both
]
