-- The spelling of decimal numbers, the value that a spelling has, what is read from it, and the text of a number in millionths.
use Rattle.std.specs.Prelude.{◌≡◌, ℕ, ◌≤◌, true, ◌+◌, ◌-◌, ◌*◌, ◌/◌, ◌%◌, ◌^◌, Bool, ◌&&◌, ◌||◌, ◌==◌, nat_lt, nat_le, List, [], ◌∷◌, ◌++◌, length, take, drop, ℤ, pos, neg_ℤ, nat_abs, Option, Some, None, Result, Ok, Err, if◌then◌else◌, option_map, decimal}
use Rattle.std.specs.Int.{is_negative}
use Rattle.std.specs.List.{before_first, after_first, position, suffix_len, list_all}
use Rattle.std.specs.Char.{is_ascii_digit}
use Rattle.std.specs.Str.Parse.{digits_value, starts_with_minus, without_leading_sign}
use Rattle.mp_number.specs.declared.number.NumberFault.{NumberFault}
use Rattle.mp_number.specs.declared.number.NumberFault.TheVariants.{NotNumber, OutOfRange, NotWhole}
use Rattle.mp_number.specs.declared.spelling.Moves.{Moves}

-- `0` to `9` and nothing else
abbrev pub all_digits : List ℕ → Bool
all_digits text = list_all is_ascii_digit text

-- one to `most` digits
abbrev pub are_few_digits : ℕ → List ℕ → Bool
are_few_digits most text = all_digits text && (nat_le 1 (length text) && nat_le (length text) most)

-- the number that one to `most` digits write
unfoldable pub short_number : ℕ → List ℕ → Option ℕ
short_number most text = if are_few_digits most text then Some (digits_value 10 text) else None

-- `.`
abbrev pub is_point : ℕ → Bool
is_point b = b == 46

-- `e`, `E`, `d` or `D`
abbrev pub is_mark : ℕ → Bool
is_mark b = (b == 101 || b == 69) || (b == 100 || b == 68)

-- the parts of a spelling: a minus or none, the digits before the point and after it, and how far the exponent moves the point
pub record Spelling : Type 0 where
  pub negative : Bool
  pub whole : List ℕ
  pub fraction : List ℕ
  pub moves : Moves

-- what stands behind the first mark, if there is one
abbrev pub exponent_in : List ℕ → Option (List ℕ)
exponent_in text = option_map (λ i. drop (i + 1) text) (position is_mark text)

-- to the right, or to the left where the exponent has a minus
abbrev pub moved_by : Bool → ℕ → Moves
moved_by back n = if back then record { right = 0; left = n } else record { right = n; left = 0 }

-- how far the point moves: not at all without an exponent, and nothing where the exponent isn't a sign or none and one to three digits
abbrev pub moves_of : Option (List ℕ) → Option Moves
moves_of None = Some (record { right = 0; left = 0 })
moves_of (Some text) = option_map (moved_by (starts_with_minus text)) (short_number 3 (without_leading_sign text))

-- digits on both sides of the point, and at least one in all
abbrev pub are_digits : List ℕ → List ℕ → Bool
are_digits whole fraction = (all_digits whole && all_digits fraction) && nat_le 1 (length whole + length fraction)

-- the parts of a text of digits, a point and an exponent, where it is one
abbrev pub parts_of : Bool → List ℕ → Option Spelling
parts_of negative text =
    let mantissa = before_first is_mark text in
    let whole = before_first is_point mantissa in
    let fraction = after_first is_point mantissa in
    if are_digits whole fraction then option_map (λ moves. record { negative = negative; whole = whole; fraction = fraction; moves = moves }) (moves_of (exponent_in text)) else None

-- the parts of a number: a sign or none, digits with at most one point, an exponent or none, in at most 64 bytes
unfoldable pub spelling_of : List ℕ → Option Spelling
spelling_of text = if nat_le (length text) 64 then parts_of (starts_with_minus text) (without_leading_sign text) else None

-- a spelling that a text of at most 64 bytes has
pub record IsSpelling (s : Spelling) : Type 0 where
  pub whole : all_digits s.whole ≡ true
  pub fraction : all_digits s.fraction ≡ true
  pub few : s.moves.right + s.moves.left ≤ 999

-- A number's size is a fraction: the digits, and ten for each place to the right, above ten for each digit behind the point and each place to the left.
abbrev pub numerator : Spelling → ℕ
numerator s = digits_value 10 (s.whole ++ s.fraction) * 10 ^ s.moves.right

abbrev pub denominator : Spelling → ℕ
denominator s = 10 ^ (length s.fraction + s.moves.left)

-- the size is above this
abbrev pub exceeds : Spelling → ℕ → Bool
exceeds s limit = nat_lt (limit * denominator s) (numerator s)

-- the number of a sign and a size
abbrev pub signed : Bool → ℕ → ℤ
signed negative n = if negative then neg_ℤ (pos n) else pos n

-- the whole number of a spelling, from -999,999,999 to 999,999,999
abbrev pub whole_value : Option Spelling → Result ℤ NumberFault
whole_value None = Err NotNumber
whole_value (Some s) =
    if exceeds s 999999999 then Err OutOfRange else if numerator s % denominator s == 0 then Ok (signed s.negative (numerator s / denominator s)) else Err NotWhole

-- the number of a spelling in millionths, from -10^12 to 10^12 before that, with further decimals dropped
abbrev pub micro_value : Option Spelling → Result ℤ NumberFault
micro_value None = Err NotNumber
micro_value (Some s) = if exceeds s (10 ^ 12) then Err OutOfRange else Ok (signed s.negative (numerator s * 10 ^ 6 / denominator s))

-- what is read from a text as a whole number
unfoldable pub whole_of : List ℕ → Result ℤ NumberFault
whole_of text = whole_value (spelling_of text)

-- what is read from a text in millionths
unfoldable pub micro_of : List ℕ → Result ℤ NumberFault
micro_of text = micro_value (spelling_of text)

-- `0`
abbrev pub is_zero_digit : ℕ → Bool
is_zero_digit b = b == 48

-- the digits without the zeros at their end
abbrev pub significant : List ℕ → List ℕ
significant ds = take (length ds - suffix_len is_zero_digit ds) ds

-- the six digits of a number below a million
abbrev pub six_digits : ℕ → List ℕ
six_digits n = drop 1 (decimal (1000000 + n))

-- a point and so many millionths, or nothing where there are none
abbrev pub fraction_text : ℕ → List ℕ
fraction_text n = if n == 0 then [] else 46 ∷ significant (six_digits n)

-- a minus or nothing
abbrev pub sign_text : Bool → List ℕ
sign_text negative = if negative then 45 ∷ [] else []

-- the bytes that a printed number has: `-`, `.` and the digits
abbrev pub is_number_byte : ℕ → Bool
is_number_byte b = (b == 45 || b == 46) || is_ascii_digit b

-- a number in millionths as it is printed
unfoldable pub micro_text : ℤ → List ℕ
micro_text z = sign_text (is_negative z) ++ (decimal (nat_abs z / 1000000) ++ fraction_text (nat_abs z % 1000000))
