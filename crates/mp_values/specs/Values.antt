-- What a value's text stands for, by the form of its key.
use Rattle.std.specs.Prelude.{ℕ, ◌-◌, ◌^◌, Bool, true, false, not, ◌&&◌, ◌||◌, ◌==◌, nat_lt, nat_le, List, [], ◌∷◌, length, ℤ, pos, negsuc, nat_abs, Option, Some, None, Result, Ok, Err, option_map, option_and_then, if◌then◌else◌, slice_index, codes}
use Rattle.std.specs.List.{list_all, list_any}
use Rattle.std.specs.Ordering.{int_eq}
use Rattle.std.specs.Result.{result_ok}
use Rattle.std.specs.Str.{bytes_eq}
use Rattle.mp_base.specs.Grid.{Sides, cells_of}
use Rattle.mp_base.specs.Number.{whole_of, micro_of, short_number}
use Rattle.mp_text.specs.Fields.{fields_of, is_visible}
use Rattle.mp_values.specs.declared.choice.StoreChoice.{StoreChoice}
use Rattle.mp_values.specs.declared.choice.StoreChoice.TheVariants.{Tree, List as Listed}

-- a tab or a printable byte of ASCII
abbrev pub is_line_byte : ℕ → Bool
is_line_byte b = b == 9 || (nat_le 32 b && nat_le b 126)

-- 1 to 255 bytes that a line may hold, with no blank at either end
abbrev pub is_name : List ℕ → Bool
is_name text = (nat_le 1 (length text) && nat_le (length text) 255) && (list_all is_line_byte text && (is_visible (slice_index text 0) && is_visible (slice_index text (length text - 1))))

-- a name, where the text is one
abbrev pub name_of : List ℕ → Option (List ℕ)
name_of text = if is_name text then Some text else None

abbrev pub is_between : ℕ → ℕ → ℕ → Bool
is_between low high n = nat_le low n && nat_le n high

-- a number, where it is one from low to high
abbrev pub within : {E : Type 0} → ℕ → ℕ → Result ℤ E → Option ℕ
within low high (Ok (pos n)) = if is_between low high n then Some n else None
within low high (Ok (negsuc n)) = None
within low high (Err e) = None

-- the number of a text, where it is one from low to high
unfoldable pub number_in : ℕ → ℕ → List ℕ → Option ℕ
number_in low high text = within low high (whole_of text)

-- the code of a text
unfoldable pub code_of : List ℕ → Option ℤ
code_of text = result_ok (whole_of text)

-- the coordinate of a text, in millionths
unfoldable pub coordinate_of : List ℕ → Option ℤ
coordinate_of text = result_ok (micro_of text)

-- from -999999999 to 999999999, as every number that is read
abbrev pub is_number : ℤ → Bool
is_number z = nat_le (nat_abs z) 999999999

-- from -10 ^ 18 to 10 ^ 18 millionths, as every coordinate that is read
abbrev pub is_coordinate : ℤ → Bool
is_coordinate z = nat_le (nat_abs z) (10 ^ 18)

-- what is read of each of some fields, where something is read of all of them
abbrev pub all_read : {X : Type 0} → (List ℕ → Option X) → List (List ℕ) → Option (List X)
all_read read [] = Some []
all_read read (f ∷ fs) = option_and_then (λ x. option_map (λ xs. x ∷ xs) (all_read read fs)) (read f)

-- the same of the fields of a text, which are at most eight
unfoldable pub few_read : {X : Type 0} → (List ℕ → Option X) → List ℕ → Option (List X)
few_read read text = if nat_le (length (fields_of text)) 8 then all_read read (fields_of text) else None

-- where they pass
abbrev pub where_so : {X : Type 0} → (X → Bool) → X → Option X
where_so test x = if test x then Some x else None

abbrev pub has_length : {X : Type 0} → ℕ → List X → Bool
has_length n xs = length xs == n

-- sides that a grid may have
abbrev pub is_shape : Sides → Bool
is_shape s = (nat_le 1 s.nx && (nat_le 1 s.ny && nat_le 1 s.nz)) && nat_le (cells_of s) (2 ^ 20)

-- three numbers as sides
abbrev pub as_sides : List ℕ → Sides
as_sides ns = record { nx = slice_index ns 0; ny = slice_index ns 1; nz = slice_index ns 2 }

abbrev pub are_sides : List ℕ → Bool
are_sides ns = has_length 3 ns && is_shape (as_sides ns)

-- three numbers, each at least 1, with a product of at most 2 ^ 20
abbrev pub shape_of : List ℕ → Option Sides
shape_of text = option_map as_sides (option_and_then (where_so are_sides) (few_read (number_in 0 999999999) text))

abbrev pub is_code : ℤ → List ℤ → Bool
is_code c codes = list_any (λ x. int_eq x c) codes

-- no number stands twice
abbrev pub are_distinct : List ℤ → Bool
are_distinct [] = true
are_distinct (c ∷ cs) = not (is_code c cs) && are_distinct cs

abbrev pub are_codes : List ℤ → Bool
are_codes cs = nat_le 1 (length cs) && are_distinct cs

-- one to eight different numbers
abbrev pub codes_of : List ℕ → Option (List ℤ)
codes_of text = option_and_then (where_so are_codes) (few_read code_of text)

-- three coordinates
abbrev pub origin_of : List ℕ → Option (List ℤ)
origin_of text = option_and_then (where_so (has_length 3)) (few_read coordinate_of text)

-- from a millionth to 1000000000
abbrev pub is_size : ℤ → Bool
is_size (pos n) = nat_le 1 n && nat_le n (10 ^ 15)
is_size (negsuc n) = false

abbrev pub are_sizes : List ℤ → Bool
are_sizes zs = has_length 3 zs && list_all is_size zs

-- three coordinates that are sizes
abbrev pub sizes_of : List ℕ → Option (List ℤ)
sizes_of text = option_and_then (where_so are_sizes) (few_read coordinate_of text)

-- four columns, of which the last isn't 0
abbrev pub are_columns : List ℕ → Bool
are_columns ns = has_length 4 ns && nat_le 1 (slice_index ns 3)

abbrev pub columns_of : List ℕ → Option (List ℕ)
columns_of text = option_and_then (where_so are_columns) (few_read (number_in 0 64) text)

-- three radii
abbrev pub radii_of : List ℕ → Option (List ℕ)
radii_of text = option_and_then (where_so (has_length 3)) (few_read (number_in 0 64) text)

-- one to eight parts of a million
abbrev pub targets_of : List ℕ → Option (List ℕ)
targets_of text = option_and_then (where_so (λ ns. nat_le 1 (length ns))) (few_read (number_in 0 1000000) text)

-- one to twenty digits, at most 2 ^ 64 - 1
unfoldable pub seed_of : List ℕ → Option ℕ
seed_of text = option_and_then (where_so (λ n. nat_lt n (2 ^ 64))) (short_number 20 text)

-- `tree` or `list`
abbrev pub store_of : List ℕ → Option StoreChoice
store_of text = if bytes_eq text (codes "tree") then Some Tree else if bytes_eq text (codes "list") then Some Listed else None

-- `1`
abbrev pub version_of : List ℕ → Option ℕ
version_of text = if bytes_eq text (codes "1") then Some 1 else None
