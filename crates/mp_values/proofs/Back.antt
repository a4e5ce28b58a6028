-- The printed value of each form is read back.
use Rattle.std.proofs.Common.{◌≡◌, ℕ, ◌*◌, ◌^◌, ◌<◌, ◌≤◌, true, cond, List, [], ◌∷◌, length, get_or, ℤ, pos, negsuc, nat_abs, Some, None, decimal, refl, ap, sym, ◌∙◌, arith}
use Rattle.std.specs.Prelude.{nat_le, nat_lt, option_and_then, option_map}
use Rattle.std.specs.Fmt.{signed_decimal}
use Rattle.std.specs.List.{list_all}
use Rattle.std.specs.Result.{result_ok}
use Rattle.std.specs.Str.Parse.{digits_value}
use Rattle.std.proofs.Math.Nat.{le-mul_of_pos_right, mul_comm}
use Rattle.std.proofs.lemmas.Bool.{and_parts, and_from, eq-eqb, eqb-true, leb-true, le-leb, lt-ltb, not-true}
use Rattle.std.proofs.lemmas.Fmt.{decimal_digit, digits_decimal, digits_value-decimal, decimal_nonempty, length-decimal-le}
use Rattle.mp_base.specs.Grid.{Sides, IsShape, cells_of}
use Rattle.mp_base.specs.Number.{are_few_digits, micro_text, short_number}
use Rattle.mp_base.proofs.Digits.{own}
use Rattle.mp_base.proofs.ReadBack.{IsNumberText, whole_reads_back, micro_reads_back, whole_text_is, micro_text_is}
use Rattle.mp_values.specs.declared.choice.StoreChoice.{StoreChoice}
use Rattle.mp_values.specs.declared.choice.StoreChoice.TheVariants.{Tree, List as Listed}
use Rattle.mp_values.specs.Forms.{AreCategories, AreColumns, AreParts, AreRadii, IsOrigin}
use Rattle.mp_values.specs.Texts.{number_text, sides_text, store_text}
use Rattle.mp_base.specs.Spaced.{spaced}
use Rattle.mp_values.specs.Values.{are_codes, are_columns, are_sides, are_sizes, as_sides, code_of, codes_of, columns_of, coordinate_of, has_length, is_between, is_coordinate, is_name, is_number, is_shape, is_size, name_of, number_in, origin_of, radii_of, seed_of, shape_of, sizes_of, store_of, targets_of, version_of, where_so, within}
use Rattle.mp_values.proofs.Spaced.{number_value, spaced_value, where_back}
use Rattle.mp_values.proofs.ValueTexts.{IsValueText}

-- one number
pub number_back : (low high n : ℕ) → high ≤ 999999999 → is_between low high n ≡ true → number_in low high (number_text n) ≡ Some n
unfolding number_in
number_back low high n small between =
    let most : n ≤ high = leb-true n high (and_parts (nat_le low n) (nat_le n high) between).1 in
    ap (within low high) (whole_reads_back (pos n) (omega arith)) ∙ ap (λ b. cond b (Some n) None) between

pub number_text_is : (low high n : ℕ) → high ≤ 999999999 → is_between low high n ≡ true → IsNumberText (number_text n)
number_text_is low high n small between =
    let most : n ≤ high = leb-true n high (and_parts (nat_le low n) (nat_le n high) between).1 in
    whole_text_is (pos n) (omega arith)

pub code_back : (z : ℤ) → is_number z ≡ true → code_of (signed_decimal z) ≡ Some z
unfolding code_of
code_back z is = ap result_ok (whole_reads_back z (leb-true (nat_abs z) 999999999 is))

pub code_text_is : (z : ℤ) → is_number z ≡ true → IsNumberText (signed_decimal z)
code_text_is z is = whole_text_is z (omega (arith, leb-true (nat_abs z) 999999999 is))

coordinate_back : (z : ℤ) → is_coordinate z ≡ true → coordinate_of (micro_text z) ≡ Some z
unfolding coordinate_of
coordinate_back z is = ap result_ok (micro_reads_back z (leb-true (nat_abs z) (10 ^ 18) is))

coordinate_text_is : (z : ℤ) → is_coordinate z ≡ true → IsNumberText (micro_text z)
coordinate_text_is z is = micro_text_is z (omega (arith, leb-true (nat_abs z) (10 ^ 18) is))

size_coordinate : (z : ℤ) → is_size z ≡ true → is_coordinate z ≡ true
size_coordinate (pos n) is =
    let most : n ≤ 10 ^ 15 = leb-true n (10 ^ 15) (and_parts (nat_le 1 n) (nat_le n (10 ^ 15)) is).1 in
    le-leb n (10 ^ 18) (omega arith)
size_coordinate (negsuc n) is = cc

-- names
pub name_back : (text : List ℕ) → is_name text ≡ true → name_of text ≡ Some text
name_back text is = ap (λ b. cond b (Some text) None) is

pub name_value : (text : List ℕ) → is_name text ≡ true → IsValueText text
name_value text is =
    let parts = and_parts _ _ is in
    let long = and_parts (nat_le 1 (length text)) (nat_le (length text) 255) parts.0 in
    let more = and_parts _ _ parts.1 in
    let ends = and_parts _ _ more.1 in
    record {
      bytes = more.0;
      some = leb-true 1 (length text) long.0;
      first = not-true _ ends.0;
      last = not-true _ ends.1;
      few = omega (arith, leb-true (length text) 255 long.1);
    }

-- shapes
side_small : (s : Sides) → IsShape s → (s.nx ≤ 2 ^ 20) × (s.ny ≤ 2 ^ 20) × (s.nz ≤ 2 ^ 20)
side_small s is =
    let rows : s.ny ≤ s.ny * s.nz = le-mul_of_pos_right s.ny (omega (arith, is.z_some)) in
    let layers : s.nz ≤ s.nz * s.ny = le-mul_of_pos_right s.nz (omega (arith, is.y_some)) in
    let same : s.nz * s.ny ≡ s.ny * s.nz = mul_comm s.nz s.ny in
    let x : s.nx ≤ s.nx * (s.ny * s.nz) = le-mul_of_pos_right s.nx (omega (arith, rows, is.y_some)) in
    let yz : s.ny * s.nz ≤ s.ny * s.nz * s.nx = le-mul_of_pos_right (s.ny * s.nz) (omega (arith, is.x_some)) in
    let turn : s.ny * s.nz * s.nx ≡ s.nx * (s.ny * s.nz) = mul_comm (s.ny * s.nz) s.nx in
    (omega (arith, x, is.fits), omega (arith, rows, yz, turn, is.fits), omega (arith, layers, same, yz, turn, is.fits))

sides_between : (s : Sides) → IsShape s → list_all (is_between 0 999999999) (s.nx ∷ s.ny ∷ s.nz ∷ []) ≡ true
sides_between s is =
    let small = side_small s is in
    let x : nat_le s.nx 999999999 ≡ true = le-leb s.nx 999999999 (omega (arith, small.0)) in
    let y : nat_le s.ny 999999999 ≡ true = le-leb s.ny 999999999 (omega (arith, small.1)) in
    let z : nat_le s.nz 999999999 ≡ true = le-leb s.nz 999999999 (omega (arith, small.2)) in
    and_from _ _ (and_from _ _ (le-leb 0 s.nx (omega arith)) x) (and_from _ _ (and_from _ _ (le-leb 0 s.ny (omega arith)) y) (and_from _ _ (and_from _ _ (le-leb 0 s.nz (omega arith)) z) refl))

shape_true : (s : Sides) → IsShape s → is_shape s ≡ true
shape_true s is =
    and_from _ _ (and_from _ _ (le-leb 1 s.nx is.x_some) (and_from _ _ (le-leb 1 s.ny is.y_some) (le-leb 1 s.nz is.z_some))) (le-leb (cells_of s) (2 ^ 20) is.fits)

wide : (n : ℕ) → is_between 0 999999999 n ≡ true → IsNumberText (number_text n)
wide n is = number_text_is 0 999999999 n (omega arith) is

pub shape_back : (s : Sides) → IsShape s → shape_of (sides_text s) ≡ Some s
shape_back s is =
    let ns : List ℕ = s.nx ∷ s.ny ∷ s.nz ∷ [] in
    ap (option_map as_sides) (where_back number_text (is_between 0 999999999) wide (number_in 0 999999999) (λ n b. number_back 0 999999999 n (omega arith) b) are_sides ns (omega arith) (sides_between s is) (shape_true s is))

pub shape_value : (s : Sides) → IsShape s → IsValueText (sides_text s)
shape_value s is = spaced_value number_text (is_between 0 999999999) wide (s.nx ∷ s.ny ∷ s.nz ∷ []) (omega arith) (omega arith) (sides_between s is)

-- codes
pub codes_back : (cs : List ℤ) → AreCategories cs → codes_of (spaced signed_decimal cs) ≡ Some cs
codes_back cs is = where_back signed_decimal is_number code_text_is code_of code_back are_codes cs is.few is.numbers is.codes

pub codes_value : (cs : List ℤ) → AreCategories cs → IsValueText (spaced signed_decimal cs)
codes_value cs is =
    spaced_value signed_decimal is_number code_text_is cs (leb-true 1 (length cs) (and_parts _ _ is.codes).0) is.few is.numbers

-- places
pub origin_back : (zs : List ℤ) → IsOrigin zs → origin_of (spaced micro_text zs) ≡ Some zs
origin_back zs is = where_back micro_text is_coordinate coordinate_text_is coordinate_of coordinate_back (has_length 3) zs (omega (arith, is.three)) is.coordinates (eq-eqb (length zs) 3 is.three)

pub origin_value : (zs : List ℤ) → IsOrigin zs → IsValueText (spaced micro_text zs)
origin_value zs is = spaced_value micro_text is_coordinate coordinate_text_is zs (omega (arith, is.three)) (omega (arith, is.three)) is.coordinates

pub sizes_back : (zs : List ℤ) → are_sizes zs ≡ true → sizes_of (spaced micro_text zs) ≡ Some zs
sizes_back zs is =
    let parts = and_parts (has_length 3 zs) (list_all is_size zs) is in
    let three : length zs ≡ 3 = eqb-true (length zs) 3 parts.0 in
    where_back micro_text is_size (λ z s. coordinate_text_is z (size_coordinate z s)) coordinate_of (λ z s. coordinate_back z (size_coordinate z s)) are_sizes zs (omega (arith, three)) parts.1 is

pub sizes_value : (zs : List ℤ) → are_sizes zs ≡ true → IsValueText (spaced micro_text zs)
sizes_value zs is =
    let parts = and_parts (has_length 3 zs) (list_all is_size zs) is in
    let three : length zs ≡ 3 = eqb-true (length zs) 3 parts.0 in
    spaced_value micro_text is_size (λ z s. coordinate_text_is z (size_coordinate z s)) zs (omega (arith, three)) (omega (arith, three)) parts.1

-- lists of numbers
pub radii_back : (ns : List ℕ) → AreRadii ns → radii_of (spaced number_text ns) ≡ Some ns
radii_back ns is =
    where_back number_text (is_between 0 64) (λ n b. number_text_is 0 64 n (omega arith) b) (number_in 0 64) (λ n b. number_back 0 64 n (omega arith) b) (has_length 3) ns (omega (arith, is.three)) is.between (eq-eqb (length ns) 3 is.three)

pub radii_value : (ns : List ℕ) → AreRadii ns → IsValueText (spaced number_text ns)
radii_value ns is = spaced_value number_text (is_between 0 64) (λ n b. number_text_is 0 64 n (omega arith) b) ns (omega (arith, is.three)) (omega (arith, is.three)) is.between

four_of : (ns : List ℕ) → AreColumns ns → length ns ≡ 4
four_of ns is = eqb-true (length ns) 4 (and_parts (has_length 4 ns) (nat_le 1 (get_or ns 3 0)) is.columns).0

pub columns_back : (ns : List ℕ) → AreColumns ns → columns_of (spaced number_text ns) ≡ Some ns
columns_back ns is =
    where_back number_text (is_between 0 64) (λ n b. number_text_is 0 64 n (omega arith) b) (number_in 0 64) (λ n b. number_back 0 64 n (omega arith) b) are_columns ns (omega (arith, four_of ns is)) is.between is.columns

pub columns_value : (ns : List ℕ) → AreColumns ns → IsValueText (spaced number_text ns)
columns_value ns is = spaced_value number_text (is_between 0 64) (λ n b. number_text_is 0 64 n (omega arith) b) ns (omega (arith, four_of ns is)) (omega (arith, four_of ns is)) is.between

pub targets_back : (ns : List ℕ) → AreParts ns → targets_of (spaced number_text ns) ≡ Some ns
targets_back ns is =
    where_back number_text (is_between 0 1000000) (λ n b. number_text_is 0 1000000 n (omega arith) b) (number_in 0 1000000) (λ n b. number_back 0 1000000 n (omega arith) b) (λ ns. nat_le 1 (length ns)) ns is.few is.between
    (le-leb 1 (length ns) is.some)

pub targets_value : (ns : List ℕ) → AreParts ns → IsValueText (spaced number_text ns)
targets_value ns is = spaced_value number_text (is_between 0 1000000) (λ n b. number_text_is 0 1000000 n (omega arith) b) ns is.some is.few is.between

-- a seed
pub seed_back : (n : ℕ) → n < 2 ^ 64 → seed_of (number_text n) ≡ Some n
unfolding seed_of short_number
seed_back n fits =
    let ds : List ℕ = decimal n in
    let value : digits_value 10 ds ≡ n = digits_value-decimal own n fits in
    let few : are_few_digits 20 ds ≡ true =
    and_from _ _ (digits_decimal own n fits) (and_from _ _ (le-leb 1 (length ds) (omega (arith, decimal_nonempty n fits))) (le-leb (length ds) 20 (length-decimal-le 20 n (omega arith) (omega arith) fits))) in
    let short : cond (are_few_digits 20 ds) (Some (digits_value 10 ds)) None ≡ Some n = ap (λ b. cond b (Some (digits_value 10 ds)) None) few ∙ ap Some value in
    ap (option_and_then (where_so (λ m. nat_lt m (2 ^ 64)))) short ∙ ap (λ b. cond b (Some n) None) (lt-ltb n (2 ^ 64) fits)

pub seed_value : (n : ℕ) → n < 2 ^ 64 → IsValueText (number_text n)
seed_value n fits = number_value (number_text n) (whole_text_is (pos n) fits)

-- a store
pub store_back : (s : StoreChoice) → store_of (store_text s) ≡ Some s
store_back Tree = refl
store_back Listed = refl

pub store_value : (s : StoreChoice) → IsValueText (store_text s)
store_value Tree = record { bytes = refl; some = omega arith; first = refl; last = refl; few = omega arith }
store_value Listed = record { bytes = refl; some = omega arith; first = refl; last = refl; few = omega arith }

-- the version
pub version_back : (n : ℕ) → n ≡ 1 → version_of (number_text n) ≡ Some n
version_back n is = ap (λ m. version_of (number_text m)) is ∙ ap version_of (decimal_digit 1 (omega arith)) ∙ ap Some (sym is)
