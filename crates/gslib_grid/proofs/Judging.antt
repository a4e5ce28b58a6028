-- What the next line gives, by the tests that it passes.
use Rattle.std.proofs.Common.{◌≡◌, ℕ, ◌+◌, ◌<◌, ◌≤◌, Bool, true, false, cond, eqb, ◌&&◌, ℤ, List, [], ◌∷◌, length, Some, Result, Ok, Err, ap, sym, ◌∙◌, arith}
use Rattle.std.specs.Prelude.{◌==◌, nat_le, nat_lt, option_and_then}
use Rattle.std.specs.Result.{result_ok}
use Rattle.std.proofs.lemmas.Bool.{and_parts, eqb-true}
use Rattle.std.proofs.lemmas.Bool.Decides.{nat_tests}
use Rattle.mp_base.specs.Number.{whole_of}
use Rattle.mp_base.specs.declared.codes.Codes.{Codes}
use Rattle.mp_text.specs.Lines.{text_of}
use Rattle.mp_text.specs.Fields.{fields_of}
use Rattle.gslib_grid.specs.Table.{Front, Added, Nothing, Count, OneRow, checked_count, checked_numbers, code_in, coordinate_in, count_in, is_row, is_too_long, judged, judged_row, numbers_in, result_map}
use Rattle.gslib_grid.specs.Steps.{added_to, code_alone, is_first_alone, with_line}
use Rattle.gslib_grid.specs.declared.want.Wanted.{Wanted}
use Rattle.gslib_grid.specs.declared.row.Row.{Row}
use Rattle.gslib_grid.specs.declared.fault.TableFault.{TableFault}
use Rattle.gslib_grid.specs.declared.fault.TableFault.TheVariants.{ShortRow, TooLong, TooManyRows}

module _ (wanted : Wanted) (codes : Codes) (front : Front) (line text : List ℕ) (says : text ≡ text_of line) where
  -- what is judged behind the test of the length
  abbrev told_count : Result Added TableFault
  told_count = result_map Count (checked_count wanted (count_in (fields_of (text_of line))))

  abbrev told_row : Result Added TableFault
  told_row = result_map OneRow (judged_row wanted codes front (fields_of (text_of line)))

  abbrev told : Bool → Bool → Bool → Result Front TableFault
  told long second row = result_map (added_to front line) (cond long (Err (TooLong (front.lines + 1))) (cond second told_count (cond row told_row (Ok Nothing))))

  pub with_line_count : (answer : Result ℕ TableFault) → is_too_long front line ≡ false → eqb front.lines 1 ≡ true → answer ≡ checked_count wanted (count_in (fields_of text)) → with_line wanted codes front line ≡ result_map (added_to front line) (result_map Count answer)
  unfolding judged
  with_line_count answer short second is =
      (λ i. told (short i) (second i) (is_row front (fields_of (text_of line))))
      ∙ ap (λ (a : Result ℕ TableFault). result_map (added_to front line) (result_map Count a)) (sym (is ∙ ap (λ t. checked_count wanted (count_in (fields_of t))) says))

  pub with_line_blank : is_too_long front line ≡ false → eqb front.lines 1 ≡ false → is_row front (fields_of text) ≡ false → with_line wanted codes front line ≡ Ok (added_to front line Nothing)
  unfolding judged
  with_line_blank short other blank = λ i. told (short i) (other i) ((ap (λ t. is_row front (fields_of t)) (sym says) ∙ blank) i)

  pub with_line_row : (answer : Result Row TableFault) → is_too_long front line ≡ false → eqb front.lines 1 ≡ false → is_row front (fields_of text) ≡ true → answer ≡ judged_row wanted codes front (fields_of text) → with_line wanted codes front line ≡ result_map (added_to front line) (result_map OneRow answer)
  unfolding judged
  with_line_row answer short other row is =
      (λ i. told (short i) (other i) ((ap (λ t. is_row front (fields_of t)) (sym says) ∙ row) i))
      ∙ ap (λ (a : Result Row TableFault). result_map (added_to front line) (result_map OneRow a)) (sym (is ∙ ap (λ t. judged_row wanted codes front (fields_of t)) says))

-- a line that is too long
pub with_line_long : (wanted : Wanted) (codes : Codes) (front : Front) (line : List ℕ) → is_too_long front line ≡ true → with_line wanted codes front line ≡ Err (TooLong (front.lines + 1))
unfolding judged
with_line_long wanted codes front line long =
    ap (λ b. result_map (added_to front line) (cond b (Err (TooLong (front.lines + 1)))
    (cond (eqb front.lines 1) (result_map Count (checked_count wanted (count_in (fields_of (text_of line)))))
    (cond (is_row front (fields_of (text_of line))) (result_map OneRow (judged_row wanted codes front (fields_of (text_of line)))) (Ok Nothing))))) long

-- the row of a text that is a field of its own, where its code alone is read
pub judged_alone : (wanted : Wanted) (codes : Codes) (front : Front) (text : List ℕ) (code : ℤ) → length front.rows < wanted.most → front.variables ≤ 1 → is_first_alone wanted ≡ true → result_ok (whole_of text) ≡ Some code → judged_row wanted codes front (text ∷ []) ≡ checked_numbers codes (front.lines + 1) (Some (code_alone code))
unfolding judged_row numbers_in
judged_alone wanted codes front text code room few alone is =
    let fields : List (List ℕ) = text ∷ [] in
    let halves = and_parts (wanted.x == 0 && wanted.y == 0) (wanted.z == 0 && wanted.category == 1) alone in
    let across = and_parts (wanted.x == 0) (wanted.y == 0) halves.0 in
    let other = and_parts (wanted.z == 0) (wanted.category == 1) halves.1 in
    let x : wanted.x ≡ 0 = eqb-true _ 0 across.0 in
    let y : wanted.y ≡ 0 = eqb-true _ 0 across.1 in
    let z : wanted.z ≡ 0 = eqb-true _ 0 other.0 in
    let first : wanted.category ≡ 1 = eqb-true _ 1 other.1 in
    let numbers : numbers_in wanted fields ≡ Some (code_alone code) =
    (λ i. option_and_then (λ x. option_and_then (λ y. option_and_then (λ z. option_and_then (λ code. Some (record { x = x; y = y; z = z; code = code })) (code_in fields (first i))) (coordinate_in fields (z i))) (coordinate_in fields (y i))) (coordinate_in fields (x i)))
    ∙ ap (option_and_then (λ code. Some (code_alone code))) is in
    let has_room : nat_le wanted.most (length front.rows) ≡ false = grind (arith, nat_tests) in
    let whole : nat_lt (length fields) front.variables ≡ false = grind (arith, nat_tests) in
    λ i. cond (has_room i) (Err (TooManyRows (front.lines + 1))) (cond (whole i) (Err (ShortRow (front.lines + 1))) (checked_numbers codes (front.lines + 1) (numbers i)))
