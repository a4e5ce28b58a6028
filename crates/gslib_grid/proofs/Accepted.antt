-- What is known of a table that is accepted: how many rows it has, and that their categories are listed.
use Rattle.std.proofs.Common.{◌≡◌, ℕ, ℤ, pos, ◌+◌, ◌<◌, ◌≤◌, Bool, true, false, cond, eqb, ltb, leb, List, [], ◌∷◌, ◌++◌, length, filter, map, drop, Option, Some, None, Result, Ok, Err, refl, ap, sym, ◌∙◌, subst, arith, append_assoc}
use Rattle.std.specs.Prelude.{option_map, option_and_then}
use Rattle.std.specs.List.{All, filter_map, cons_option, enumerate_from, position}
use Rattle.std.specs.Option.{option_or, option_map_or}
use Rattle.std.specs.Ordering.{int_eq}
use Rattle.std.specs.Result.{result_err}
use Rattle.std.proofs.lemmas.List.{append-nil, length_push}
use Rattle.std.proofs.lemmas.Bool.{ltb-false, leb-false}
use Rattle.std.proofs.lemmas.List.Quantifiers.{position-Some}
use Rattle.std.proofs.lemmas.List.Elements.{All-cons}
use Rattle.mp_base.specs.declared.codes.Codes.{Codes}
use Rattle.mp_base.specs.Grid.{IsBelow}
use Rattle.mp_text.specs.Lines.{lines_of, text_of}
use Rattle.mp_text.specs.Fields.{fields_of}
use Rattle.gslib_grid.specs.Table.{Front, Added, Nothing, Count, OneRow, category_of, checked_count, count_in, ended, first_fault, front_of, is_row, is_too_long, judged, judged_row, numbered_fields, numbers_in, result_map, row_from, row_in, rows_in, table_of, variables_in, wanted_of}
use Rattle.gslib_grid.specs.Steps.{added_to}
use Rattle.gslib_grid.specs.declared.want.Want.{Want}
use Rattle.gslib_grid.specs.declared.want.Want.TheVariants.{Image}
use Rattle.gslib_grid.specs.declared.want.Wanted.{Wanted}
use Rattle.gslib_grid.specs.declared.number.Numbers.{Numbers}
use Rattle.gslib_grid.specs.declared.row.Row.{Row}
use Rattle.gslib_grid.specs.declared.row.Table.{Table}
use Rattle.gslib_grid.specs.declared.fault.TableFault.{TableFault}
use Rattle.gslib_grid.specs.declared.fault.TableFault.TheVariants.{BadCount, NoTitle, TooFewRows, TooLong, TooManyRows}
use Rattle.gslib_grid.proofs.Fronts.{front_of_push, passed}

-- The number of rows.

-- a row is accepted where there is room for it
room_judged : (wanted : Wanted) (codes : Codes) (front : Front) (fields : List (List ℕ)) (row : Row) → judged_row wanted codes front fields ≡ Ok row → length front.rows < wanted.most
unfolding judged_row
room_judged wanted codes front fields row is = leb-false wanted.most (length front.rows) (passed (leb wanted.most (length front.rows)) (TooManyRows (front.lines + 1)) _ row is).0

unmapped_row : (r : Result Row TableFault) (row : Row) → result_map OneRow r ≡ Ok (OneRow row) → r ≡ Ok row
unmapped_row (Ok other) row is = cc is
unmapped_row (Err fault) row is = absurd (cc is)

unmapped_count : (r : Result ℕ TableFault) (row : Row) → result_map Count r ≡ Ok (OneRow row) → ⊥
unmapped_count (Ok count) row is = cc is
unmapped_count (Err fault) row is = cc is

chosen_row : (second row_here : Bool) (count : Result ℕ TableFault) (told : Result Row TableFault) (row : Row) → cond second (result_map Count count) (cond row_here (result_map OneRow told) (Ok Nothing)) ≡ Ok (OneRow row) → told ≡ Ok row
chosen_row true row_here count told row is = absurd (unmapped_count count row is)
chosen_row false true count told row is = unmapped_row told row is
chosen_row false false count told row is = absurd (cc is)

module _ (wanted : Wanted) (codes : Codes) where
  room_line : (front : Front) (line : List ℕ) (row : Row) → judged wanted codes front line ≡ Ok (OneRow row) → length front.rows < wanted.most
  unfolding judged
  room_line front line row is =
      let fields = fields_of (text_of line) in
      let short = passed (is_too_long front line) (TooLong (front.lines + 1)) _ (OneRow row) is in
      room_judged wanted codes front fields row (chosen_row (eqb front.lines 1) (is_row front fields) (checked_count wanted (count_in fields)) (judged_row wanted codes front fields) row short.1)

  -- one accepted line more
  most_line : (front : Front) (line : List ℕ) (added : Added) → judged wanted codes front line ≡ Ok added → length front.rows ≤ wanted.most → length (added_to front line added).rows ≤ wanted.most
  most_line front line Nothing is most = most
  most_line front line (Count count) is most = most
  most_line front line (OneRow row) is most = let room = room_line front line row is in omega (arith, length_push front.rows row)

  most_rows : (before lines : List (List ℕ)) → first_fault wanted codes before lines ≡ None → length (rows_in wanted codes before) ≤ wanted.most → length (rows_in wanted codes (before ++ lines)) ≤ wanted.most
  unfolding first_fault
  most_rows before [] none most = subst (λ (ls : List (List ℕ)). length (rows_in wanted codes ls) ≤ wanted.most) (sym (append-nil before)) most
  most_rows before (line ∷ lines) none most = judge (judged wanted codes (front_of wanted codes before) line) refl (most_rows (before ++ line ∷ []) lines)
    where
      judge : (told : Result Added TableFault) → judged wanted codes (front_of wanted codes before) line ≡ told → (first_fault wanted codes (before ++ line ∷ []) lines ≡ None → length (rows_in wanted codes (before ++ line ∷ [])) ≤ wanted.most → length (rows_in wanted codes ((before ++ line ∷ []) ++ lines)) ≤ wanted.most) → length (rows_in wanted codes (before ++ line ∷ lines)) ≤ wanted.most
      judge (Err fault) is more = absurd (cc (sym (ap (λ told. option_or (result_err told) (first_fault wanted codes (before ++ line ∷ []) lines)) is) ∙ none))
      judge (Ok added) is more =
          let front = front_of wanted codes before in
          let same = front_of_push wanted codes before line (added_to front line added) (ap (result_map (added_to front line)) is) in
          let later : first_fault wanted codes (before ++ line ∷ []) lines ≡ None = sym (ap (λ told. option_or (result_err told) (first_fault wanted codes (before ++ line ∷ []) lines)) is) ∙ none in
          let here = subst (λ (f : Front). length f.rows ≤ wanted.most) same (most_line front line added is most) in
          subst (λ (ls : List (List ℕ)). length (rows_in wanted codes ls) ≤ wanted.most) (append_assoc before (line ∷ []) lines) (more later here)

-- what comes of no fault
no_fault : {X : Type 0} (fault : Option TableFault) (end : Result X TableFault) (x : X) → option_map_or Err fault end ≡ Ok x → (fault ≡ None) × (end ≡ Ok x)
no_fault None end x is = (refl, is)
no_fault (Some fault) end x is = absurd (cc is)

-- the table that is accepted at the end has the rows of the front, and enough of them
ended_rows : (wanted : Wanted) (front : Front) (table : Table) → ended wanted front ≡ Ok table → (wanted.least ≤ length front.rows) × (front.rows ≡ table.rows)
unfolding ended
ended_rows wanted front table is =
    let title = passed (eqb front.lines 0) NoTitle _ table is in
    let names = passed (ltb front.lines (front.variables + 2)) BadCount _ table title.1 in
    let enough = passed (ltb (length front.rows) wanted.least) (TooFewRows front.lines) _ table names.1 in
    let same : record { lines = front.lines; rows = front.rows } ≡ table = cc enough.1 in
    (ltb-false (length front.rows) wanted.least enough.0, ap (λ (t : Table). t.rows) same)

-- a table that is accepted has no fault, and is ended
accepted : (want : Want) (codes : Codes) (bytes : List ℕ) (table : Table) → table_of want codes bytes ≡ Ok table → (first_fault (wanted_of want) codes [] (lines_of bytes) ≡ None) × (ended (wanted_of want) (front_of (wanted_of want) codes (lines_of bytes)) ≡ Ok table)
unfolding table_of
accepted want codes bytes table is = no_fault (first_fault (wanted_of want) codes [] (lines_of bytes)) (ended (wanted_of want) (front_of (wanted_of want) codes (lines_of bytes))) table is

-- a table that is accepted has as many rows as were asked for
pub rows_between : (want : Want) (codes : Codes) (bytes : List ℕ) (table : Table) → table_of want codes bytes ≡ Ok table → ((wanted_of want).least ≤ length table.rows) × (length table.rows ≤ (wanted_of want).most)
unfolding rows_in
rows_between want codes bytes table is =
    let wanted = wanted_of want in
    let told = accepted want codes bytes table is in
    let rows = ended_rows wanted (front_of wanted codes (lines_of bytes)) table told.1 in
    let most = most_rows wanted codes [] (lines_of bytes) told.0 (omega arith) in
    (subst (λ (rs : List Row). wanted.least ≤ length rs) rows.1 rows.0, subst (λ (rs : List Row). length rs ≤ wanted.most) rows.1 most)

-- an image has a row for each cell
pub rows_of_image : (codes : Codes) (column rows : ℕ) (bytes : List ℕ) (table : Table) → table_of (Image column rows) codes bytes ≡ Ok table → length table.rows ≡ rows
rows_of_image codes column rows bytes table is = let between = rows_between (Image column rows) codes bytes table is in omega (arith, between.0, between.1)

-- The categories.

listed_place : (codes : Codes) (code : ℤ) (place : Option ℕ) → position (int_eq code) codes.categories ≡ place → (told : Option ℕ) → option_or (option_map Some place) (cond (int_eq code codes.missing) (Some None) None) ≡ Some told → IsBelow (length codes.categories) told
listed_place codes code (Some k) is told same = subst (IsBelow (length codes.categories)) (inner k told same) (position-Some (int_eq code) codes.categories k (pos 0) is).0
  where
    inner : (k : ℕ) (told : Option ℕ) → Some (Some k) ≡ Some told → Some k ≡ told
    inner k told same = cc same
listed_place codes code None is told same = missing (int_eq code codes.missing) same
  where
    missing : (t : Bool) → cond t (Some None) None ≡ Some told → IsBelow (length codes.categories) told
    missing true same = let none : None ≡ told = cc same in subst (IsBelow (length codes.categories)) none tt
    missing false same = absurd (cc same)

cat_listed : (codes : Codes) (line : ℕ) (numbers : Numbers) (told : Option (Option ℕ)) (row : Row) → category_of codes numbers.code ≡ told → option_map (row_from line numbers) told ≡ Some row → IsBelow (length codes.categories) row.cat
unfolding category_of
cat_listed codes line numbers None row is same = absurd (cc same)
cat_listed codes line numbers (Some cat) row is same =
    let made : row_from line numbers cat ≡ row = cc same in
    subst (λ (r : Row). IsBelow (length codes.categories) r.cat) made (listed_place codes numbers.code (position (int_eq numbers.code) codes.categories) refl cat is)

row_listed : (wanted : Wanted) (codes : Codes) (line : ℕ) (fields : List (List ℕ)) (row : Row) → row_in wanted codes line fields ≡ Some row → IsBelow (length codes.categories) row.cat
unfolding row_in
row_listed wanted codes line fields row is = of_numbers (numbers_in wanted fields) is
  where
    of_numbers : (told : Option Numbers) → option_and_then (λ numbers. option_map (row_from line numbers) (category_of codes numbers.code)) told ≡ Some row → IsBelow (length codes.categories) row.cat
    of_numbers None same = absurd (cc same)
    of_numbers (Some numbers) same = cat_listed codes line numbers (category_of codes numbers.code) row refl same

-- what is kept of a list, where all that may be kept has the property
All-kept : {X Y : Type 0} (f : X → Option Y) (P : Y → Type 0) → ((x : X) (y : Y) → f x ≡ Some y → P y) → (xs : List X) → All P (filter_map f xs)
All-kept f P each [] = λ k d in_list. absurd (omega arith)
All-kept {Y = Y} f P each (x ∷ xs) = with_first (f x) refl (All-kept f P each xs)
  where
    with_first : (told : Option Y) → f x ≡ told → All P (filter_map f xs) → All P (cons_option told (filter_map f xs))
    with_first None is rest = rest
    with_first (Some y) is rest = All-cons P y (filter_map f xs) (each x y is) rest

-- each row of a table that is accepted has a listed category, or the missing code
pub rows_listed : (want : Want) (codes : Codes) (bytes : List ℕ) (table : Table) → table_of want codes bytes ≡ Ok table → All (λ row. IsBelow (length codes.categories) row.cat) table.rows
unfolding rows_in
rows_listed want codes bytes table is =
    let wanted = wanted_of want in
    let lines = lines_of bytes in
    let told = accepted want codes bytes table is in
    let rows = ended_rows wanted (front_of wanted codes lines) table told.1 in
    let listed : All (λ row. IsBelow (length codes.categories) row.cat) (rows_in wanted codes lines) =
    All-kept (λ line. row_in wanted codes line.0 line.1) (λ row. IsBelow (length codes.categories) row.cat) (λ line row is. row_listed wanted codes line.0 line.1 row is)
    (filter (λ line. ltb 0 (length line.1)) (map numbered_fields (drop (variables_in lines + 2) (enumerate_from 1 lines)))) in
    subst (λ (rs : List Row). All (λ row. IsBelow (length codes.categories) row.cat) rs) rows.1 listed
