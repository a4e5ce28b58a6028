-- What lines are together, with one line more, and how far a table was read.
use Rattle.std.proofs.Common.{◌≡◌, ℕ, ◌+◌, ◌≤◌, Bool, true, false, cond, eqb, ltb, leb, ◌&&◌, List, [], ◌∷◌, ◌++◌, length, drop, map, filter, Option, Some, None, Result, Ok, Err, ◌⊎◌, inl, inr, refl, ap, add-zero, sym, ◌∙◌, arith, append_assoc}
use Rattle.std.specs.Prelude.{unwrap_or, option_map, option_and_then}
use Rattle.std.specs.List.{filter_map, enumerate_from, sum_by, cons_option}
use Rattle.std.specs.Option.{option_or, option_map_or}
use Rattle.std.specs.Result.{result_err}
use Rattle.std.proofs.lemmas.List.{length_push, map-append, drop-append-le, drop_all, append-nil}
use Rattle.std.proofs.lemmas.List.FromFn.{length-enumerate_from}
use Rattle.std.proofs.lemmas.List.Elements.{filter-append, filter_map-append}
use Rattle.std.proofs.lemmas.List.Sums.{sum_by_push}
use Rattle.std.proofs.lemmas.Bool.{false≢true, cases_lt, le-leb, leb-true, eqb-true}
use Rattle.std.proofs.lemmas.Bool.Decides.{nat_tests}
use Rattle.mp_base.specs.declared.codes.Codes.{Codes}
use Rattle.mp_text.specs.Lines.{lines_of, text_of}
use Rattle.mp_text.specs.Fields.{fields_of}
use Rattle.gslib_grid.specs.Table.{Front, Added, Nothing, Count, OneRow, checked_category, checked_count, checked_numbers, count_in, first_fault, front_of, is_row, is_too_long, judged, judged_row, numbered_fields, numbers_in, category_of, result_map, row_in, row_from, rows_in, variables_in, has_columns, table_of, ended, wanted_of, Tells}
use Rattle.gslib_grid.specs.Steps.{added_to, with_line}
use Rattle.gslib_grid.specs.declared.want.Want.{Want}
use Rattle.gslib_grid.specs.declared.want.Wanted.{Wanted}
use Rattle.gslib_grid.specs.declared.number.Numbers.{Numbers}
use Rattle.gslib_grid.specs.declared.row.Row.{Row}
use Rattle.gslib_grid.specs.declared.fault.TableFault.{TableFault}
use Rattle.gslib_grid.specs.declared.fault.TableFault.TheVariants.{NoColumn, ShortRow, TooLong, TooManyRows}
use Rattle.gslib_grid.specs.declared.fault.TableError.{TableError}
use Rattle.gslib_grid.specs.declared.fault.TableError.TheVariants as errors

-- Tests that are joined.

and_rest : (b c : Bool) → b && c ≡ false → b ≡ true → c ≡ false
and_rest true c none first = none
and_rest false c none first = absurd (false≢true first)

and_first : (b c : Bool) → b && c ≡ true → b ≡ true
and_first true c both = refl
and_first false c both = both

and_second : (b c : Bool) → b && c ≡ true → c ≡ true
and_second true c both = both
and_second false c both = absurd (false≢true both)

-- Answers that were accepted.

-- which way a choice went
chosen : {A : Type 0} (b : Bool) (x y z : A) → cond b x y ≡ z → ((b ≡ true) × (x ≡ z)) ⊎ ((b ≡ false) × (y ≡ z))
chosen true x y z is = inl (refl, is)
chosen false x y z is = inr (refl, is)

-- what is accepted passed the test
pub passed : {A : Type 0} (b : Bool) (fault : TableFault) (r : Result A TableFault) (x : A) → cond b (Err fault) r ≡ Ok x → (b ≡ false) × (r ≡ Ok x)
passed true fault r x is = absurd (cc is)
passed false fault r x is = (refl, is)

-- what a changed answer comes from
mapped : {A B : Type 0} (f : A → B) (r : Result A TableFault) (y : B) → result_map f r ≡ Ok y → (x : A) × (r ≡ Ok x) × (f x ≡ y)
mapped f (Ok x) y is = (x, refl, cc is)
mapped f (Err fault) y is = absurd (cc is)

-- The number of variables.

accepted : (b : Bool) (m n : ℕ) → cond b (Ok m) (Err NoColumn) ≡ Ok n → Some m ≡ Some n
accepted true m n same = cc same
accepted false m n same = absurd (cc same)

counted : (wanted : Wanted) (told : Option ℕ) (count : ℕ) → checked_count wanted told ≡ Ok count → told ≡ Some count
counted wanted None count is = absurd (cc is)
counted wanted (Some told) count is = accepted (has_columns wanted told) told count is

-- the second line tells it
variables_second : (lines : List (List ℕ)) (line : List ℕ) → eqb (length lines) 1 ≡ true → variables_in (lines ++ line ∷ []) ≡ unwrap_or (count_in (fields_of (text_of line))) 0
variables_second [] line one = absurd (false≢true one)
variables_second (title ∷ []) line one = refl
variables_second (title ∷ second ∷ more) line one = absurd (grind (arith, nat_tests))

-- no other line changes it
variables_same : (lines : List (List ℕ)) (line : List ℕ) → eqb (length lines) 1 ≡ false → variables_in (lines ++ line ∷ []) ≡ variables_in lines
variables_same [] line other = refl
variables_same (title ∷ []) line other = absurd (false≢true (sym other))
variables_same (title ∷ second ∷ more) line other = refl

-- The rows.

numbered_push : (first : ℕ) (lines : List (List ℕ)) (line : List ℕ) → enumerate_from first (lines ++ line ∷ []) ≡ enumerate_from first lines ++ (first + length lines, line) ∷ []
numbered_push first [] line = ap (λ n. (n, line) ∷ []) (sym (add-zero first))
numbered_push first (other ∷ lines) line =
    ap (λ (rest : List (ℕ × List ℕ)). (first, other) ∷ rest) (numbered_push (first + 1) lines line)
    ∙ ap (λ n. (first, other) ∷ (enumerate_from (first + 1) lines ++ (n, line) ∷ [])) (omega arith)

module _ (wanted : Wanted) (codes : Codes) where
  abbrev row_at : ℕ × List (List ℕ) → Option Row
  row_at line = row_in wanted codes line.0 line.1

  abbrev has_field : ℕ × List (List ℕ) → Bool
  has_field line = ltb 0 (length line.1)

  -- the rows of numbered lines
  abbrev rows_at : List (ℕ × List ℕ) → List Row
  rows_at lines = filter_map row_at (filter has_field (map numbered_fields lines))

  -- the rows behind the first so many lines
  abbrev rows_behind : ℕ → List (List ℕ) → List Row
  rows_behind names lines = rows_at (drop names (enumerate_from 1 lines))

  rows_behind_push : (names : ℕ) (lines : List (List ℕ)) (line : List ℕ) → names ≤ length lines → rows_behind names (lines ++ line ∷ []) ≡ rows_behind names lines ++ rows_at ((1 + length lines, line) ∷ [])
  rows_behind_push names lines line within =
      let numbered : List (ℕ × List ℕ) = enumerate_from 1 lines in
      let last : List (ℕ × List ℕ) = (1 + length lines, line) ∷ [] in
      let split : drop names (enumerate_from 1 (lines ++ line ∷ [])) ≡ drop names numbered ++ last =
      ap (drop names) (numbered_push 1 lines line) ∙ drop-append-le names numbered last (omega (arith, length-enumerate_from 1 lines)) in
      ap rows_at split
      ∙ ap (λ xs. filter_map row_at (filter has_field xs)) (map-append numbered_fields (drop names numbered) last)
      ∙ ap (filter_map row_at) (filter-append has_field (map numbered_fields (drop names numbered)) (map numbered_fields last))
      ∙ filter_map-append row_at (filter has_field (map numbered_fields (drop names numbered))) (filter has_field (map numbered_fields last))

  rows_behind_none : (names : ℕ) (lines : List (List ℕ)) → length lines ≤ names → rows_behind names lines ≡ []
  rows_behind_none names lines over = ap rows_at (drop_all names (enumerate_from 1 lines) (omega (arith, length-enumerate_from 1 lines)))

  -- a line that is no row adds none
  rows_same : (names : ℕ) (lines : List (List ℕ)) (line : List ℕ) → leb names (length lines) && ltb 0 (length (fields_of (text_of line))) ≡ false → rows_behind names (lines ++ line ∷ []) ≡ rows_behind names lines
  rows_same names lines line none =
      elim (cases_lt (length lines) names) [
        | inl over ↦
            rows_behind_none names (lines ++ line ∷ []) (omega (arith, length_push lines line))
            ∙ sym (rows_behind_none names lines (omega arith))
        | inr within ↦
            let blank : ltb 0 (length (fields_of (text_of line))) ≡ false = and_rest _ _ none (le-leb names (length lines) within) in
            rows_behind_push names lines line within
            ∙ ap (λ b. rows_behind names lines ++ filter_map row_at (cond b ((1 + length lines, fields_of (text_of line)) ∷ []) [])) blank
            ∙ append-nil (rows_behind names lines)
      ]

  -- a row adds itself
  rows_one_more : (names : ℕ) (lines : List (List ℕ)) (line : List ℕ) (row : Row) → leb names (length lines) && ltb 0 (length (fields_of (text_of line))) ≡ true → row_in wanted codes (length lines + 1) (fields_of (text_of line)) ≡ Some row → rows_behind names (lines ++ line ∷ []) ≡ rows_behind names lines ++ row ∷ []
  rows_one_more names lines line row some is =
      let fields = fields_of (text_of line) in
      let number : 1 + length lines ≡ length lines + 1 = omega arith in
      rows_behind_push names lines line (leb-true names (length lines) (and_first _ _ some))
      ∙ ap (λ b. rows_behind names lines ++ filter_map row_at (cond b ((1 + length lines, fields) ∷ []) [])) (and_second _ _ some)
      ∙ ap (λ (told : Option Row). rows_behind names lines ++ cons_option told []) (ap (λ n. row_in wanted codes n fields) number ∙ is)

-- an accepted row is the row of its fields
category_accepted : (line : ℕ) (numbers : Numbers) (told : Option (Option ℕ)) (row : Row) → checked_category line numbers told ≡ Ok row → option_map (row_from line numbers) told ≡ Some row
category_accepted line numbers None row is = absurd (cc is)
category_accepted line numbers (Some cat) row is = cc is

numbers_accepted : (codes : Codes) (line : ℕ) (told : Option Numbers) (row : Row) → checked_numbers codes line told ≡ Ok row → option_and_then (λ numbers. option_map (row_from line numbers) (category_of codes numbers.code)) told ≡ Some row
numbers_accepted codes line None row is = absurd (cc is)
numbers_accepted codes line (Some numbers) row is = category_accepted line numbers (category_of codes numbers.code) row is

row_judged : (wanted : Wanted) (codes : Codes) (front : Front) (fields : List (List ℕ)) (row : Row) → judged_row wanted codes front fields ≡ Ok row → row_in wanted codes (front.lines + 1) fields ≡ Some row
unfolding judged_row row_in
row_judged wanted codes front fields row is =
    let told = checked_numbers codes (front.lines + 1) (numbers_in wanted fields) in
    let short = ltb (length fields) front.variables in
    let few = passed (leb wanted.most (length front.rows)) (TooManyRows (front.lines + 1)) (cond short (Err (ShortRow (front.lines + 1))) told) row is in
    let enough = passed short (ShortRow (front.lines + 1)) told row few.1 in
    numbers_accepted codes (front.lines + 1) (numbers_in wanted fields) row enough.1

-- A front with one line more.

front_more : (wanted : Wanted) (codes : Codes) (lines : List (List ℕ)) (line : List ℕ) (variables : ℕ) (rows : List Row) → variables_in (lines ++ line ∷ []) ≡ variables → rows_in wanted codes (lines ++ line ∷ []) ≡ rows → front_of wanted codes (lines ++ line ∷ []) ≡ record { lines = length lines + 1; bytes = sum_by length lines + length line; variables = variables; rows = rows }
front_more wanted codes lines line variables rows count all =
    λ i. record { lines = length_push lines line i; bytes = sum_by_push length lines line i; variables = count i; rows = all i }

-- what an accepted line adds
pub front_of_push : (wanted : Wanted) (codes : Codes) (lines : List (List ℕ)) (line : List ℕ) (new : Front) → with_line wanted codes (front_of wanted codes lines) line ≡ Ok new → new ≡ front_of wanted codes (lines ++ line ∷ [])
unfolding judged rows_in
front_of_push wanted codes lines line new is =
    let front = front_of wanted codes lines in
    let fields = fields_of (text_of line) in
    let brought = mapped (added_to front line) (judged wanted codes front line) new is in
    let count_told = result_map Count (checked_count wanted (count_in fields)) in
    let row_told = result_map OneRow (judged_row wanted codes front fields) in
    let later_told = cond (is_row front fields) row_told (Ok Nothing) in
    let short = passed (is_too_long front line) (TooLong (front.lines + 1)) (cond (eqb front.lines 1) count_told later_told) brought.0 brought.1 in
    elim (chosen (eqb front.lines 1) count_told later_told (Ok brought.0) short.1) [
      | inl second ↦
          let told = mapped Count (checked_count wanted (count_in fields)) brought.0 second.1 in
          let count = counted wanted (count_in fields) told.0 told.1 in
          let variables : variables_in (lines ++ line ∷ []) ≡ told.0 = variables_second lines line second.0 ∙ ap (λ (o : Option ℕ). unwrap_or o 0) count in
          let one : length lines ≡ 1 = eqb-true (length lines) 1 second.0 in
          let before = rows_behind_none wanted codes (variables_in lines + 2) lines (omega arith) in
          let after = rows_behind_none wanted codes (variables_in (lines ++ line ∷ []) + 2) (lines ++ line ∷ []) (omega (arith, length_push lines line)) in
          sym brought.2 ∙ ap (added_to front line) (sym told.2) ∙ sym (front_more wanted codes lines line told.0 (rows_in wanted codes lines) variables (after ∙ sym before))
      | inr other ↦
          let same = variables_same lines line other.0 in
          let rows : rows_in wanted codes (lines ++ line ∷ []) ≡ rows_behind wanted codes (variables_in lines + 2) (lines ++ line ∷ []) = ap (λ n. rows_behind wanted codes (n + 2) (lines ++ line ∷ [])) same in
          elim (chosen (is_row front fields) row_told (Ok Nothing) (Ok brought.0) other.1) [
            | inl row ↦
                let told = mapped OneRow (judged_row wanted codes front fields) brought.0 row.1 in
                let all = rows ∙ rows_one_more wanted codes (variables_in lines + 2) lines line told.0 row.0 (row_judged wanted codes front fields told.0 told.1) in
                sym brought.2 ∙ ap (added_to front line) (sym told.2) ∙ sym (front_more wanted codes lines line (variables_in lines) (rows_in wanted codes lines ++ told.0 ∷ []) same all)
            | inr none ↦
                let nothing : Nothing ≡ brought.0 = cc none.1 in
                let all = rows ∙ rows_same wanted codes (variables_in lines + 2) lines line none.0 in
                sym brought.2 ∙ ap (added_to front line) (sym nothing) ∙ sym (front_more wanted codes lines line (variables_in lines) (rows_in wanted codes lines) same all)
          ]
    ]

-- How far a table was read: the front is that of the lines so far, none of which has a fault.
pub record HasRead (wanted : Wanted) (codes : Codes) (bytes : List ℕ) (front : Front) (rest : List ℕ) : Type 0 where
  pub before : List (List ℕ)
  pub together : front ≡ front_of wanted codes before
  pub faults : first_fault wanted codes [] (lines_of bytes) ≡ first_fault wanted codes before (lines_of rest)
  pub lines : lines_of bytes ≡ before ++ lines_of rest

pub nothing_read : (wanted : Wanted) (codes : Codes) (bytes : List ℕ) → HasRead wanted codes bytes (record { lines = 0; bytes = 0; variables = 0; rows = [] }) bytes
unfolding rows_in
nothing_read wanted codes bytes = record { before = []; together = refl; faults = refl; lines = refl }

-- a line's fault, where there is one
pub fault_of : (wanted : Wanted) (codes : Codes) (front : Front) (line : List ℕ) (fault : TableFault) → with_line wanted codes front line ≡ Err fault → result_err (judged wanted codes front line) ≡ Some fault
fault_of wanted codes front line fault is = unmapped (judged wanted codes front line) is
  where
    unmapped : (r : Result Added TableFault) → result_map (added_to front line) r ≡ Err fault → result_err r ≡ Some fault
    unmapped (Ok added) same = absurd (cc same)
    unmapped (Err other) same = cc same

pub none_of : (wanted : Wanted) (codes : Codes) (front new : Front) (line : List ℕ) → with_line wanted codes front line ≡ Ok new → result_err (judged wanted codes front line) ≡ None
none_of wanted codes front new line is = unmapped (judged wanted codes front line) is
  where
    unmapped : (r : Result Added TableFault) → result_map (added_to front line) r ≡ Ok new → result_err r ≡ None
    unmapped (Ok added) same = refl
    unmapped (Err other) same = absurd (cc same)

-- one line more
pub more_read : (wanted : Wanted) (codes : Codes) (bytes rest behind line : List ℕ) (front new : Front) → HasRead wanted codes bytes front rest → lines_of rest ≡ line ∷ lines_of behind → with_line wanted codes front line ≡ Ok new → HasRead wanted codes bytes new behind
unfolding first_fault
more_read wanted codes bytes rest behind line front new read cut is =
    let before = read.before in
    let told : with_line wanted codes (front_of wanted codes before) line ≡ Ok new = ap (λ f. with_line wanted codes f line) (sym read.together) ∙ is in
    record {
      before = before ++ line ∷ [];
      together = front_of_push wanted codes before line new told;
      faults =
          read.faults
          ∙ ap (first_fault wanted codes before) cut
          ∙ ap (λ fault. option_or fault (first_fault wanted codes (before ++ line ∷ []) (lines_of behind))) (none_of wanted codes (front_of wanted codes before) new line told);
      lines = read.lines ∙ ap (λ (rest : List (List ℕ)). before ++ rest) cut ∙ sym (append_assoc before (line ∷ []) (lines_of behind));
    }

-- the first fault is the file's
pub fault_read : (want : Want) (codes : Codes) (bytes rest behind line : List ℕ) (front : Front) (fault : TableFault) → HasRead (wanted_of want) codes bytes front rest → lines_of rest ≡ line ∷ lines_of behind → with_line (wanted_of want) codes front line ≡ Err fault → table_of want codes bytes ≡ Err fault
unfolding first_fault table_of
fault_read want codes bytes rest behind line front fault read cut is =
    let wanted = wanted_of want in
    let before = read.before in
    let found : first_fault wanted codes [] (lines_of bytes) ≡ Some fault =
    read.faults
    ∙ ap (first_fault wanted codes before) cut
    ∙ ap (λ told. option_or told (first_fault wanted codes (before ++ line ∷ []) (lines_of behind))) (fault_of wanted codes (front_of wanted codes before) line fault (ap (λ f. with_line wanted codes f line) (sym read.together) ∙ is)) in
    ap (λ told. option_map_or Err told (ended wanted (front_of wanted codes (lines_of bytes)))) found

-- all lines were read
pub all_read : (want : Want) (codes : Codes) (bytes rest : List ℕ) (front : Front) → HasRead (wanted_of want) codes bytes front rest → lines_of rest ≡ [] → table_of want codes bytes ≡ ended (wanted_of want) front
unfolding first_fault table_of
all_read want codes bytes rest front read over =
    let wanted = wanted_of want in
    let found : first_fault wanted codes [] (lines_of bytes) ≡ None = read.faults ∙ ap (first_fault wanted codes read.before) over in
    let all : lines_of bytes ≡ read.before = read.lines ∙ ap (λ (more : List (List ℕ)). read.before ++ more) over ∙ append-nil read.before in
    ap (λ told. option_map_or Err told (ended wanted (front_of wanted codes (lines_of bytes)))) found
    ∙ ap (λ lines. ended wanted (front_of wanted codes lines)) all
    ∙ ap (ended wanted) (sym read.together)

-- what is told of the line is told of the file
pub tells_read : (want : Want) (codes : Codes) (bytes rest behind line : List ℕ) (front : Front) (error : TableError) → HasRead (wanted_of want) codes bytes front rest → lines_of rest ≡ line ∷ lines_of behind → Tells error (with_line (wanted_of want) codes front line) → Tells error (table_of want codes bytes)
tells_read want codes bytes rest behind line front errors.NoMemory read cut is = tt
tells_read want codes bytes rest behind line front (errors.Fault fault) read cut is = fault_read want codes bytes rest behind line front fault read cut is
