-- What a table is, the faults that its lines may have, and the rows that it gives.
use Rattle.std.specs.Prelude.{◌≡◌, ℕ, ◌+◌, ◌-◌, ◌^◌, Bool, ◌&&◌, ◌||◌, ◌==◌, nat_lt, nat_le, List, [], ◌∷◌, ◌++◌, length, drop, map, filter, sum_by, slice_get, slice_index, ℤ, Option, Some, None, Result, Ok, Err, if◌then◌else◌, option_map, option_and_then, unwrap_or}
use Rattle.std.specs.Option.{option_or, option_map_or}
use Rattle.std.specs.Result.{result_ok, result_err}
use Rattle.std.specs.List.{position, filter_map, enumerate_from}
use Rattle.std.specs.Ordering.{int_eq}
use Rattle.mp_base.specs.Number.{whole_of, micro_of, short_number}
use Rattle.mp_base.specs.declared.codes.Codes.{Codes}
use Rattle.mp_text.specs.Lines.{lines_of, text_of, without_line_feed}
use Rattle.mp_text.specs.Fields.{fields_of}
use Rattle.gslib_grid.specs.declared.want.Want.{Want}
use Rattle.gslib_grid.specs.declared.want.Want.TheVariants.{Image, Points}
use Rattle.gslib_grid.specs.declared.want.Wanted.{Wanted}
use Rattle.gslib_grid.specs.declared.number.Numbers.{Numbers}
use Rattle.gslib_grid.specs.declared.row.Row.{Row}
use Rattle.gslib_grid.specs.declared.row.Table.{Table}
use Rattle.gslib_grid.specs.declared.fault.TableFault.{TableFault}
use Rattle.gslib_grid.specs.declared.fault.TableFault.TheVariants.{NoTitle, BadCount, NoColumn, ShortRow, BadNumber, UnknownCategory, TooFewRows, TooManyRows, TooLong}
use Rattle.gslib_grid.specs.declared.fault.TableError.{TableError}
use Rattle.gslib_grid.specs.declared.fault.TableError.TheVariants as errors

-- the value by f, and the error as it is
abbrev pub result_map : {A B E : Type 0} → (A → B) → Result A E → Result B E
result_map f (Ok x) = Ok (f x)
result_map f (Err e) = Err e

infixl 10 ◌>>=◌
abbrev pub ◌>>=◌ : {A B : Type 0} → Option A → (A → Option B) → Option B
o >>= f = option_and_then f o

-- the columns that are read, 0 for none, and how many rows there may be
abbrev pub wanted_of : Want → Wanted
wanted_of (Image column rows) = record { x = 0; y = 0; z = 0; category = column; least = rows; most = rows }
wanted_of (Points columns) =
    record {
      x = slice_index columns 0;
      y = slice_index columns 1;
      z = slice_index columns 2;
      category = slice_index columns 3;
      least = 0;
      most = 2 ^ 20;
    }

-- The number of variables.

-- a number of variables is from 1 to 64
abbrev pub as_count : ℕ → Option ℕ
as_count n = if nat_le 1 n && nat_le n 64 then Some n else None

-- what the second line tells by its first field, which is one to nine digits
unfoldable pub count_in : List (List ℕ) → Option ℕ
count_in fields = slice_get fields 0 >>= λ field. short_number 9 field >>= as_count

-- each wanted column is there
abbrev pub has_columns : Wanted → ℕ → Bool
has_columns wanted count = (nat_le wanted.x count && nat_le wanted.y count) && (nat_le wanted.z count && nat_le wanted.category count)

-- this number of variables, or what is wrong with it
abbrev pub checked_count : Wanted → Option ℕ → Result ℕ TableFault
checked_count wanted None = Err BadCount
checked_count wanted (Some count) = if has_columns wanted count then Ok count else Err NoColumn

-- The numbers of a row. Columns count from 1.

-- a coordinate in millionths, none where the column is 0; or nothing where the field isn't a number
abbrev pub coordinate_in : List (List ℕ) → ℕ → Option (Option ℤ)
coordinate_in fields column = if column == 0 then Some None else (slice_get fields (column - 1) >>= λ field. option_map Some (result_ok (micro_of field)))

-- a category's code, or nothing where the field isn't a whole number
abbrev pub code_in : List (List ℕ) → ℕ → Option ℤ
code_in fields column = slice_get fields (column - 1) >>= λ field. result_ok (whole_of field)

-- the wanted numbers, or nothing where one of them isn't a number of its kind
unfoldable pub numbers_in : Wanted → List (List ℕ) → Option Numbers
numbers_in wanted fields = do
  x ← coordinate_in fields wanted.x
  y ← coordinate_in fields wanted.y
  z ← coordinate_in fields wanted.z
  code ← code_in fields wanted.category
  Some (record { x = x; y = y; z = z; code = code })

-- the category of a code, none for the missing code; or nothing where the code is neither listed nor the missing one
unfoldable pub category_of : Codes → ℤ → Option (Option ℕ)
category_of codes code = option_or (option_map Some (position (int_eq code) codes.categories)) (if int_eq code codes.missing then Some None else None)

-- What stands before a line, and the faults of the line.

-- the number of lines, their bytes, the number of variables, 0 before it is told, and the rows
pub record Front : Type 0 where
  pub lines : ℕ
  pub bytes : ℕ
  pub variables : ℕ
  pub rows : List Row

-- a row on the line of this number
abbrev pub row_from : ℕ → Numbers → Option ℕ → Row
row_from line numbers cat = record { line = line; x = numbers.x; y = numbers.y; z = numbers.z; cat = cat }

-- the row of these fields on the line of this number, where it has one
unfoldable pub row_in : Wanted → Codes → ℕ → List (List ℕ) → Option Row
row_in wanted codes line fields = numbers_in wanted fields >>= λ numbers. option_map (row_from line numbers) (category_of codes numbers.code)

-- the row of these numbers, or what is wrong with them
abbrev pub checked_category : ℕ → Numbers → Option (Option ℕ) → Result Row TableFault
checked_category line numbers None = Err (UnknownCategory line)
checked_category line numbers (Some cat) = Ok (row_from line numbers cat)

abbrev pub checked_numbers : Codes → ℕ → Option Numbers → Result Row TableFault
checked_numbers codes line None = Err (BadNumber line)
checked_numbers codes line (Some numbers) = checked_category line numbers (category_of codes numbers.code)

-- the row of the next line, or its first fault
unfoldable pub judged_row : Wanted → Codes → Front → List (List ℕ) → Result Row TableFault
judged_row wanted codes front fields =
    if nat_le wanted.most (length front.rows) then Err (TooManyRows (front.lines + 1))
    else (if nat_lt (length fields) front.variables then Err (ShortRow (front.lines + 1))
    else checked_numbers codes (front.lines + 1) (numbers_in wanted fields))

-- it has more than 65,536 bytes before its line feed, or a byte at a place of 2 ^ 28 or more
abbrev pub is_too_long : Front → List ℕ → Bool
is_too_long front line = nat_lt 65536 (length (without_line_feed line)) || nat_lt (2 ^ 28) (front.bytes + length line)

-- it stands behind the names, and has a field
abbrev pub is_row : Front → List (List ℕ) → Bool
is_row front fields = nat_le (front.variables + 2) front.lines && nat_lt 0 (length fields)

-- what a line adds to a table: nothing where it is a title, a name or blank
pub data Added : Type 0 where
  Nothing : Added
  Count : (count : ℕ) → Added
  OneRow : (row : Row) → Added

-- what the next line adds, or its first fault
unfoldable pub judged : Wanted → Codes → Front → List ℕ → Result Added TableFault
judged wanted codes front line =
    if is_too_long front line then Err (TooLong (front.lines + 1))
    else (if front.lines == 1 then result_map Count (checked_count wanted (count_in (fields_of (text_of line))))
    else (if is_row front (fields_of (text_of line)) then result_map OneRow (judged_row wanted codes front (fields_of (text_of line)))
    else Ok Nothing))

-- The whole table.

-- what the second line tells, 0 where there is none
abbrev pub variables_in : List (List ℕ) → ℕ
variables_in lines = unwrap_or (slice_get lines 1 >>= λ line. count_in (fields_of (text_of line))) 0

-- the fields of a line, with the number of the line
abbrev pub numbered_fields : ℕ × List ℕ → ℕ × List (List ℕ)
numbered_fields line = (line.0, fields_of (text_of line.1))

-- the lines behind the names that have a field give the rows
unfoldable pub rows_in : Wanted → Codes → List (List ℕ) → List Row
rows_in wanted codes lines =
    filter_map (λ line. row_in wanted codes line.0 line.1)
    (filter (λ line. nat_lt 0 (length line.1)) (map numbered_fields (drop (variables_in lines + 2) (enumerate_from 1 lines))))

-- what these lines are together
abbrev pub front_of : Wanted → Codes → List (List ℕ) → Front
front_of wanted codes lines = record { lines = length lines; bytes = sum_by length lines; variables = variables_in lines; rows = rows_in wanted codes lines }

-- the first fault of lines that stand behind others: the first line that has one decides
unfoldable pub first_fault : Wanted → Codes → List (List ℕ) → List (List ℕ) → Option TableFault
first_fault wanted codes before [] = None
first_fault wanted codes before (line ∷ lines) = option_or (result_err (judged wanted codes (front_of wanted codes before) line)) (first_fault wanted codes (before ++ line ∷ []) lines)

-- the table of all lines, none of which has a fault, or what is missing at the end
unfoldable pub ended : Wanted → Front → Result Table TableFault
ended wanted front =
    if front.lines == 0 then Err NoTitle
    else (if nat_lt front.lines (front.variables + 2) then Err BadCount
    else (if nat_lt (length front.rows) wanted.least then Err (TooFewRows front.lines)
    else Ok (record { lines = front.lines; rows = front.rows })))

-- the table that a file is, or its fault
unfoldable pub table_of : Want → Codes → List ℕ → Result Table TableFault
table_of want codes bytes =
    let wanted = wanted_of want in
    let lines = lines_of bytes in
    option_map_or Err (first_fault wanted codes [] lines) (ended wanted (front_of wanted codes lines))

-- What the calls answer.

-- an error is the fault that is told, unless memory ran out
abbrev pub Tells : {X : Type 0} → TableError → Result X TableFault → Type 0
Tells errors.NoMemory told = Unit {0}
Tells (errors.Fault fault) told = told ≡ Err fault

-- an answer is what is told, unless memory ran out
abbrev pub Gives : {X : Type 0} → Result X TableError → Result X TableFault → Type 0
Gives (Ok x) told = told ≡ Ok x
Gives (Err error) told = Tells error told
