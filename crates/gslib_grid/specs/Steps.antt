-- A table as the program takes it, line by line.
use Rattle.std.specs.Prelude.{ℕ, ◌+◌, ◌^◌, ◌≤◌, Bool, ◌&&◌, ◌==◌, ℤ, List, [], ◌∷◌, ◌++◌, length, All, None, Result}
use Rattle.mp_base.specs.Grid.{IsBelow}
use Rattle.mp_base.specs.declared.codes.Codes.{Codes}
use Rattle.gslib_grid.specs.declared.want.Wanted.{Wanted}
use Rattle.gslib_grid.specs.declared.number.Numbers.{Numbers}
use Rattle.gslib_grid.specs.declared.fault.TableFault.{TableFault}
use Rattle.gslib_grid.specs.Table.{Front, Added, Nothing, Count, OneRow, judged, result_map}

-- a front with one line more
abbrev pub added_to : Front → List ℕ → Added → Front
added_to front line Nothing = record front { lines = front.lines + 1; bytes = front.bytes + length line }
added_to front line (Count count) = record front { lines = front.lines + 1; bytes = front.bytes + length line; variables = count }
added_to front line (OneRow row) = record front { lines = front.lines + 1; bytes = front.bytes + length line; rows = front.rows ++ row ∷ [] }

-- the front behind the next line, or that line's first fault
abbrev pub with_line : Wanted → Codes → Front → List ℕ → Result Front TableFault
with_line wanted codes front line = result_map (added_to front line) (judged wanted codes front line)

-- what the program keeps of a front
pub record IsFront (front : Front) : Type 0 where
  pub lines : front.lines ≤ front.bytes
  pub rows : length front.rows ≤ front.bytes
  pub bytes : front.bytes ≤ 2 ^ 28
  pub variables : front.variables ≤ 64
  pub cats : All (λ row. IsBelow 8 row.cat) front.rows

-- the first column alone is read, as the category
abbrev pub is_first_alone : Wanted → Bool
is_first_alone wanted = (wanted.x == 0 && wanted.y == 0) && (wanted.z == 0 && wanted.category == 1)

-- the numbers of a row where the category's code alone is read
abbrev pub code_alone : ℤ → Numbers
code_alone code = record { x = None; y = None; z = None; code = code }
