-- A table that is read in pieces: what is told of the bytes so far, and what a reader was fed.
use Rattle.std.specs.Prelude.{◌≡◌, ℕ, ◌+◌, ◌-◌, ◌==◌, ◌≤◌, Bool, ◌&&◌, nat_lt, List, [], ◌++◌, length, filter, slice_index, Option, Some, None, MatchOption, Result, Ok, Err, if◌then◌else◌}
use Rattle.std.specs.List.{after_last}
use Rattle.std.specs.Option.{option_or, option_map_or}
use Rattle.mp_base.specs.declared.codes.Codes.{Codes}
use Rattle.mp_text.specs.Lines.{lines_of}
use Rattle.gslib_grid.specs.Table.{Front, Tells, first_fault, front_of, is_too_long, result_map, wanted_of}
use Rattle.gslib_grid.specs.Steps.{with_line}
use Rattle.gslib_grid.specs.declared.want.Want.{Want}
use Rattle.gslib_grid.specs.declared.want.Wanted.{Wanted}
use Rattle.gslib_grid.specs.declared.fault.TableError.{TableError}
use Rattle.gslib_grid.specs.declared.fault.TableFault.{TableFault}
use Rattle.gslib_grid.specs.declared.fault.TableFault.TheVariants.{TooLong}

-- What is told of the bytes so far.

-- it ends with a line feed
abbrev pub has_ended : List ℕ → Bool
has_ended line = nat_lt 0 (length line) && (slice_index line (length line - 1) == 10)

-- the lines that have ended
unfoldable pub ended_lines : List ℕ → List (List ℕ)
ended_lines bytes = filter has_ended (lines_of bytes)

-- what stands behind the last line feed: a line that has begun and may go on
unfoldable pub begun_line : List ℕ → List ℕ
begun_line bytes = after_last (λ b. b == 10) bytes

-- that a line is too long, as far as it goes
abbrev pub long_fault : Front → List ℕ → Option TableFault
long_fault front line = if is_too_long front line then Some (TooLong (front.lines + 1)) else None

-- the first fault of the lines that have ended, or else that the line that has begun is too long already
unfoldable pub fault_so_far : Want → Codes → List ℕ → Option TableFault
fault_so_far want codes bytes =
    let lines = ended_lines bytes in
    option_or (first_fault (wanted_of want) codes [] lines) (long_fault (front_of (wanted_of want) codes lines) (begun_line bytes))

-- that fault, or nothing to tell
abbrev pub told_so_far : Want → Codes → List ℕ → Result (Unit {0}) TableFault
told_so_far want codes bytes = option_map_or Err (fault_so_far want codes bytes) (Ok tt)

-- What a reader was fed.

-- what a reader is seen as: what is asked of the table, what the lines that have ended are together, the line that has begun
-- behind them, and the error that was told, if any
pub record Reading : Type 0 where
  pub wanted : Wanted
  pub codes : Codes
  pub front : Front
  pub begun : List ℕ
  pub told : Option TableError

-- no fault is told of the bytes, and the reader stands behind them
pub record StandsBehind (want : Want) (codes : Codes) (reader : Reading) (bytes : List ℕ) : Type 0 where
  pub wanted : reader.wanted ≡ wanted_of want
  pub listed : reader.codes ≡ codes
  pub no_fault : fault_so_far want codes bytes ≡ None
  pub front : reader.front ≡ front_of (wanted_of want) codes (ended_lines bytes)
  pub begun : reader.begun ≡ begun_line bytes

-- it was asked for this and fed exactly these bytes: it stands behind them, or an error of theirs was told
abbrev pub WasFed : Want → Codes → Reading → List ℕ → Type 0
WasFed want codes reader bytes = MatchOption reader.told (StandsBehind want codes reader bytes) (λ error. Tells error (told_so_far want codes bytes))

-- whatever it was fed before, now it was fed the piece behind it
abbrev pub Takes : Reading → Reading → List ℕ → Type 0
Takes before now piece = (want : Want) (codes : Codes) (bytes : List ℕ) → WasFed want codes before bytes → WasFed want codes now (bytes ++ piece)

-- What is known on the way.

-- what a reader keeps: a column for the category, and few bytes of a line
pub record IsReading (reader : Reading) : Type 0 where
  pub column : 1 ≤ reader.wanted.category
  pub few : length reader.begun ≤ 65537

-- whatever it was fed before, with the piece behind it the error is told
abbrev pub TellsWith : Reading → List ℕ → TableError → Type 0
TellsWith before piece error = (want : Want) (codes : Codes) (bytes : List ℕ) → WasFed want codes before bytes → Tells error (told_so_far want codes (bytes ++ piece))

-- the reader with a part of a line more, which may end it, or the fault that this brings
abbrev pub with_part : Reading → List ℕ → Result Reading TableFault
with_part reader part =
    if has_ended part then result_map (λ front. record reader { front = front; begun = [] }) (with_line reader.wanted reader.codes reader.front (reader.begun ++ part))
    else option_map_or Err (long_fault reader.front (reader.begun ++ part)) (Ok (record reader { begun = reader.begun ++ part }))
