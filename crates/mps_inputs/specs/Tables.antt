-- Tables of files that the command names, which are read piece by piece.
use Rattle.std.specs.Prelude.{◌≡◌, ℕ, List, [], length, take, Option, Some, None, MatchOption, Result, Ok, IsTrue}
use Rattle.mp_base.specs.declared.codes.Codes.{Codes}
use Rattle.gslib_grid.specs.Reader.{Reading, WasFed}
use Rattle.gslib_grid.specs.Table.{table_of}
use Rattle.gslib_grid.specs.declared.fault.TableError.{TableError}
use Rattle.gslib_grid.specs.declared.fault.TableError.TheVariants as errors
use Rattle.gslib_grid.specs.declared.fault.TableFault.{TableFault}
use Rattle.gslib_grid.specs.declared.row.Table.{Table}
use Rattle.gslib_grid.specs.declared.want.Want.{Want}
use Rattle.gslib_grid.specs.declared.want.Want.TheVariants as want
use Rattle.mp_outside.specs.Seen.{FilesSeen}
use Rattle.mps_inputs.specs.Inputs.{judged}
use Rattle.mps_inputs.specs.declared.fault.Fault.{Fault}
use Rattle.mps_inputs.specs.declared.fault.Fault.TheVariants.{Image, Points, OutOfMemory}

-- a table's fault is told of the image, or of the points
abbrev pub table_fault : Want → TableFault → Fault
table_fault (want.Image column rows) fault = Image fault
table_fault (want.Points columns) fault = Points fault

-- why no table was read, as a fault
abbrev pub error_fault : Want → TableError → Fault
error_fault asked (errors.Fault fault) = table_fault asked fault
error_fault asked errors.NoMemory = OutOfMemory

-- the table that a file is
abbrev pub table_in : Want → Codes → List ℕ → Result Table Fault
table_in asked codes file = judged (table_fault asked) (table_of asked codes file)

-- some bytes are this table
abbrev pub IsTable : Want → Codes → Table → Type 0
IsTable asked codes table = (bytes : List ℕ) × (table_of asked codes bytes ≡ Ok table)

-- What is known on the way.

-- the bytes are the first ones of a file that is held
abbrev pub IsFirstOf : Option (List ℕ) → List ℕ → Type 0
IsFirstOf content bytes = MatchOption content (bytes ≡ []) (λ file. bytes ≡ take (length bytes) file)

-- a reader was fed so many bytes, the first ones of the file under the name where files tell what they hold, and told no error
pub record WasFedTo (asked : Want) (codes : Codes) (reader : Reading) (files : FilesSeen) (name : List ℕ) (place : ℕ) : Type 0 where
  pub bytes : List ℕ
  pub many : length bytes ≡ place
  pub fed : WasFed asked codes reader bytes
  pub untold : reader.told ≡ None
  pub first : IsTrue files.tells → IsFirstOf (files.held name) bytes

-- it was fed all bytes of the file
pub record WasFedFile (asked : Want) (codes : Codes) (reader : Reading) (files : FilesSeen) (name : List ℕ) : Type 0 where
  pub bytes : List ℕ
  pub fed : WasFed asked codes reader bytes
  pub all : IsTrue files.tells → files.held name ≡ Some bytes
