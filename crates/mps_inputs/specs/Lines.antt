-- The line that tells a fault.
use Rattle.std.specs.Prelude.{ℕ, List, ◌++◌, codes}
use Rattle.std.specs.Fmt.{decimal}
use Rattle.gslib_grid.specs.declared.fault.TableFault.{TableFault}
use Rattle.gslib_grid.specs.declared.fault.TableFault.TheVariants as table
use Rattle.mp_params.specs.declared.fault.ParamsFault.{ParamsFault}
use Rattle.mp_params.specs.declared.fault.ParamsFault.TheVariants as parameters
use Rattle.mp_params.specs.Table.{key_name}
use Rattle.mps_inputs.specs.declared.fault.Fault.{Fault}
use Rattle.mps_inputs.specs.declared.fault.Fault.TheVariants.{Usage, Parameters, CannotRead, CannotWrite, Image, Points, TooFewPositions, OutOfMemory, CannotReport, Schedule}
use Rattle.mps_inputs.specs.declared.fault.ScheduleFault.{ScheduleFault}
use Rattle.mps_inputs.specs.declared.fault.ScheduleFault.TheVariants as schedule

-- a reason that names a line
abbrev pub at_line : ℕ → List ℕ → List ℕ
at_line line reason = codes "line " ++ (decimal line ++ (codes ": " ++ reason))

abbrev pub parameters_reason : ParamsFault → List ℕ
parameters_reason parameters.TooLong = codes "file too long"
parameters_reason (parameters.BadLine line) = at_line line (codes "not a key and a value")
parameters_reason (parameters.UnknownKey line) = at_line line (codes "unknown key")
parameters_reason (parameters.Twice line) = at_line line (codes "key given twice")
parameters_reason (parameters.BadValue line) = at_line line (codes "bad value")
parameters_reason (parameters.Absent key) = key_name key ++ codes " is absent"
parameters_reason parameters.BadMissing = codes "missing code is a category"
parameters_reason parameters.BadTargets = codes "targets do not fit"

abbrev pub table_reason : TableFault → List ℕ
table_reason table.NoTitle = codes "no title"
table_reason table.BadCount = at_line 2 (codes "bad count")
table_reason table.NoColumn = at_line 2 (codes "no such column")
table_reason (table.ShortRow line) = at_line line (codes "short row")
table_reason (table.BadNumber line) = at_line line (codes "bad number")
table_reason (table.UnknownCategory line) = at_line line (codes "unknown category")
table_reason (table.TooFewRows line) = at_line line (codes "too few rows")
table_reason (table.TooManyRows line) = at_line line (codes "too many rows")
table_reason (table.TooLong line) = at_line line (codes "too long")

abbrev pub schedule_reason : ScheduleFault → List ℕ
schedule_reason (schedule.BadLine line) = codes "line " ++ decimal line
schedule_reason schedule.TooLong = codes "file too long"

abbrev pub reason_of : Fault → List ℕ
reason_of Usage = codes "usage: run PARAMS [--workers N] | check PARAMS | scan PARAMS LEVEL EVENT | replay PARAMS SCHEDULE | demo N [--list]"
reason_of (Parameters fault) = codes "parameters: " ++ parameters_reason fault
reason_of (CannotRead name) = codes "cannot read " ++ name
reason_of (CannotWrite name) = codes "cannot write " ++ name
reason_of (Image fault) = codes "image: " ++ table_reason fault
reason_of (Points fault) = codes "points: " ++ table_reason fault
reason_of (TooFewPositions level have want) =
    codes "too few positions at level " ++ (decimal level ++ (codes ": have " ++ (decimal have ++ (codes ", want " ++ decimal want))))
reason_of OutOfMemory = codes "out of memory"
reason_of CannotReport = codes "cannot write the report"
reason_of (Schedule fault) = codes "schedule: " ++ schedule_reason fault

abbrev pub line_of : Fault → List ℕ
line_of fault = codes "mpsim: " ++ (reason_of fault ++ codes "\n")
