-- The exit status of an answer.
use Rattle.std.specs.Prelude.{ℕ, Result, Ok, Err}
use Rattle.mps_inputs.specs.declared.fault.Fault.{Fault}
use Rattle.mps_inputs.specs.declared.fault.Fault.TheVariants.{Usage, Parameters, CannotRead, CannotWrite, Image, Points, TooFewPositions, OutOfMemory, CannotReport, Schedule}

abbrev pub status_of_fault : Fault → ℕ
status_of_fault Usage = 1
status_of_fault (Parameters fault) = 2
status_of_fault (CannotRead name) = 3
status_of_fault (CannotWrite name) = 4
status_of_fault (Image fault) = 5
status_of_fault (Points fault) = 6
status_of_fault (TooFewPositions level have want) = 7
status_of_fault OutOfMemory = 8
status_of_fault CannotReport = 9
status_of_fault (Schedule fault) = 10

abbrev pub status_of : {A : Type 0} → Result A Fault → ℕ
status_of (Ok _) = 0
status_of (Err fault) = status_of_fault fault
