-- What was read of a file and what was written to one, and why that failed.
use Rattle.std.specs.Prelude.{◌≡◌, ◌⊎◌, ℕ, List, ◌++◌, take, Option, Some, Result, Ok, Err, IsSomeAnd, IsTrue, Vec}
use Rattle.std.specs.declared.alloc.Global.{Global}
use Rattle.mp_outside.specs.Contents.{IsReadUpTo}
use Rattle.mp_outside.specs.Seen.{FilesSeen, SinkSeen, ReadFailed, WriteFailed, SinkFailed}
use Rattle.mp_outside.specs.declared.files.OutFault.{OutFault}
use Rattle.mp_outside.specs.declared.files.OutFault.TheVariants.{Failed, NoMemory}
use Rattle.mps_inputs.specs.declared.fault.Fault.{Fault}
use Rattle.mps_inputs.specs.declared.fault.Fault.TheVariants.{CannotRead, CannotWrite, OutOfMemory, CannotReport}

-- Why a call failed: want of memory is free, and else a count rose.

-- why a file couldn't be read
abbrev pub IsReadFault : List ℕ → FilesSeen → FilesSeen → Fault → Type 0
IsReadFault name before now fault = (fault ≡ OutOfMemory) ⊎ ((fault ≡ CannotRead name) × ReadFailed name before now)

-- why a file couldn't be written
abbrev pub IsWriteFault : List ℕ → FilesSeen → FilesSeen → Fault → Type 0
IsWriteFault name before now fault = (fault ≡ OutOfMemory) ⊎ ((fault ≡ CannotWrite name) × WriteFailed name before now)

-- why a text for `out` couldn't be written
abbrev pub IsReportFault : SinkSeen → SinkSeen → Fault → Type 0
IsReportFault before now fault = (fault ≡ OutOfMemory) ⊎ ((fault ≡ CannotReport) × SinkFailed before now)

-- the fault of a write under this name
abbrev pub fault_of : List ℕ → OutFault → Fault
fault_of name Failed = CannotWrite name
fault_of name NoMemory = OutOfMemory

-- What was read, and what was written.

-- what was read of a file, which is held: all its bytes, or a part that is longer than the limit
abbrev pub IsReadOf : Option (List ℕ) → ℕ → Vec ℕ Global → Type 0
IsReadOf content limit got = IsSomeAnd content (λ bytes. IsReadUpTo limit bytes got.items)

-- the text is held, or a front of it
abbrev pub IsFilled : {A : Type 0} → Option (List ℕ) → List ℕ → Result A Fault → Type 0
IsFilled now text (Ok _) = now ≡ Some text
IsFilled now text (Err _) = (count : ℕ) × (now ≡ Some (take count text))

-- the text was written, or a front of it, or nothing was changed
abbrev pub IsWritten : {A : Type 0} → Option (List ℕ) → Option (List ℕ) → List ℕ → Result A Fault → Type 0
IsWritten before now text (Ok _) = now ≡ Some text
IsWritten before now text (Err _) = (now ≡ before) ⊎ ((count : ℕ) × (now ≡ Some (take count text)))

-- the text was added to `out`, or a front of it
abbrev pub IsReported : List ℕ → List ℕ → List ℕ → Result (Unit {0}) Fault → Type 0
IsReported before now text (Ok _) = now ≡ before ++ text
IsReported before now text (Err _) = (count : ℕ) × (now ≡ before ++ take count text)

-- The same of a file among others, where they tell what they hold.

abbrev pub Filled : {A : Type 0} → List ℕ → List ℕ → FilesSeen → FilesSeen → Result A Fault → Type 0
Filled name text before now result = IsTrue before.tells → IsFilled (now.held name) text result

abbrev pub Written : {A : Type 0} → List ℕ → List ℕ → FilesSeen → FilesSeen → Result A Fault → Type 0
Written name text before now result = IsTrue before.tells → IsWritten (before.held name) (now.held name) text result

-- the same of `out`
abbrev pub Reported : List ℕ → SinkSeen → SinkSeen → Result (Unit {0}) Fault → Type 0
Reported text before now result = IsTrue before.tells → IsReported before.written now.written text result
