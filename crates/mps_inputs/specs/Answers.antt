-- When each answer of a command comes, and what it leaves: in the output file, in all other files, in `out`, and in `err`.
use Rattle.std.specs.Prelude.{⊤, ◌≡◌, ◌⊎◌, ℕ, List, ◌++◌, take, IsTrue, Option, Some, None, Result, Ok, Err, IfOk, IsOk, IsOkAnd, IsSomeAnd}
use Rattle.mp_outside.specs.Contents.{Held, SameHeld, OnlyHeldAt}
use Rattle.mp_outside.specs.Seen.{FilesSeen, SinkSeen, ReadFailed, WriteFailed, SinkFailed, without}
use Rattle.mps_inputs.specs.Done.{Done, Output}
use Rattle.mps_inputs.specs.Lines.{line_of}
use Rattle.mps_inputs.specs.Status.{status_of}
use Rattle.mps_inputs.specs.declared.fault.Fault.{Fault}
use Rattle.mps_inputs.specs.declared.fault.Fault.TheVariants.{Usage, CannotRead, CannotWrite, OutOfMemory, CannotReport}

-- what is seen of files and of `out` at one moment
pub record Seen : Type 0 where
  pub files : FilesSeen
  pub out : SinkSeen

abbrev pub seen : FilesSeen → SinkSeen → Seen
seen files out = record { files = files; out = out }

-- Why an answer comes.

-- Why inputs weren't accepted: want of memory is free. A failed read comes where the count of its file rose, and no
-- refusal stands before the place of that file. All else is what the inputs come to.
abbrev pub IsInputFault : {A : Type 0} → (Held → Result A Fault) → FilesSeen → FilesSeen → Fault → Type 0
IsInputFault outcome before now OutOfMemory = ⊤
IsInputFault outcome before now Usage = ⊥
IsInputFault outcome before now (CannotRead name) =
    ReadFailed name before now × (IsTrue before.tells → outcome (without before.held name) ≡ Err (CannotRead name))
IsInputFault outcome before now (CannotWrite name) = ⊥
IsInputFault outcome before now CannotReport = ⊥
IsInputFault outcome before now fault = IsTrue before.tells → outcome before.held ≡ Err fault

-- inputs that were accepted are what the files come to, where these tell what they hold
abbrev pub IsAccepted : {A : Type 0} → (Held → Result A Fault) → FilesSeen → Result A Fault → Type 0
IsAccepted outcome before result = IfOk result (λ a. IsTrue before.tells → outcome before.held ≡ Ok a)

-- words are refused: by what the files hold, where they tell it, and at any rate by what they may hold
abbrev pub IsUsage : (Held → Result Done Fault) → FilesSeen → Type 0
IsUsage outcome before = ((held : Held) × (outcome held ≡ Err Usage)) × (IsTrue before.tells → outcome before.held ≡ Err Usage)

-- the file that is written has this name
abbrev pub WritesTo : List ℕ → Done → Type 0
WritesTo name done = IsSomeAnd done.output (λ file. file.name ≡ name)

-- Words are refused by the outcome. A failed write comes where the count of its file, or of `out`, rose, and
-- nothing is refused.
abbrev pub Causes : (Held → Result Done Fault) → Seen → Seen → Result (Unit {0}) Fault → Type 0
Causes outcome before now (Ok _) = IsTrue before.files.tells → IsOk (outcome before.files.held)
Causes outcome before now (Err Usage) = IsUsage outcome before.files
Causes outcome before now (Err (CannotWrite name)) =
    WriteFailed name before.files now.files × (IsTrue before.files.tells → IsOkAnd (outcome before.files.held) (WritesTo name))
Causes outcome before now (Err CannotReport) = SinkFailed before.out now.out × (IsTrue before.files.tells → IsOk (outcome before.files.held))
Causes outcome before now (Err fault) = IsInputFault outcome before.files now.files fault

-- What is left.

-- the file holds its text, and no other name anything else than before
pub record HoldsText (before now : Held) (file : Output) : Type 0 where
  pub text : now file.name ≡ Some file.text
  pub others : OnlyHeldAt file.name before now

-- the file holds what it held or a front of its text, and no other name anything else than before
pub record HoldsFront (before now : Held) (file : Output) : Type 0 where
  pub front : (now file.name ≡ before file.name) ⊎ ((count : ℕ) × (now file.name ≡ Some (take count file.text)))
  pub others : OnlyHeldAt file.name before now

-- what is told of the file that is written; where there is none, all files are as before
abbrev pub OfOutput : (Held → Held → Output → Type 0) → Held → Held → Option Output → Type 0
OfOutput Holds before now None = SameHeld before now
OfOutput Holds before now (Some file) = Holds before now file

-- the output is whole
abbrev pub IsWhole : Held → Held → Done → Type 0
IsWhole before now done = OfOutput HoldsText before now done.output

-- the output is a front of its text, or as before
abbrev pub IsPart : Held → Held → Done → Type 0
IsPart before now done = OfOutput HoldsFront before now done.output

-- all is done: nothing is refused, the output is whole, and so is the text in `out`
abbrev pub IsDone : (Held → Result Done Fault) → Held → Held → List ℕ → List ℕ → Type 0
IsDone outcome before now out_before out_now = IsOkAnd (outcome before) (λ done. IsWhole before now done × (out_now ≡ out_before ++ done.out))

-- what the files hold after an answer
abbrev pub LeavesFiles : Result Done Fault → Held → Held → Result (Unit {0}) Fault → Type 0
LeavesFiles outcome before now (Ok _) = IsOkAnd outcome (IsWhole before now)
LeavesFiles outcome before now (Err CannotReport) = IsOkAnd outcome (IsWhole before now)
LeavesFiles outcome before now (Err (CannotWrite name)) = IsOkAnd outcome (IsPart before now)
LeavesFiles outcome before now (Err OutOfMemory) = SameHeld before now ⊎ IsOkAnd outcome (IsPart before now)
LeavesFiles outcome before now (Err fault) = SameHeld before now

-- a front of the text was written
abbrev pub IsFront : List ℕ → List ℕ → Done → Type 0
IsFront before now done = (count : ℕ) × (now ≡ before ++ take count done.out)

-- what was written to `out` after an answer: the outcome is known where the files tell
abbrev pub LeavesOut : Type 0 → Result Done Fault → List ℕ → List ℕ → Result (Unit {0}) Fault → Type 0
LeavesOut Told outcome before now (Ok _) = Told → IsOkAnd outcome (λ done. now ≡ before ++ done.out)
LeavesOut Told outcome before now (Err CannotReport) = Told → IsOkAnd outcome (IsFront before now)
LeavesOut Told outcome before now (Err OutOfMemory) = (now ≡ before) ⊎ (Told → IsOkAnd outcome (IsFront before now))
LeavesOut Told outcome before now (Err fault) = now ≡ before

-- What `err` tells, where it tells what was written: nothing of success. A fault's line is told whole, or a front of it where
-- the write failed, or nothing for want of memory.
abbrev pub IsTold : SinkSeen → SinkSeen → Result (Unit {0}) Fault → Type 0
IsTold before now (Ok _) = IsTrue before.tells → now.written ≡ before.written
IsTold before now (Err fault) =
    IsTrue before.tells
    → (now.written ≡ before.written ++ line_of fault) ⊎ (now.written ≡ before.written)
    ⊎ (SinkFailed before now × ((count : ℕ) × (now.written ≡ before.written ++ take count (line_of fault))))

-- An answer: why it comes, and what it leaves in the files and in `out`.
pub record Serves (outcome : Held → Result Done Fault) (before now : Seen) (answer : Result (Unit {0}) Fault) : Type 0 where
  pub cause : Causes outcome before now answer
  pub files : IsTrue before.files.tells → LeavesFiles (outcome before.files.held) before.files.held now.files.held answer
  pub out : IsTrue before.out.tells → LeavesOut (IsTrue before.files.tells) (outcome before.files.held) before.out.written now.out.written answer

-- There is an answer whose status is the number, which comes as it should, and whose line was told: over what was seen of
-- files, `out` and `err` before and afterwards.
pub record IsAnswer (outcome : Held → Result Done Fault)
    (files_before : FilesSeen) (out_before err_before : SinkSeen) (files_now : FilesSeen) (out_now err_now : SinkSeen) (status : ℕ) : Type 0 where
  pub answer : Result (Unit {0}) Fault
  pub number : status ≡ status_of answer
  pub serves : Serves outcome (seen files_before out_before) (seen files_now out_now) answer
  pub line : IsTold err_before err_now answer

-- What is known on the way.

-- a fault that the outcome is, or want of memory; no call of the outside has failed
abbrev pub IsRefusal : {A : Type 0} → Result A Fault → Fault → Type 0
IsRefusal outcome OutOfMemory = ⊤
IsRefusal outcome Usage = ⊥
IsRefusal outcome (CannotRead name) = ⊥
IsRefusal outcome (CannotWrite name) = ⊥
IsRefusal outcome CannotReport = ⊥
IsRefusal outcome fault = outcome ≡ Err fault

-- why work on accepted inputs ended so
abbrev pub Finishes : Result Done Fault → Seen → Seen → Result (Unit {0}) Fault → Type 0
Finishes outcome before now (Ok _) = IsOk outcome
Finishes outcome before now (Err (CannotWrite name)) = WriteFailed name before.files now.files × IsOkAnd outcome (WritesTo name)
Finishes outcome before now (Err CannotReport) = SinkFailed before.out now.out × IsOk outcome
Finishes outcome before now (Err fault) = IsRefusal outcome fault

-- Work on accepted inputs, whose outcome is known: why it ended so, and what it leaves.
pub record Ends (outcome : Result Done Fault) (before now : Seen) (answer : Result (Unit {0}) Fault) : Type 0 where
  pub cause : Finishes outcome before now answer
  pub files : IsTrue before.files.tells → LeavesFiles outcome before.files.held now.files.held answer
  pub out : IsTrue before.out.tells → LeavesOut (IsTrue before.files.tells) outcome before.out.written now.out.written answer
