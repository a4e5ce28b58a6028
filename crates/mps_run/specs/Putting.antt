-- A text that is put into the output file part by part: where the file stands, and what it holds after an error.
use Rattle.std.specs.Prelude.{◌≡◌, ℕ, List, Some, Result, Ok, Err, IsNone, IsSome, IsSomeAnd, IsTrue}
use Rattle.mp_outside.specs.Seen.{FilesSeen}
use Rattle.mp_outside.specs.declared.files.OutFault.{OutFault}
use Rattle.realisation_out.specs.Pieces.{HasPut, IsFront, PiecesSeen}

-- more can be put: no error came so far, and the file is there
pub record IsOpen (pieces : PiecesSeen) (files : FilesSeen) : Type 0 where
  pub unfailed : IsNone pieces.fault
  pub there : IsTrue files.tells → IsSome (files.held pieces.name)

-- the file holds a front of a text
abbrev pub HasFront : List ℕ → FilesSeen → List ℕ → Type 0
HasFront name files text = IsTrue files.tells → IsSomeAnd (files.held name) (IsFront text)

-- a text was put, or after an error the file holds a front of it
abbrev pub IsPutOrFront : {A : Type 0} → PiecesSeen → FilesSeen → List ℕ → Result A OutFault → Type 0
IsPutOrFront pieces files text (Ok _) = HasPut pieces files text
IsPutOrFront pieces files text (Err _) = HasFront pieces.name files text

-- the whole text is held, or after an error a front of it
abbrev pub IsWholeOrFront : {A : Type 0} → List ℕ → FilesSeen → List ℕ → Result A OutFault → Type 0
IsWholeOrFront name files text (Ok _) = IsTrue files.tells → files.held name ≡ Some text
IsWholeOrFront name files text (Err _) = HasFront name files text
