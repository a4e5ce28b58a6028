-- A text that goes into a file in pieces: what the file holds, and what is kept.
use Rattle.std.specs.Prelude.{◌≡◌, ◌<◌, ◌%◌, ℕ, List, [], ◌++◌, length, take, Option, Some, None, Result, Ok, Err, IsSomeAnd, IsTrue}
use Rattle.std.specs.Result.{result_err}
use Rattle.mp_outside.specs.Seen.{FilesSeen}
use Rattle.mp_outside.specs.declared.files.OutFault.{OutFault}

-- the name of the file, the bytes that are kept for the next piece, and the error that was answered
pub record PiecesSeen : Type 0 where
  pub name : List ℕ
  pub kept : List ℕ
  pub fault : Option OutFault

-- nothing put yet
abbrev pub begun : List ℕ → PiecesSeen
begun name = record { name = name; kept = []; fault = None }

-- whole pieces of a text stand in the file, and the rest of it, which fills none, is kept
pub record InPieces (text file kept : List ℕ) : Type 0 where
  pub text_is : text ≡ file ++ kept
  pub whole : length file % 8192 ≡ 0
  pub short : length kept < 8192

-- the first bytes of a text
abbrev pub IsFront : List ℕ → List ℕ → Type 0
IsFront text file = file ≡ take (length file) text

-- what a file holds after a text was put: its whole pieces, or after an error a front of it
abbrev pub IsPut : Option (List ℕ) → List ℕ → Option OutFault → List ℕ → Type 0
IsPut held kept None text = IsSomeAnd held (λ file. InPieces text file kept)
IsPut held kept (Some fault) text = IsSomeAnd held (IsFront text)

-- the same of a file among others, where they tell what they hold
abbrev pub HasPut : PiecesSeen → FilesSeen → List ℕ → Type 0
HasPut pieces files text = IsTrue files.tells → IsPut (files.held pieces.name) pieces.kept pieces.fault text

-- bytes are put behind whatever text was put before: of it these bytes were kept, and now those are
abbrev pub Puts : List ℕ → FilesSeen → FilesSeen → List ℕ → List ℕ → List ℕ → Result (Unit {0}) OutFault → Type 0
Puts name before now kept left bytes result =
    (text : List ℕ) → IsTrue before.tells → IsPut (before.held name) kept None text → IsPut (now.held name) left (result_err result) (text ++ bytes)

-- what a file holds after the end: the text, or after an error a front of it
abbrev pub IsEnded : Option (List ℕ) → List ℕ → Result (Unit {0}) OutFault → Type 0
IsEnded held text (Ok _) = held ≡ Some text
IsEnded held text (Err fault) = IsSomeAnd held (IsFront text)

abbrev pub HasEnded : List ℕ → FilesSeen → List ℕ → Result (Unit {0}) OutFault → Type 0
HasEnded name files text result = IsTrue files.tells → IsEnded (files.held name) text result
