-- What calls do to the contents of files.
use Rattle.std.specs.Prelude.{◌≡◌, ◌≢◌, ◌⊎◌, ℕ, ◌-◌, ◌<◌, ◌≤◌, List, [], ◌++◌, length, take, drop, Option, Some, Result, Ok, Err, IfOk, OnOk, OnErr, IsErr, IfSome, IsSomeAnd, MatchOption, Vec}
use Rattle.std.specs.declared.alloc.Global.{Global}
use Rattle.mp_outside.specs.declared.files.Failed.{Failed as ReadFault}
use Rattle.mp_outside.specs.declared.files.OutFault.{OutFault}
use Rattle.mp_outside.specs.declared.files.OutFault.TheVariants.{Failed, NoMemory}

-- what is held under each name
abbrev pub Held : Type 0
Held = List ℕ → Option (List ℕ)

-- the bytes from a place on, as many as are answered: at least one where there is one and the buffer isn't empty
pub record ReadsFrom (bytes : List ℕ) (at count : ℕ) (buffer : List ℕ) : Type 0 where
  pub bytes_are : take count buffer ≡ take count (drop at bytes)
  pub there : count ≤ length bytes - at
  pub some : 0 < length buffer → at < length bytes → 0 < count

-- a name under which nothing is held can't be read
abbrev pub ReadsAt : Option (List ℕ) → ℕ → Result ℕ ReadFault → List ℕ → Type 0
ReadsAt content at result buffer = MatchOption content (IsErr result) (λ bytes. IfOk result (λ count. ReadsFrom bytes at count buffer))

-- all names hold what they held
abbrev pub SameHeld : Held → Held → Type 0
SameHeld before now = (name : List ℕ) → now name ≡ before name

-- no other name holds anything else than it held
abbrev pub OnlyHeldAt : List ℕ → Held → Held → Type 0
OnlyHeldAt name before now = (other : List ℕ) → other ≢ name → now other ≡ before other

-- an empty file was made; after an error the old one may still be there
abbrev pub Creates : Option (List ℕ) → Option (List ℕ) → Result (Unit {0}) OutFault → Type 0
Creates before now result = OnOk result (now ≡ Some []) × OnErr result ((now ≡ before) ⊎ (now ≡ Some []))

-- of a piece the first count bytes were added
abbrev pub AddsPart : Option (List ℕ) → Option (List ℕ) → List ℕ → ℕ → Type 0
AddsPart before now piece count = IfSome before (λ bytes. now ≡ Some (bytes ++ take count piece))

-- the piece was added; after a failure a part of it, and after want of memory nothing
abbrev pub Appends : Option (List ℕ) → Option (List ℕ) → List ℕ → Result (Unit {0}) OutFault → Type 0
Appends before now piece (Ok _) = AddsPart before now piece (length piece)
Appends before now piece (Err Failed) = (count : ℕ) × (count ≤ length piece) × AddsPart before now piece count
Appends before now piece (Err NoMemory) = now ≡ before

-- the same of a sink
abbrev pub Adds : List ℕ → List ℕ → List ℕ → Result (Unit {0}) OutFault → Type 0
Adds before now piece (Ok _) = now ≡ before ++ piece
Adds before now piece (Err Failed) = (count : ℕ) × (count ≤ length piece) × (now ≡ before ++ take count piece)
Adds before now piece (Err NoMemory) = now ≡ before

-- what was read of a file up to a limit: all of it, or a front of it that is longer than the limit
abbrev pub IsReadUpTo : ℕ → List ℕ → List ℕ → Type 0
IsReadUpTo limit bytes got = (got ≡ take (length got) bytes) × ((got ≡ bytes) ⊎ (limit < length got))

-- a file that is held was read up to a limit
abbrev pub ReadsUpTo : ℕ → Option (List ℕ) → Result (Vec ℕ Global) OutFault → Type 0
ReadsUpTo limit content result = IfOk result (λ got. IsSomeAnd content (λ bytes. IsReadUpTo limit bytes got.items))
