-- The words of a command.
use Rattle.std.specs.Prelude.{⊤, ℕ, Bool, true, false, ◌≤◌, ◌&&◌, ◌||◌, not, nat_lt, nat_le, ◌==◌, List, [], ◌∷◌, length, Option, Some, None, option_map, option_and_then, if◌then◌else◌, codes, map, string_bytes, String}
use Rattle.std.specs.List.{after_first, before_first, list_all, list_any}
use Rattle.std.specs.Str.{bytes_eq}
use Rattle.std.specs.declared.alloc.Global.{Global}
use Rattle.mp_base.specs.Number.{short_number}
use Rattle.mp_values.specs.Values.{is_between, where_so}
use Rattle.multigrid.specs.Levels.{IsLevel}
use Rattle.mps_scan.specs.Words.{is_equals, scan_words, up_to}
use Rattle.mps_words.specs.declared.words.Command.{Command}
use Rattle.mps_words.specs.declared.words.Command.TheVariants.{Run, Check, Scan, Replay, Demo}

-- the bytes of each word
abbrev pub texts : List (String Global) → List (List ℕ)
texts words = map (λ word. string_bytes word) words

-- ---- the words behind the command's name

-- an option: `--workers` with its number, or the flag `--list`
pub data Choice : Type 0 where
  worker_number : List ℕ → Choice
  by_list : Choice

-- a word in its place, or an option
pub data Part : Type 0 where
  placed : List ℕ → Part
  chosen : Choice → Part

-- the word begins with a dash and has more than one byte
abbrev pub is_dashed : List ℕ → Bool
is_dashed (first ∷ second ∷ more) = first == 45
is_dashed _ = false

-- the word is `--workers`, alone or with a `=` and more behind it
abbrev pub is_workers : List ℕ → Bool
is_workers word = bytes_eq (before_first is_equals word) (codes "--workers")

-- the word is `--list`, alone: it takes no value
abbrev pub is_list : List ℕ → Bool
is_list word = bytes_eq word (codes "--list")

-- a part, and those behind it if they are parts
abbrev pub part_before : Part → Option (List Part) → Option (List Part)
part_before part = option_map (λ parts. part ∷ parts)

-- what the words are, in turn. The first `--` is no part, and all words behind it are in their places. The number of `--workers` stands
-- behind its `=`, or where it has none in the next word, for which `wanted` is true: a dashed word is refused there, and a dash alone
-- when it is read as a number. Dashed words that are no option, an option cut short too, are refused.
unfoldable pub parts_from : Bool → List (List ℕ) → Option (List Part)
parts_from wanted [] = if wanted then None else Some []
parts_from wanted (word ∷ rest) =
    if not (is_dashed word) then part_before (if wanted then chosen (worker_number word) else placed word) (parts_from false rest)
    else if wanted then None
    else if bytes_eq word (codes "--") then Some (map placed rest)
    else if is_list word then part_before (chosen by_list) (parts_from false rest)
    else if not (is_workers word) then None
    else if list_any is_equals word then part_before (chosen (worker_number (after_first is_equals word))) (parts_from false rest)
    else parts_from true rest

-- the words in their places
abbrev pub placed_words : List Part → List (List ℕ)
placed_words [] = []
placed_words (placed word ∷ parts) = word ∷ placed_words parts
placed_words (chosen choice ∷ parts) = placed_words parts

-- the options
abbrev pub choices : List Part → List Choice
choices [] = []
choices (placed word ∷ parts) = choices parts
choices (chosen choice ∷ parts) = choice ∷ choices parts

-- ---- names and numbers

-- from the space to the tilde
abbrev pub is_name_byte : ℕ → Bool
is_name_byte byte = nat_le 32 byte && nat_le byte 126

-- the name of a file: 1 to 255 such bytes
abbrev pub is_name : List ℕ → Bool
is_name name = nat_lt 0 (length name) && nat_le (length name) 255 && list_all is_name_byte name

abbrev pub name_of : List ℕ → Option (List ℕ)
name_of word = where_so is_name word

-- a number of workers: one to four digits, from 1 to 64
abbrev pub workers_of : List ℕ → Option ℕ
workers_of text = up_to 64 (short_number 4 text)

-- a seed: one to ten digits, at most 4294967295
abbrev pub seed_of : List ℕ → Option ℕ
seed_of text = option_and_then (where_so (is_between 0 4294967295)) (short_number 10 text)

-- ---- the commands, each of its options and of its words in their places. Of an option that isn't said here a command knows nothing

-- `run` takes a parameter file, and at most one number of workers; without it there is one
abbrev pub run_of : List Choice → List (List ℕ) → Option Command
run_of [] (name ∷ []) = option_map (λ parameters. Run parameters 1) (name_of name)
run_of (worker_number number ∷ []) (name ∷ []) = option_and_then (λ parameters. option_map (Run parameters) (workers_of number)) (name_of name)
run_of _ _ = None

-- `check` takes a parameter file
abbrev pub check_of : List Choice → List (List ℕ) → Option Command
check_of [] (name ∷ []) = option_map Check (name_of name)
check_of _ _ = None

-- `scan` takes a parameter file, a level and an event
abbrev pub scan_of : List Choice → List (List ℕ) → Option Command
scan_of [] (name ∷ level ∷ event ∷ []) = option_and_then (λ parameters. option_map (Scan parameters) (scan_words level event)) (name_of name)
scan_of _ _ = None

-- `replay` takes a parameter file and a schedule
abbrev pub replay_of : List Choice → List (List ℕ) → Option Command
replay_of [] (name ∷ schedule ∷ []) = option_and_then (λ parameters. option_map (Replay parameters) (name_of schedule)) (name_of name)
replay_of _ _ = None

-- `demo` takes a seed, and at most once the flag `--list`
abbrev pub demo_of : List Choice → List (List ℕ) → Option Command
demo_of [] (seed ∷ []) = option_map (λ number. Demo number false) (seed_of seed)
demo_of (by_list ∷ []) (seed ∷ []) = option_map (λ number. Demo number true) (seed_of seed)
demo_of _ _ = None

-- a command of the words behind its name
abbrev pub command_by : (List Choice → List (List ℕ) → Option Command) → List (List ℕ) → Option Command
command_by command_of_parts words = option_and_then (λ parts. command_of_parts (choices parts) (placed_words parts)) (parts_from false words)

abbrev pub command_named : List ℕ → List (List ℕ) → Option Command
command_named name words =
    if bytes_eq name (codes "run") then command_by run_of words
    else if bytes_eq name (codes "check") then command_by check_of words
    else if bytes_eq name (codes "scan") then command_by scan_of words
    else if bytes_eq name (codes "replay") then command_by replay_of words
    else if bytes_eq name (codes "demo") then command_by demo_of words
    else None

-- the command that the words are, if they are one
unfoldable pub command_of : List (List ℕ) → Option Command
command_of [] = None
command_of (name ∷ words) = command_named name words

abbrev pub is_command_name : List ℕ → Bool
is_command_name name =
    bytes_eq name (codes "run") || bytes_eq name (codes "check") || bytes_eq name (codes "scan") || bytes_eq name (codes "replay")
    || bytes_eq name (codes "demo")

-- the first word is the name of a command
abbrev pub names_a_command : List (List ℕ) → Bool
names_a_command [] = false
names_a_command (name ∷ words) = is_command_name name

-- the numbers that a command names are within their limits: there are 1 to 64 workers, a level is one, and a seed is of 32 bits
abbrev pub IsInRange : Command → Type 0
IsInRange (Run parameters workers) = (1 ≤ workers) × (workers ≤ 64)
IsInRange (Check parameters) = ⊤
IsInRange (Scan parameters words) = IsLevel words.level
IsInRange (Replay parameters schedule) = ⊤
IsInRange (Demo seed flag) = seed ≤ 4294967295
