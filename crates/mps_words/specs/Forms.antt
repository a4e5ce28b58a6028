-- The commands of `clap` that find the words of a command, and what they find.
use Rattle.std.specs.Prelude.{◌≡◌, ℕ, Bool, true, false, List, [], ◌∷◌, Option, Some, None, codes, map}
use Rattle.std.specs.Borrow.{Bor}
use Rattle.clap.specs.Faults.{fault_of}
use Rattle.clap.specs.Kinds.{Kinds}
use Rattle.clap.specs.Matches.{found_of}
use Rattle.clap.specs.Simple.{App, matches_of, new_app, new_rule, on_top, with_rule}
use Rattle.clap.specs.Walk.{Rule, rows_of}
use Rattle.clap.specs.declared.builder.action.ArgAction.TheVariants.{Set, SetTrue}
use Rattle.clap.specs.declared.parser.matches.ArgMatches.{ArgMatches}
use Rattle.mps_words.specs.Words.{Choice, by_list, worker_number}

-- a command that takes all words that it is given as its own, and adds no flags
abbrev pub plain_app : List ℕ → App
plain_app name = on_top (λ top. record top { no_binary_name = true; disable_help_flag = true; disable_version_flag = true }) (new_app name)

-- a word in its place
abbrev pub place : List ℕ → Rule
place id = record (new_rule id) { action = Some Set }

abbrev pub workers_option : Rule
workers_option = record (new_rule (codes "workers")) { long = Some (codes "workers"); action = Some Set }

abbrev pub list_option : Rule
list_option = record (new_rule (codes "list")) { long = Some (codes "list"); action = Some SetTrue }

abbrev pub run_app : App
run_app = with_rule (with_rule (plain_app (codes "run")) (place (codes "parameters"))) workers_option

abbrev pub check_app : App
check_app = with_rule (plain_app (codes "check")) (place (codes "parameters"))

abbrev pub scan_app : App
scan_app = with_rule (with_rule (with_rule (plain_app (codes "scan")) (place (codes "parameters"))) (place (codes "level"))) (place (codes "event"))

abbrev pub replay_app : App
replay_app = with_rule (with_rule (plain_app (codes "replay")) (place (codes "parameters"))) (place (codes "schedule"))

abbrev pub demo_app : App
demo_app = with_rule (with_rule (plain_app (codes "demo")) (place (codes "seed"))) list_option

-- there is at least one kind of fault
abbrev pub Fails : Kinds → Type 0
Fails [] = ⊥
Fails (kind ∷ kinds) = Unit {0}

-- what a command finds among the words: its matches, or nothing exactly where it refuses them
abbrev pub Finds : App → List (List ℕ) → Option ArgMatches → Type 0
Finds app words None = Fails (fault_of app words)
Finds app words (Some found) = (fault_of app words ≡ []) × (rows_of (found_of found) ≡ matches_of app words)

-- the word, if there is one
abbrev pub listed : Option (Bor (List ℕ)) → List (List ℕ)
listed None = []
listed (Some word) = word.now ∷ []

-- the number of workers, if there is one, as an option
abbrev pub numbered : Option (Bor (List ℕ)) → List Choice
numbered workers = map worker_number (listed workers)

-- the flag `--list`, if it is there, as an option
abbrev pub flagged : Bool → List Choice
flagged true = by_list ∷ []
flagged false = []
