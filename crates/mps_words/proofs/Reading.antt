-- What each command of `clap` finds among the words is what the grammar reads in them.
use Rattle.std.proofs.Common.{◌≡◌, ◌∙◌, ℕ, Bool, true, false, refl, sym, ap, ap₂, subst, inl, inr, List, [], ◌∷◌, ◌++◌, map, codes, Option, Some, None, true≢false, String, Global}
use Rattle.std.specs.Prelude.{option_map, option_and_then}
use Rattle.std.specs.Borrow.{Bor}
use Rattle.std.specs.Str.{bytes_eq}
use Rattle.std.proofs.lemmas.Slice.Eq.{bytes_eq-Decides}
use Rattle.std.proofs.lemmas.Str.{IsUtf8-string_bytes}
use Rattle.clap.specs.Faults.{fault_of, level_fault}
use Rattle.clap.specs.Kinds.{Kinds}
use Rattle.clap.specs.Matches.{first_value, found_of, one_text}
use Rattle.clap.specs.Simple.{App, argument_words, built, matches_of}
use Rattle.clap.specs.Walk.{Row, Rule, arg_by_id, arg_by_long, first_of, nothing_held, one_of, rows_of}
use Rattle.clap.specs.declared.parser.matches.ArgMatches.{ArgMatches}
use Rattle.clap.proofs.FaultLemmas.{leaf_fault}
use Rattle.clap.proofs.WalkLemmas.{first_value-rows, one_text-rows}
use Rattle.mps_words.specs.declared.words.Command.{Command}
use Rattle.mps_words.specs.Forms.{Fails, Finds, check_app, demo_app, flagged, listed, numbered, replay_app, run_app, scan_app}
use Rattle.mps_words.specs.Words.{Choice, Part, by_list, check_of, choices, chosen, command_by, demo_of, parts_from, placed, placed_words, replay_of, run_of, scan_of, texts, worker_number}
use Rattle.mps_words.proofs.Walking.{AreTexts, Comes, IsOption, Known, Text, completed, is_flag, level_reads, list_id, option_id, option_rule, place_at, rows_in, rows_of_parts, takes_number, workers_id}

pub are_texts : (words : List (String Global)) → AreTexts (texts words)
are_texts [] = tt
are_texts (word ∷ words) = (IsUtf8-string_bytes word, are_texts words)

-- ---- what each command finds

abbrev pub kept : Option Text → List Text
kept None = []
kept (Some word) = word ∷ []

pub listed_kept : (o : Option (Bor Text)) (found : Option Text) → option_map (λ s. s.now) o ≡ found → listed o ≡ kept found
listed_kept None found e = ap kept e
listed_kept (Some word) found e = ap kept e

abbrev params : Text
params = codes "parameters"

abbrev seed : Text
seed = codes "seed"

-- the rules of each command
abbrev rules_one : Text → List Rule
rules_one id = place_at 1 id ∷ []

abbrev rules_with : Text → Known → List Rule
rules_with id known = place_at 1 id ∷ option_rule known ∷ []

abbrev rules_two : List Rule
rules_two = place_at 1 params ∷ place_at 2 (codes "schedule") ∷ []

abbrev rules_three : List Rule
rules_three = place_at 1 params ∷ place_at 2 (codes "level") ∷ place_at 3 (codes "event") ∷ []

-- a place and an option, found by its name
option_found : (id : Text) (known : Known) → arg_by_long (rules_with id known) (option_id known) ≡ Some (option_rule known)
    → ((name : Text) → bytes_eq (option_id known) name ≡ false → arg_by_long (rules_with id known) name ≡ None)
    → arg_by_id (rules_with id known) (option_id known) ≡ Some (option_rule known) → IsOption (rules_with id known) known
option_found id known here other by_id = record {
  long = λ name same.
      let e : name ≡ option_id known = (bytes_eq-Decides name (option_id known)).0 same in
      subst (λ (n : Text). arg_by_long (rules_with id known) n ≡ Some (option_rule known)) (sym e) here;
  other = λ name apart. other name (turned name apart (bytes_eq (option_id known) name) refl);
  by_id = by_id;
}
  where
    turned : (name : Text) → bytes_eq name (option_id known) ≡ false → (b : Bool) → bytes_eq (option_id known) name ≡ b → bytes_eq (option_id known) name ≡ false
    turned name apart true e =
        let same : option_id known ≡ name = (bytes_eq-Decides (option_id known) name).0 e in
        let bad : true ≡ false = sym e ∙ subst (λ (n : Text). bytes_eq (option_id known) n ≡ false) same (subst (λ (n : Text). bytes_eq n (option_id known) ≡ false) (sym same) apart) in
        absurd (true≢false bad)
    turned name apart false e = e

run_option : IsOption (rules_with params takes_number) takes_number
run_option = option_found params takes_number refl (λ name e. rw e refl) refl

demo_option : IsOption (rules_with seed is_flag) is_flag
demo_option = option_found seed is_flag refl (λ name e. rw e refl) refl

reads_by : (app : App) (words : List Text) (o : Option (List Row)) → (built app).subs ≡ []
    → Comes [] (level_fault (built app).top [] nothing_held (argument_words app words) false []) (matches_of app words) o
    → Comes [] (fault_of app words) (matches_of app words) o
reads_by app words o leaf h =
    let P : Kinds → Type 0 = λ k. Comes [] k (matches_of app words) o in
    subst P (sym (leaf_fault (built app) nothing_held (argument_words app words) leaf)) h

-- what the command comes to on the words, by its rules, the ids of its places and its option
abbrev Reads : App → List Rule → List Text → Option Known → Bool → List Text → Type 0
Reads app rules ids known free words = Comes [] (fault_of app words) (matches_of app words) (option_map (completed rules) (rows_of_parts ids known free (parts_from false words)))

run_reads : (words : List Text) → AreTexts words → Reads run_app (rules_with params takes_number) (params ∷ []) (Some takes_number) true words
run_reads words text = reads_by run_app words _ refl
    (level_reads (codes "run") (rules_with params takes_number) (λ x. refl) words (params ∷ []) (Some takes_number) true text
    (refl, refl, (refl, refl), tt, refl) (run_option, refl) (refl, refl, (refl, refl, tt)))

check_reads : (words : List Text) → AreTexts words → Reads check_app (rules_one params) (params ∷ []) None false words
check_reads words text = reads_by check_app words _ refl
    (level_reads (codes "check") (rules_one params) (λ x. refl) words (params ∷ []) None false text
    (refl, refl, tt, tt, refl) (λ name. refl) (refl, refl, tt))

demo_reads : (words : List Text) → AreTexts words → Reads demo_app (rules_with seed is_flag) (seed ∷ []) (Some is_flag) true words
demo_reads words text = reads_by demo_app words _ refl
    (level_reads (codes "demo") (rules_with seed is_flag) (λ x. refl) words (seed ∷ []) (Some is_flag) true text
    (refl, refl, (refl, refl), tt, refl) (demo_option, refl) (refl, refl, (refl, refl, tt)))

replay_reads : (words : List Text) → AreTexts words → Reads replay_app rules_two (params ∷ codes "schedule" ∷ []) None false words
replay_reads words text = reads_by replay_app words _ refl
    (level_reads (codes "replay") rules_two (λ x. refl) words (params ∷ codes "schedule" ∷ []) None false text
    (refl, refl, tt, (refl, tt), (refl, refl, tt, tt, refl)) (λ name. refl) (refl, refl, (refl, refl, tt)))

scan_reads : (words : List Text) → AreTexts words → Reads scan_app rules_three (params ∷ codes "level" ∷ codes "event" ∷ []) None false words
scan_reads words text = reads_by scan_app words _ refl
    (level_reads (codes "scan") rules_three (λ x. refl) words (params ∷ codes "level" ∷ codes "event" ∷ []) None false text
    (refl, refl, tt, (refl, (refl, tt)), (refl, refl, tt, (refl, tt), (refl, refl, tt, tt, refl))) (λ name. refl)
    (refl, refl, (refl, refl, (refl, refl, tt))))

-- ---- the same command, by the matches and by the grammar

abbrev pub Reader : Type 0
Reader = List Choice → List Text → Option Command

-- what some rows say
abbrev pub Says : Type 1
Says = List Row → Option Command → Type 0

-- what the rows of some parts say agrees with the parts
abbrev Agrees : Reader → Says → List Part → Option (List Row) → Type 0
Agrees of says parts None = of (choices parts) (placed_words parts) ≡ None
Agrees of says parts (Some rows) = says rows (of (choices parts) (placed_words parts))

abbrev of_parts : Reader → Option (List Part) → Option Command
of_parts of = option_and_then (λ parts. of (choices parts) (placed_words parts))

abbrev Same : Reader → Says → Kinds → List Row → Option (List Part) → Type 0
Same of says kinds after o = (Fails kinds → None ≡ of_parts of o) × (kinds ≡ [] → says after (of_parts of o))

same : (of : Reader) (says : Says) (rules : List Rule) (ids : List Text) (known : Option Known) (free : Bool)
    → ((parts : List Part) → Agrees of says parts (option_map (completed rules) (rows_in parts ids known free)))
    → (kinds : Kinds) (after : List Row) (o : Option (List Part)) → Comes [] kinds after (option_map (completed rules) (rows_of_parts ids known free o)) → Same of says kinds after o
same of says rules ids known free agrees kinds after None h = (λ _. refl, λ none. absurd (subst Fails none h))
same of says rules ids known free agrees kinds after (Some parts) h = go (option_map (completed rules) (rows_in parts ids known free)) (agrees parts) h
  where
    go : (rows : Option (List Row)) → Agrees of says parts rows → Comes [] kinds after rows → Same of says kinds after (Some parts)
    go None is h = (λ _. sym is, λ none. absurd (subst Fails none h))
    go (Some rows) is h = (λ fails. absurd (subst Fails h.0 fails), λ _. subst (λ (r : List Row). says r (of (choices parts) (placed_words parts))) (sym h.1) is)

abbrev pub run_by : Says
run_by rows command = run_of (map worker_number (kept (first_of workers_id rows))) (kept (first_of params rows)) ≡ command

run_many : (a b : Text) (words : List Text) (options : List Choice) → run_of options (a ∷ b ∷ words) ≡ None
run_many a b words [] = refl
run_many a b words (worker_number n ∷ []) = refl
run_many a b words (worker_number n ∷ c ∷ options) = refl
run_many a b words (by_list ∷ options) = refl

run_agrees : (parts : List Part) → Agrees run_of run_by parts (option_map (completed (rules_with params takes_number)) (rows_in parts (params ∷ []) (Some takes_number) true))
run_agrees [] = refl
run_agrees (placed a ∷ []) = refl
run_agrees (placed a ∷ placed b ∷ more) = run_many a b (placed_words more) (choices more)
run_agrees (placed a ∷ chosen by_list ∷ more) = refl
run_agrees (placed a ∷ chosen (worker_number n) ∷ []) = refl
run_agrees (placed a ∷ chosen (worker_number n) ∷ placed b ∷ more) = run_many a b (placed_words more) (worker_number n ∷ choices more)
run_agrees (placed a ∷ chosen (worker_number n) ∷ chosen (worker_number m) ∷ more) = refl
run_agrees (placed a ∷ chosen (worker_number n) ∷ chosen by_list ∷ more) = refl
run_agrees (chosen by_list ∷ more) = refl
run_agrees (chosen (worker_number n) ∷ []) = refl
run_agrees (chosen (worker_number n) ∷ chosen (worker_number m) ∷ more) = refl
run_agrees (chosen (worker_number n) ∷ chosen by_list ∷ more) = refl
run_agrees (chosen (worker_number n) ∷ placed a ∷ []) = refl
run_agrees (chosen (worker_number n) ∷ placed a ∷ placed b ∷ more) = run_many a b (placed_words more) (worker_number n ∷ choices more)
run_agrees (chosen (worker_number n) ∷ placed a ∷ chosen (worker_number m) ∷ more) = refl
run_agrees (chosen (worker_number n) ∷ placed a ∷ chosen by_list ∷ more) = refl

pub run_same : (words : List Text) → AreTexts words → Same run_of run_by (fault_of run_app words) (matches_of run_app words) (parts_from false words)
run_same words text = same run_of run_by (rules_with params takes_number) (params ∷ []) (Some takes_number) true run_agrees _ _ (parts_from false words) (run_reads words text)

abbrev pub check_by : Says
check_by rows command = check_of [] (kept (first_of params rows)) ≡ command

check_many : (a b : Text) (words : List Text) (options : List Choice) → check_of options (a ∷ b ∷ words) ≡ None
check_many a b words [] = refl
check_many a b words (c ∷ options) = refl

check_agrees : (parts : List Part) → Agrees check_of check_by parts (option_map (completed (rules_one params)) (rows_in parts (params ∷ []) None false))
check_agrees [] = refl
check_agrees (chosen c ∷ more) = refl
check_agrees (placed a ∷ []) = refl
check_agrees (placed a ∷ chosen c ∷ more) = refl
check_agrees (placed a ∷ placed b ∷ more) = check_many a b (placed_words more) (choices more)

pub check_same : (words : List Text) → AreTexts words → Same check_of check_by (fault_of check_app words) (matches_of check_app words) (parts_from false words)
check_same words text = same check_of check_by (rules_one params) (params ∷ []) None false check_agrees _ _ (parts_from false words) (check_reads words text)

abbrev as_text : Bool → Text
as_text true = codes "true"
as_text false = codes "false"

-- the flag is in the rows, given or by default
abbrev pub demo_by : Says
demo_by rows command = (listed : Bool) × ((one_of list_id rows ≡ Some (as_text listed)) × (demo_of (flagged listed) (kept (first_of seed rows)) ≡ command))

demo_many : (a b : Text) (words : List Text) (options : List Choice) → demo_of options (a ∷ b ∷ words) ≡ None
demo_many a b words [] = refl
demo_many a b words (worker_number n ∷ options) = refl
demo_many a b words (by_list ∷ []) = refl
demo_many a b words (by_list ∷ c ∷ options) = refl

demo_agrees : (parts : List Part) → Agrees demo_of demo_by parts (option_map (completed (rules_with seed is_flag)) (rows_in parts (seed ∷ []) (Some is_flag) true))
demo_agrees [] = (false, (refl, refl))
demo_agrees (placed a ∷ []) = (false, (refl, refl))
demo_agrees (placed a ∷ placed b ∷ more) = demo_many a b (placed_words more) (choices more)
demo_agrees (placed a ∷ chosen (worker_number n) ∷ more) = refl
demo_agrees (placed a ∷ chosen by_list ∷ []) = (true, (refl, refl))
demo_agrees (placed a ∷ chosen by_list ∷ placed b ∷ more) = demo_many a b (placed_words more) (by_list ∷ choices more)
demo_agrees (placed a ∷ chosen by_list ∷ chosen (worker_number m) ∷ more) = refl
demo_agrees (placed a ∷ chosen by_list ∷ chosen by_list ∷ more) = refl
demo_agrees (chosen (worker_number n) ∷ more) = refl
demo_agrees (chosen by_list ∷ []) = (true, (refl, refl))
demo_agrees (chosen by_list ∷ chosen (worker_number m) ∷ more) = refl
demo_agrees (chosen by_list ∷ chosen by_list ∷ more) = refl
demo_agrees (chosen by_list ∷ placed a ∷ []) = (true, (refl, refl))
demo_agrees (chosen by_list ∷ placed a ∷ placed b ∷ more) = demo_many a b (placed_words more) (by_list ∷ choices more)
demo_agrees (chosen by_list ∷ placed a ∷ chosen (worker_number m) ∷ more) = refl
demo_agrees (chosen by_list ∷ placed a ∷ chosen by_list ∷ more) = refl

pub demo_same : (words : List Text) → AreTexts words → Same demo_of demo_by (fault_of demo_app words) (matches_of demo_app words) (parts_from false words)
demo_same words text = same demo_of demo_by (rules_with seed is_flag) (seed ∷ []) (Some is_flag) true demo_agrees _ _ (parts_from false words) (demo_reads words text)

abbrev pub replay_by : Says
replay_by rows command = replay_of [] (kept (first_of params rows) ++ kept (first_of (codes "schedule") rows)) ≡ command

replay_many : (a b c : Text) (words : List Text) (options : List Choice) → replay_of options (a ∷ b ∷ c ∷ words) ≡ None
replay_many a b c words [] = refl
replay_many a b c words (d ∷ options) = refl

replay_agrees : (parts : List Part) → Agrees replay_of replay_by parts (option_map (completed rules_two) (rows_in parts (params ∷ codes "schedule" ∷ []) None false))
replay_agrees [] = refl
replay_agrees (chosen c ∷ more) = refl
replay_agrees (placed a ∷ []) = refl
replay_agrees (placed a ∷ chosen c ∷ more) = refl
replay_agrees (placed a ∷ placed b ∷ []) = refl
replay_agrees (placed a ∷ placed b ∷ chosen c ∷ more) = refl
replay_agrees (placed a ∷ placed b ∷ placed c ∷ more) = replay_many a b c (placed_words more) (choices more)

pub replay_same : (words : List Text) → AreTexts words → Same replay_of replay_by (fault_of replay_app words) (matches_of replay_app words) (parts_from false words)
replay_same words text = same replay_of replay_by rules_two (params ∷ codes "schedule" ∷ []) None false replay_agrees _ _ (parts_from false words) (replay_reads words text)

abbrev pub scan_by : Says
scan_by rows command = scan_of [] (kept (first_of params rows) ++ (kept (first_of (codes "level") rows) ++ kept (first_of (codes "event") rows))) ≡ command

scan_many : (a b c d : Text) (words : List Text) (options : List Choice) → scan_of options (a ∷ b ∷ c ∷ d ∷ words) ≡ None
scan_many a b c d words [] = refl
scan_many a b c d words (e ∷ options) = refl

scan_agrees : (parts : List Part) → Agrees scan_of scan_by parts (option_map (completed rules_three) (rows_in parts (params ∷ codes "level" ∷ codes "event" ∷ []) None false))
scan_agrees [] = refl
scan_agrees (chosen c ∷ more) = refl
scan_agrees (placed a ∷ []) = refl
scan_agrees (placed a ∷ chosen c ∷ more) = refl
scan_agrees (placed a ∷ placed b ∷ []) = refl
scan_agrees (placed a ∷ placed b ∷ chosen c ∷ more) = refl
scan_agrees (placed a ∷ placed b ∷ placed c ∷ []) = refl
scan_agrees (placed a ∷ placed b ∷ placed c ∷ chosen d ∷ more) = refl
scan_agrees (placed a ∷ placed b ∷ placed c ∷ placed d ∷ more) = scan_many a b c d (placed_words more) (choices more)

pub scan_same : (words : List Text) → AreTexts words → Same scan_of scan_by (fault_of scan_app words) (matches_of scan_app words) (parts_from false words)
scan_same words text = same scan_of scan_by rules_three (params ∷ codes "level" ∷ codes "event" ∷ []) None false scan_agrees _ _ (parts_from false words) (scan_reads words text)

-- ---- from the values of the matches

pub finds_at : (wanted app : App) (words : List Text) (found : Option ArgMatches) (o : Option ArgMatches) → app ≡ wanted → found ≡ o → Finds app words found → Finds wanted words o
finds_at wanted app words found o is here h =
    let P : App → Type 0 = λ a. Finds a words found in
    let Q : Option ArgMatches → Type 0 = λ x. Finds wanted words x in
    subst Q here (subst P is h)

-- the value of an id, by the rows
value_kept : (id : List ℕ) (m : ArgMatches) (rows : List Row) (o : Option (Bor Text)) → rows_of (found_of m) ≡ rows → option_map (λ s. s.now) o ≡ first_value (found_of m) id
    → listed o ≡ kept (first_of id rows)
value_kept id m rows o rows_are is = listed_kept o (first_of id rows) (is ∙ first_value-rows (found_of m) id ∙ ap (first_of id) rows_are)

pub run_found : (words : List (String Global)) (m : ArgMatches) (name workers : Option (Bor Text)) → Finds run_app (texts words) (Some m)
    → option_map (λ s. s.now) name ≡ first_value (found_of m) (codes "parameters") → option_map (λ s. s.now) workers ≡ first_value (found_of m) (codes "workers")
    → run_of (numbered workers) (listed name) ≡ command_by run_of (texts words)
run_found words m name workers h name_is workers_is =
    ap₂ (λ a b. run_of (map worker_number a) b) (value_kept workers_id m _ workers h.1 workers_is) (value_kept params m _ name h.1 name_is) ∙ (run_same (texts words) (are_texts words)).1 h.0

pub check_found : (words : List (String Global)) (m : ArgMatches) (name : Option (Bor Text)) → Finds check_app (texts words) (Some m)
    → option_map (λ s. s.now) name ≡ first_value (found_of m) (codes "parameters") → check_of [] (listed name) ≡ command_by check_of (texts words)
check_found words m name h name_is = ap (check_of []) (value_kept params m _ name h.1 name_is) ∙ (check_same (texts words) (are_texts words)).1 h.0

-- what `get_flag` answers, by the text that it reads
abbrev IsFlagOf : Bool → Option Text → Type 0
IsFlagOf b text = (text ≡ Some (codes "true") → b ≡ true) × (text ≡ Some (codes "false") → b ≡ false)

flag_is : (m : ArgMatches) (rows : List Row) (b listed : Bool) → rows_of (found_of m) ≡ rows → one_of list_id rows ≡ Some (as_text listed) → IsFlagOf b (one_text (found_of m) list_id) → b ≡ listed
flag_is m rows b listed rows_are one is = go listed (one_text-rows (found_of m) list_id ∙ ap (one_of list_id) rows_are ∙ one)
  where
    go : (listed : Bool) → one_text (found_of m) list_id ≡ Some (as_text listed) → b ≡ listed
    go true e = is.0 e
    go false e = is.1 e

pub demo_found : (words : List (String Global)) (m : ArgMatches) (number : Option (Bor Text)) (by : Bool) → Finds demo_app (texts words) (Some m)
    → option_map (λ s. s.now) number ≡ first_value (found_of m) (codes "seed") → IsFlagOf by (one_text (found_of m) (codes "list"))
    → demo_of (flagged by) (listed number) ≡ command_by demo_of (texts words)
demo_found words m number by h number_is by_is =
    let says = (demo_same (texts words) (are_texts words)).1 h.0 in
    ap₂ (λ a b. demo_of (flagged a) b) (flag_is m _ by says.0 h.1 says.1.0 by_is) (value_kept seed m _ number h.1 number_is) ∙ says.1.1

pub replay_found : (words : List (String Global)) (m : ArgMatches) (name schedule : Option (Bor Text)) → Finds replay_app (texts words) (Some m)
    → option_map (λ s. s.now) name ≡ first_value (found_of m) (codes "parameters") → option_map (λ s. s.now) schedule ≡ first_value (found_of m) (codes "schedule")
    → replay_of [] (listed name ++ listed schedule) ≡ command_by replay_of (texts words)
replay_found words m name schedule h name_is schedule_is =
    ap₂ (λ a b. replay_of [] (a ++ b)) (value_kept params m _ name h.1 name_is) (value_kept (codes "schedule") m _ schedule h.1 schedule_is)
    ∙ (replay_same (texts words) (are_texts words)).1 h.0

pub scan_found : (words : List (String Global)) (m : ArgMatches) (name level event : Option (Bor Text)) → Finds scan_app (texts words) (Some m)
    → option_map (λ s. s.now) name ≡ first_value (found_of m) (codes "parameters") → option_map (λ s. s.now) level ≡ first_value (found_of m) (codes "level")
    → option_map (λ s. s.now) event ≡ first_value (found_of m) (codes "event") → scan_of [] (listed name ++ (listed level ++ listed event)) ≡ command_by scan_of (texts words)
scan_found words m name level event h name_is level_is event_is =
    ap₂ (λ a b. scan_of [] (a ++ b)) (value_kept params m _ name h.1 name_is)
    (ap₂ (λ a b. a ++ b) (value_kept (codes "level") m _ level h.1 level_is) (value_kept (codes "event") m _ event h.1 event_is))
    ∙ (scan_same (texts words) (are_texts words)).1 h.0
