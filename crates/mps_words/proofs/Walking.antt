-- How the walk of `clap` goes through the parts of the words: what it holds after them, and where it fails.
use Rattle.std.proofs.Common.{◌≡◌, ◌∙◌, ◌+◌, ◌&&◌, ◌||◌, ◌⊎◌, ℕ, Bool, true, false, not, refl, sym, ap, subst, inl, inr, List, [], ◌∷◌, ◌++◌, map, min, codes, Option, Some, None, true≢false, append-nil, append_assoc}
use Rattle.std.specs.Prelude.{if◌then◌else◌, option_map, option_and_then, slice_get}
use Rattle.std.specs.List.{fold, list_any}
use Rattle.std.specs.Str.{IsUtf8, bytes_eq, chars}
use Rattle.clap.specs.Faults.{check_fault, default_fault, defaults_fault, flags_fault, given_default_fault, level_fault, positional_fault, settle_fault, turn_fault, walk_fault}
use Rattle.clap.specs.Kinds.{Kinds, or_else}
use Rattle.clap.specs.Lexer.{long_of, short_of, usize_max}
use Rattle.clap.specs.Simple.{Shape, filled, new_shape, with_index}
use Rattle.clap.specs.Takes.{is_given}
use Rattle.clap.specs.Values.{reading_of}
use Rattle.clap.specs.Walk.{Held, Row, Rule, Waiting, Walk, arg_by_id, arg_by_index, arg_by_long, arg_by_short, at_row, finished, has_row, idle, is_empty, is_pending, more_values, nothing_held, option, positional_held, pushed, rows_after, settled, settled_rows, walked, with_default, with_values, without}
use Rattle.clap.specs.declared.builder.value_parser.ValueParser.TheVariants as vp
use Rattle.clap.specs.declared.parser.matches.ValueSource.TheVariants.{CommandLine}
use Rattle.mps_words.specs.Forms.{Fails, list_option, place, workers_option}
use Rattle.mps_words.specs.Words.{Choice, Part, by_list, chosen, is_dashed, is_list, is_workers, part_before, parts_from, placed, worker_number}
use Rattle.mps_words.proofs.Looks.{Looks, as_long, as_plain, as_separator, as_short, attached, dashes, is_bare_list, look, parts_behind, parts_flag, parts_flag_value, parts_long, parts_no_value, parts_number, parts_of_long, parts_option, parts_other, parts_plain, parts_value}

abbrev pub Text : Type 0
Text = List ℕ

-- ---- the rules as they are built, and the rows that they make

abbrev pub place_at : ℕ → Text → Rule
place_at position id = with_index position (filled (place id))

abbrev pub workers_id : Text
workers_id = codes "workers"

abbrev pub list_id : Text
list_id = codes "list"

-- the option that a command knows: it takes a number, or is a flag
pub data Known : Type 0 where
  takes_number : Known
  is_flag : Known

abbrev pub option_id : Known → Text
option_id takes_number = workers_id
option_id is_flag = list_id

abbrev pub option_rule : Known → Rule
option_rule takes_number = filled workers_option
option_rule is_flag = filled list_option

abbrev pub row : Text → Text → Row
row id value = record {
  id = id;
  values = value ∷ [];
  count = None;
  source = Some CommandLine;
  reading = reading_of vp.String;
}

-- the id and the value of an option in its row
abbrev pub choice_row : Choice → Row
choice_row (worker_number number) = row workers_id number
choice_row by_list = row list_id (codes "true")

-- the option is the known one, and may still come
abbrev pub may_come : Option Known → Bool → Choice → Bool
may_come None free choice = false
may_come (Some takes_number) free (worker_number number) = free
may_come (Some is_flag) free by_list = free
may_come (Some known) free choice = false

-- the rows of the parts: places take the ids in turn, and the known option may come once where it is free
abbrev pub rows_in : List Part → List Text → Option Known → Bool → Option (List Row)
rows_in [] ids known free = Some []
rows_in (placed word ∷ parts) [] known free = None
rows_in (placed word ∷ parts) (id ∷ ids) known free = option_map (λ rows. row id word ∷ rows) (rows_in parts ids known free)
rows_in (chosen choice ∷ parts) ids known free = if may_come known free choice then option_map (λ rows. choice_row choice ∷ rows) (rows_in parts ids known false) else None

abbrev pub rows_of_parts : List Text → Option Known → Bool → Option (List Part) → Option (List Row)
rows_of_parts ids known free = option_and_then (λ parts. rows_in parts ids known free)

placed_some : (id word : Text) (ids : List Text) (known : Option Known) (free : Bool) (o : Option (List Part))
    → rows_of_parts (id ∷ ids) known free (part_before (placed word) o) ≡ option_map (λ rows. row id word ∷ rows) (rows_of_parts ids known free o)
placed_some id word ids known free None = refl
placed_some id word ids known free (Some parts) = refl

placed_none : (word : Text) (known : Option Known) (free : Bool) (o : Option (List Part)) → rows_of_parts [] known free (part_before (placed word) o) ≡ None
placed_none word known free None = refl
placed_none word known free (Some parts) = refl

chosen_some : (choice : Choice) (ids : List Text) (known : Option Known) (free : Bool) (o : Option (List Part)) → may_come known free choice ≡ true
    → rows_of_parts ids known free (part_before (chosen choice) o) ≡ option_map (λ rows. choice_row choice ∷ rows) (rows_of_parts ids known false o)
chosen_some choice ids known free None may = refl
chosen_some choice ids known free (Some parts) may = rw may refl

chosen_none : (choice : Choice) (ids : List Text) (known : Option Known) (free : Bool) (o : Option (List Part)) → may_come known free choice ≡ false
    → rows_of_parts ids known free (part_before (chosen choice) o) ≡ None
chosen_none choice ids known free None may = refl
chosen_none choice ids known free (Some parts) may = rw may refl

-- no number may come
abbrev NoNumber : Option Known → Bool → Type 0
NoNumber known free = (number : Text) → may_come known free (worker_number number) ≡ false

wanted_none : (ids words : List Text) (known : Option Known) (free : Bool) → NoNumber known free → rows_of_parts ids known free (parts_from true words) ≡ None
unfolding parts_from
wanted_none ids [] known free bars = refl
wanted_none ids (word ∷ rest) known free bars = go (is_dashed word) refl
  where
    go : (b : Bool) → is_dashed word ≡ b → rows_of_parts ids known free (parts_from true (word ∷ rest)) ≡ None
    go true e = ap (rows_of_parts ids known free) (parts_no_value word rest e)
    go false e = ap (rows_of_parts ids known free) (parts_value word rest e) ∙ chosen_none (worker_number word) ids known free (parts_from false rest) (bars word)

option_none : (ids : List Text) (o : Option Text) (rest : List Text) (known : Option Known) (free : Bool) → NoNumber known free → rows_of_parts ids known free (parts_option o rest) ≡ None
option_none ids (Some number) rest known free bars = chosen_none (worker_number number) ids known free (parts_from false rest) (bars number)
option_none ids None rest known free bars = wanted_none ids rest known free bars

-- the name is not that of the known option
abbrev IsStrange : Option Known → Text → Type 0
IsStrange None name = Unit {0}
IsStrange (Some known) name = bytes_eq name (option_id known) ≡ false

strange_number : (known : Option Known) (free : Bool) (name : Text) → IsStrange known name → bytes_eq name workers_id ≡ true → NoNumber known free
strange_number None free name strange is number = refl
strange_number (Some takes_number) free name strange is number = absurd (true≢false (sym is ∙ strange))
strange_number (Some is_flag) free name strange is number = refl

strange_flag : (known : Option Known) (free : Bool) (name : Text) (value : Option Text) → IsStrange known name → is_bare_list name value ≡ true → may_come known free by_list ≡ false
strange_flag None free name value strange is = refl
strange_flag (Some takes_number) free name value strange is = refl
strange_flag (Some is_flag) free name None strange is = absurd (true≢false (sym is ∙ strange))
strange_flag (Some is_flag) free name (Some value) strange is = absurd (true≢false (sym is))

-- whether the name is that of the known option
abbrev is_named : Option Known → Text → Bool
is_named None name = false
is_named (Some known) name = bytes_eq name (option_id known)

abbrev IsNamed : Option Known → Text → Bool → Type 0
IsNamed None name b = Unit {0}
IsNamed (Some known) name b = bytes_eq name (option_id known) ≡ b

named_is : (known : Option Known) (name : Text) → IsNamed known name (is_named known name)
named_is None name = tt
named_is (Some known) name = refl

-- an option that the command does not know
strange_none : (known : Option Known) (free : Bool) (name : Text) (value : Option Text) (ids rest : List Text) → IsStrange known name
    → rows_of_parts ids known free (parts_long name value rest) ≡ None
strange_none known free name value ids rest strange = flag (is_bare_list name value) refl
  where
    numbered : (b : Bool) → bytes_eq name workers_id ≡ b → rows_of_parts ids known free (if not (bytes_eq name workers_id) then None else parts_option value rest) ≡ None
    numbered true e = rw e (option_none ids value rest known free (strange_number known free name strange e))
    numbered false e = rw e refl

    flag : (b : Bool) → is_bare_list name value ≡ b → rows_of_parts ids known free (parts_long name value rest) ≡ None
    flag true e = rw e (chosen_none by_list ids known free (parts_from false rest) (strange_flag known free name value strange e))
    flag false e = rw e (numbered (bytes_eq name workers_id) refl)

-- ---- rows

at_end : (id : Text) (change : Row → List Row) (missing rows : List Row) → has_row id rows ≡ false → at_row id change missing rows ≡ rows ++ missing
at_end id change missing [] none = refl
at_end id change missing (r ∷ rs) none = go (bytes_eq r.id id) refl (λ rest. at_end id change missing rs rest)
  where
    go : (b : Bool) → bytes_eq r.id id ≡ b → (has_row id rs ≡ false → at_row id change missing rs ≡ rs ++ missing) → at_row id change missing (r ∷ rs) ≡ (r ∷ rs) ++ missing
    go true e later = absurd (true≢false (rw e at none))
    go false e later = rw e (ap (λ xs. r ∷ xs) (later (rw e at none)))

row_added : (id value : Text) (rows : List Row) → has_row id rows ≡ false
    → with_values id (reading_of vp.String) CommandLine (value ∷ []) (without id rows) ≡ rows ++ row id value ∷ []
row_added id value rows none =
    let same : without id rows ≡ rows = at_end id (λ _. []) [] rows none ∙ append-nil rows in
    ap (with_values id (reading_of vp.String) CommandLine (value ∷ [])) same ∙ at_end id (more_values CommandLine (value ∷ [])) (row id value ∷ []) rows none

still_new : (id other value : Text) (rows : List Row) → has_row id rows ≡ false → bytes_eq other id ≡ false → has_row id (rows ++ row other value ∷ []) ≡ false
still_new id other value [] none apart = rw apart refl
still_new id other value (r ∷ rs) none apart = go (bytes_eq r.id id) refl (λ rest. still_new id other value rs rest apart)
  where
    go : (b : Bool) → bytes_eq r.id id ≡ b → (has_row id rs ≡ false → has_row id (rs ++ row other value ∷ []) ≡ false) → has_row id ((r ∷ rs) ++ row other value ∷ []) ≡ false
    go true e later = absurd (true≢false (rw e at none))
    go false e later = rw e (later (rw e at none))

still_there : (id other value : Text) (rows : List Row) → has_row id rows ≡ true → has_row id (rows ++ row other value ∷ []) ≡ true
still_there id other value [] there = absurd (true≢false (sym there))
still_there id other value (r ∷ rs) there = go (bytes_eq r.id id) refl (λ rest. still_there id other value rs rest)
  where
    go : (b : Bool) → bytes_eq r.id id ≡ b → (has_row id rs ≡ true → has_row id (rs ++ row other value ∷ []) ≡ true) → has_row id ((r ∷ rs) ++ row other value ∷ []) ≡ true
    go true e later = rw e refl
    go false e later = rw e (later (rw e at there))

now_there : (known : Known) (value : Text) (rows : List Row) → has_row (option_id known) (rows ++ row (option_id known) value ∷ []) ≡ true
now_there takes_number value [] = refl
now_there is_flag value [] = refl
now_there known value (r ∷ rs) = go (bytes_eq r.id (option_id known)) refl (now_there known value rs)
  where
    go : (b : Bool) → bytes_eq r.id (option_id known) ≡ b → has_row (option_id known) (rs ++ row (option_id known) value ∷ []) ≡ true
        → has_row (option_id known) ((r ∷ rs) ++ row (option_id known) value ∷ []) ≡ true
    go true e later = rw e refl
    go false e later = rw e later

-- whether the option came already stays as it was
same_free : (id other value : Text) (rows : List Row) (free : Bool) → bytes_eq id other ≡ false → has_row other rows ≡ not free
    → has_row other (rows ++ row id value ∷ []) ≡ not free
same_free id other value rows true apart is = still_new other id value rows is apart
same_free id other value rows false apart is = still_there other id value rows is

-- ---- failing

first_fails : (a b : Kinds) → Fails a → Fails (or_else a b)
first_fails [] b h = absurd h
first_fails (k ∷ ks) b h = tt

second_fails : (a b c : Kinds) → Fails (or_else b c) → Fails (or_else (or_else a b) c)
second_fails [] b c h = h
second_fails (k ∷ ks) b c h = tt

-- what the walk comes to from rows before it: it fails, or these rows come behind them
abbrev pub Comes : List Row → Kinds → List Row → Option (List Row) → Type 0
Comes before kinds after None = Fails kinds
Comes before kinds after (Some rows) = (kinds ≡ []) × (after ≡ before ++ rows)

one_more : (r : Row) (before : List Row) (kinds : Kinds) (after : List Row) (o : Option (List Row)) → Comes (before ++ r ∷ []) kinds after o
    → Comes before kinds after (option_map (λ rows. r ∷ rows) o)
one_more r before kinds after None h = h
one_more r before kinds after (Some rows) h = (h.0, h.1 ∙ append_assoc before (r ∷ []) rows)

-- ---- what the rules are to be

pub record IsOption (rules : List Rule) (known : Known) : Type 0 where
  pub long : (name : Text) → bytes_eq name (option_id known) ≡ true → arg_by_long rules name ≡ Some (option_rule known)
  pub other : (name : Text) → bytes_eq name (option_id known) ≡ false → arg_by_long rules name ≡ None
  pub by_id : arg_by_id rules (option_id known) ≡ Some (option_rule known)

-- the known option, if there is one, may still come, or not
abbrev pub IsFree : List Rule → Option Known → Bool → List Row → Type 0
IsFree rules None free rows = (name : Text) → arg_by_long rules name ≡ None
IsFree rules (Some known) free rows = IsOption rules known × (has_row (option_id known) rows ≡ not free)

-- the id of a place is not that of the known option
abbrev pub IsOther : Option Known → Text → Type 0
IsOther None id = Unit {0}
IsOther (Some known) id = (bytes_eq id (option_id known) ≡ false) × (bytes_eq (option_id known) id ≡ false)

stays_free : (rules : List Rule) (known : Option Known) (id value : Text) (rows : List Row) (free : Bool) → IsOther known id → IsFree rules known free rows
    → IsFree rules known free (rows ++ row id value ∷ [])
stays_free rules None id value rows free other is = is
stays_free rules (Some known) id value rows free other is = (is.0, same_free id (option_id known) value rows free other.0 is.1)

abbrev pub IsApart : Text → List Text → Type 0
IsApart id [] = Unit {0}
IsApart id (other ∷ ids) = (bytes_eq id other ≡ false) × IsApart id ids

-- the rules of the places from this position on
abbrev pub ArePlaces : List Rule → Option Known → List Text → ℕ → Type 0
ArePlaces rules known [] position = arg_by_index rules position ≡ None
ArePlaces rules known (id ∷ ids) position =
    (arg_by_index rules position ≡ Some (place_at position id)) × (arg_by_id rules id ≡ Some (place_at position id)) × IsOther known id
    × IsApart id ids × ArePlaces rules known ids (min (position + 1) usize_max)

abbrev pub AreNew : List Text → List Row → Type 0
AreNew [] rows = Unit {0}
AreNew (id ∷ ids) rows = (has_row id rows ≡ false) × AreNew ids rows

new_behind : (id value : Text) (ids : List Text) (rows : List Row) → IsApart id ids → AreNew ids rows → AreNew ids (rows ++ row id value ∷ [])
new_behind id value [] rows apart new = tt
new_behind id value (other ∷ ids) rows apart new = (still_new other id value rows new.0 apart.0, new_behind id value ids rows apart.1 new.1)

new_behind_option : (rules : List Rule) (known : Known) (value : Text) (ids : List Text) (position : ℕ) (rows : List Row) → ArePlaces rules (Some known) ids position → AreNew ids rows
    → AreNew ids (rows ++ row (option_id known) value ∷ [])
new_behind_option rules known value [] position rows places new = tt
new_behind_option rules known value (id ∷ ids) position rows places new =
    (still_new id (option_id known) value rows new.0 places.2.1, new_behind_option rules known value ids (min (position + 1) usize_max) rows places.4 new.1)

none_new : (ids : List Text) → AreNew ids []
none_new [] = tt
none_new (id ∷ ids) = (refl, none_new ids)

-- the defaults of the rules can be taken, and no rule is required
abbrev pub ArePlain : List Rule → Type 0
ArePlain [] = Unit {0}
ArePlain (a ∷ rest) = (given_default_fault a a.defaults ≡ []) × (a.required ≡ false) × ArePlain rest

spared : (b : Bool) (kinds : Kinds) → kinds ≡ [] → (if b then [] else kinds) ≡ []
spared true kinds none = refl
spared false kinds none = none

no_defaults : (rows : List Row) (rest : List Rule) → ArePlain rest → defaults_fault rows rest ≡ []
unfolding defaults_fault
no_defaults rows [] plain = refl
no_defaults rows (a ∷ rest) plain =
    let here : default_fault rows a ≡ [] = spared (has_row a.id rows || is_empty a.defaults) (given_default_fault a a.defaults) plain.0 in
    ap (λ k. or_else k (defaults_fault (with_default rows a) rest)) here ∙ no_defaults (with_default rows a) rest plain.2

-- the rows with the defaults of the rules that none of them is of
abbrev pub completed : List Rule → List Row → List Row
completed rules rows = fold with_default rows rules

none_required : (rows : List Row) (rest : List Rule) → ArePlain rest → list_any (λ a. a.required && not (is_given a.id rows)) rest ≡ false
none_required rows [] plain = refl
none_required rows (a ∷ rest) plain =
    let here : a.required ≡ false = plain.1 in
    rw here (none_required rows rest plain.2)

-- one level of a parse, by its walk and what follows
level_comes : (rules : List Rule) (walking settling defaulting checking : Kinds) (after : List Row) (o : Option (List Row)) → defaulting ≡ [] → checking ≡ []
    → Comes [] (or_else walking settling) after o
    → Comes [] (or_else walking (or_else [] (or_else settling (or_else defaulting checking)))) (completed rules after) (option_map (completed rules) o)
level_comes rules [] settling defaulting checking after None d c h = first_fails settling _ h
level_comes rules (k ∷ ks) settling defaulting checking after None d c h = tt
level_comes rules [] settling defaulting checking after (Some rows) d c h = (rw (h.0, d, c) refl, ap (completed rules) h.1)
level_comes rules (k ∷ ks) settling defaulting checking after (Some rows) d c h = let bad : k ∷ ks ≡ [] = h.0 in cc

-- ---- the walk

abbrev pub shape_of_rules : Text → List Rule → Shape
shape_of_rules name rules = record (new_shape name) {
  rules = rules;
  no_binary_name = true;
  disable_help_flag = true;
  disable_help_subcommand = true;
  disable_version_flag = true;
  is_built = true;
}

abbrev pub AreTexts : List Text → Type 0
AreTexts [] = Unit {0}
AreTexts (word ∷ words) = IsUtf8 word × AreTexts words

abbrev held : List Row → Option (Text × List Text) → Held
held rows pending = record { rows = rows; pending = pending; skip = 0 }

-- nothing waits for a value; all words go to places; the option waits for its number
abbrev ready : List Row → Option (Text × List Text) → ℕ → Walk
ready rows pending position = record { held = held rows pending; waiting = idle; position = position; is_trailing = false; stopped = None }

abbrev trailing_on : Waiting → List Row → Option (Text × List Text) → ℕ → Walk
trailing_on waiting rows pending position = record { held = held rows pending; waiting = waiting; position = position; is_trailing = true; stopped = None }

abbrev wanting : List Row → ℕ → Walk
wanting rows position = record { held = held rows (Some (workers_id, [])); waiting = option workers_id; position = position; is_trailing = false; stopped = None }

abbrev trailing_of : Held → ℕ → Walk
trailing_of h position = record { held = h; waiting = idle; position = position; is_trailing = true; stopped = None }

abbrev ready_of : Held → ℕ → Walk
ready_of h position = record { held = h; waiting = idle; position = position; is_trailing = false; stopped = None }

module _ (name : Text) (rules : List Rule) (no_short : (x : ℕ) → arg_by_short rules x ≡ None) where
  abbrev shape : Shape
  shape = shape_of_rules name rules

  abbrev end_of : Walk → List Text → Held
  end_of w words = (fold (walked rules []) w words).held

  abbrev faults : Walk → List Text → Kinds
  faults w words = or_else (walk_fault shape [] w words) (settle_fault rules false (end_of w words))

  abbrev Reaches : Walk → List Text → List Row → Option (List Row) → Type 0
  Reaches w words before o = Comes before (faults w words) (settled rules (end_of w words)).rows o

  step : (w next : Walk) (word : Text) (rest : List Text) (before : List Row) (o : Option (List Row)) → turn_fault shape [] w word ≡ [] → walked rules [] w word ≡ next
      → Reaches next rest before o → Reaches w (word ∷ rest) before o
  unfolding walk_fault
  step w next word rest before o passes is h =
      let P : Kinds → Type 0 = λ k. Comes before (or_else (or_else k (walk_fault shape [] (walked rules [] w word) rest)) (settle_fault rules false (end_of (walked rules [] w word) rest)))
      (settled rules (end_of (walked rules [] w word) rest)).rows o in
      let Q : Walk → Type 0 = λ v. Reaches v rest before o in
      subst P (sym passes) (subst Q (sym is) h)

  refuses : (w : Walk) (word : Text) (rest : List Text) → Fails (turn_fault shape [] w word) → Fails (faults w (word ∷ rest))
  unfolding walk_fault
  refuses w word rest h = first_fails _ _ (first_fails _ _ h)

  fails_later : (w next : Walk) (word : Text) (rest : List Text) → walked rules [] w word ≡ next → Fails (faults next rest) → Fails (faults w (word ∷ rest))
  unfolding walk_fault
  fails_later w next word rest is h =
      let Q : Walk → Type 0 = λ v. Fails (faults v rest) in
      second_fails (turn_fault shape [] w word) (walk_fault shape [] (walked rules [] w word) rest) _ (subst Q (sym is) h)

  ends : (w : Walk) (before : List Row) → settle_fault rules false w.held ≡ [] → (settled rules w.held).rows ≡ before → Reaches w [] before (Some [])
  unfolding walk_fault
  ends w before calm is = (calm, is ∙ sym (append-nil before))

  fails_at_end : (w : Walk) → Fails (settle_fault rules false w.held) → Fails (faults w [])
  unfolding walk_fault
  fails_at_end w h = h

  -- ---- a word in its place

  settles : (position : ℕ) (id : Text) (h : Held) → positional_fault rules false (place_at position id) h ≡ settle_fault rules false h
  settles position id h = go (is_pending (place_at position id) h.pending)
    where
      go : (b : Bool) → (if b && false then [] else settle_fault rules false h) ≡ settle_fault rules false h
      go true = refl
      go false = refl

  takes_place : (position : ℕ) (id word : Text) (rows : List Row) (pending : Option (Text × List Text))
      → positional_held rules (place_at position id) word (held rows pending) ≡ held (settled_rows rules pending rows) (Some (id, word ∷ []))
  takes_place position id word rows pending = go (is_pending (place_at position id) pending)
    where
      go : (b : Bool) → pushed id word (if b && false then held rows pending else settled rules (held rows pending)) ≡ held (settled_rows rules pending rows) (Some (id, word ∷ []))
      go true = refl
      go false = refl

  place_calm : (position : ℕ) (id word : Text) (rows : List Row) → arg_by_id rules id ≡ Some (place_at position id) → has_row id rows ≡ false
      → settle_fault rules false (held rows (Some (id, word ∷ []))) ≡ []
  place_calm position id word rows by_id new = rw (by_id, new) refl

  place_row : (position : ℕ) (id word : Text) (rows : List Row) → arg_by_id rules id ≡ Some (place_at position id) → has_row id rows ≡ false
      → settled_rows rules (Some (id, word ∷ [])) rows ≡ rows ++ row id word ∷ []
  place_row position id word rows by_id new = rw by_id (row_added id word rows new)

  workers_calm : (word : Text) (rows : List Row) → IsOption rules takes_number → has_row workers_id rows ≡ false → settle_fault rules false (held rows (Some (workers_id, word ∷ []))) ≡ []
  workers_calm word rows is new = rw (is.by_id, new) refl

  workers_row : (word : Text) (rows : List Row) → IsOption rules takes_number → has_row workers_id rows ≡ false
      → settled_rows rules (Some (workers_id, word ∷ [])) rows ≡ rows ++ row workers_id word ∷ []
  workers_row word rows is new = rw is.by_id (row_added workers_id word rows new)

  workers_again : (word : Text) (rows : List Row) → IsOption rules takes_number → has_row workers_id rows ≡ true → Fails (settle_fault rules false (held rows (Some (workers_id, word ∷ []))))
  workers_again word rows is there = rw (is.by_id, there) tt

  workers_alone : (rows : List Row) → IsOption rules takes_number → Fails (settle_fault rules false (held rows (Some (workers_id, []))))
  workers_alone rows is = rw is.by_id tt

  -- ---- where the walk can't come to a good end

  stray : (known : Option Known) (ids : List Text) (position : ℕ) (h : Held) → ArePlaces rules known ids position → Fails (settle_fault rules false h)
      → Fails (Rattle.std.specs.Option.option_map_or (λ a. positional_fault rules false a h) (arg_by_index rules position) (Rattle.clap.specs.Faults.stray_fault shape))
  stray known [] position h places bad = rw places tt
  stray known (id ∷ ids) position h places bad = rw places.0 (subst Fails (sym (settles position id h)) bad)

  dooms_trailing : (known : Option Known) (words ids : List Text) (waiting : Waiting) (rows : List Row) (pending : Option (Text × List Text)) (position : ℕ)
      → ArePlaces rules known ids position → Fails (settle_fault rules false (held rows pending)) → Fails (faults (trailing_on waiting rows pending position) words)
  dooms_trailing known [] ids waiting rows pending position places bad = fails_at_end (trailing_on waiting rows pending position) bad
  dooms_trailing known (word ∷ rest) ids waiting rows pending position places bad =
      refuses (trailing_on waiting rows pending position) word rest (stray known ids position (held rows pending) places bad)

  short_fails : (word : Text) (f : ℕ) (fs : Text) (x : ℕ) (rows : List Row) (pending : Option (Text × List Text)) (position : ℕ) → bytes_eq word dashes ≡ false → long_of word ≡ None
      → short_of word ≡ Some (f ∷ fs) → slice_get (chars (f ∷ fs)) 0 ≡ Some x → Fails (turn_fault shape [] (ready rows pending position) word)
  unfolding flags_fault
  short_fails word f fs x rows pending position apart no_long short_is first = rw (apart, no_long, short_is, first, no_short x) tt

  short_fails_wanting : (word : Text) (f : ℕ) (fs : Text) (x : ℕ) (rows : List Row) (position : ℕ) → bytes_eq word dashes ≡ false → long_of word ≡ None
      → short_of word ≡ Some (f ∷ fs) → slice_get (chars (f ∷ fs)) 0 ≡ Some x → Fails (turn_fault shape [] (wanting rows position) word)
  unfolding flags_fault
  short_fails_wanting word f fs x rows position apart no_long short_is first = rw (apart, no_long, short_is, first, no_short x) tt

  dooms_ready : (words ids : List Text) (rows : List Row) (pending : Option (Text × List Text)) (position : ℕ) → AreTexts words → ArePlaces rules (Some takes_number) ids position → IsOption rules takes_number
      → Fails (settle_fault rules false (held rows pending)) → Fails (faults (ready rows pending position) words)
  unfolding walked
  dooms_ready [] ids rows pending position text places is bad = fails_at_end (ready rows pending position) bad
  dooms_ready (word ∷ rest) ids rows pending position text places is bad = go (look word text.0)
    where
      w : Walk
      w = ready rows pending position

      long : (o : Option Text) (n : Text) → bytes_eq word dashes ≡ false → long_of word ≡ Some (n, o) → (b : Bool) → bytes_eq n workers_id ≡ b → Fails (turn_fault shape [] w word)
      long o n apart long_is false other = rw (apart, long_is, is.other n other) tt
      long None n apart long_is true same = rw (apart, long_is, is.long n same) (first_fails _ _ bad)
      long (Some v) n apart long_is true same = rw (apart, long_is, is.long n same) (first_fails _ _ (first_fails _ _ bad))

      go : Looks word → Fails (faults w (word ∷ rest))
      go (as_separator behind dashed) =
          fails_later w (trailing_on idle rows pending position) word rest (rw behind refl) (dooms_trailing (Some takes_number) rest ids idle rows pending position places bad)
      go (as_plain apart no_long no_flags plain) = refuses w word rest (rw (apart, no_long, no_flags) (stray (Some takes_number) ids position (held rows pending) places bad))
      go (as_long n apart long_is same bare dashed) = refuses w word rest (long (attached word) n apart long_is (bytes_eq n workers_id) refl)
      go (as_short f fs x apart no_long short_is first other bare dashed) = refuses w word rest (short_fails word f fs x rows pending position apart no_long short_is first)

  -- ---- the walk from each of its places

  pub record IsReady (known : Option Known) (ids : List Text) (free : Bool) (before rows : List Row) (pending : Option (Text × List Text)) (position : ℕ) : Type 0 where
    calm : settle_fault rules false (held rows pending) ≡ []
    is : settled_rows rules pending rows ≡ before
    places : ArePlaces rules known ids position
    new : AreNew ids before
    free_is : IsFree rules known free before

  place_taken : (known : Option Known) (id word : Text) (ids : List Text) (free : Bool) (before : List Row) (position : ℕ) → ArePlaces rules known (id ∷ ids) position
      → AreNew (id ∷ ids) before → IsFree rules known free before
      → IsReady known ids free (before ++ row id word ∷ []) before (Some (id, word ∷ [])) (min (position + 1) usize_max)
  place_taken known id word ids free before position places new free_is = record {
    calm = place_calm position id word before places.1 new.0;
    is = place_row position id word before places.1 new.0;
    places = places.4;
    new = new_behind id word ids before places.3 new.1;
    free_is = stays_free rules known id word before free places.2 free_is;
  }

  trails : (known : Option Known) (words ids : List Text) (free : Bool) (before rows : List Row) (pending : Option (Text × List Text)) (position : ℕ)
      → IsReady known ids free before rows pending position → Reaches (trailing_on idle rows pending position) words before (rows_in (map placed words) ids known free)
  unfolding walked
  trails known [] ids free before rows pending position r = ends (trailing_on idle rows pending position) before r.calm r.is
  trails known (word ∷ rest) [] free before rows pending position r =
      refuses (trailing_on idle rows pending position) word rest (let places : arg_by_index rules position ≡ None = r.places in rw places tt)
  trails known (word ∷ rest) (id ∷ ids) free before rows pending position r =
      let next = place_taken known id word ids free before position r.places r.new r.free_is in
      let here : arg_by_index rules position ≡ Some (place_at position id) = r.places.0 in
      let later = trails known rest ids free (before ++ row id word ∷ []) before (Some (id, word ∷ [])) (min (position + 1) usize_max) next in
      step (trailing_on idle rows pending position) (trailing_on idle before (Some (id, word ∷ [])) (min (position + 1) usize_max)) word rest before _
      (rw here (settles position id (held rows pending) ∙ r.calm))
      (rw here (ap (λ (h : Held). trailing_of h (min (position + 1) usize_max)) (takes_place position id word rows pending ∙ ap (λ xs. held xs (Some (id, word ∷ []))) r.is)))
      (one_more (row id word) before _ _ (rows_in (map placed rest) ids known free) later)

  pub record IsWanting (ids : List Text) (free : Bool) (rows : List Row) (position : ℕ) : Type 0 where
    places : ArePlaces rules (Some takes_number) ids position
    new : AreNew ids rows
    is : IsOption rules takes_number
    there : has_row workers_id rows ≡ not free

  abbrev FromReady : Option Known → List Text → Type 0
  FromReady known words = (ids : List Text) (free : Bool) (before rows : List Row) (pending : Option (Text × List Text)) (position : ℕ)
      → IsReady known ids free before rows pending position → Reaches (ready rows pending position) words before (rows_of_parts ids known free (parts_from false words))

  abbrev FromWanting : List Text → Type 0
  FromWanting words = (ids : List Text) (free : Bool) (rows : List Row) (position : ℕ) → IsWanting ids free rows position
      → Reaches (wanting rows position) words rows (rows_of_parts ids (Some takes_number) free (parts_from true words))

  reaches_by : (w : Walk) (words : List Text) (before : List Row) (o by : Option (List Row)) → o ≡ by → Reaches w words before by → Reaches w words before o
  reaches_by w words before o by e h = let P : Option (List Row) → Type 0 = λ x. Reaches w words before x in subst P (sym e) h

  option_taken : (known : Known) (value : Text) (ids : List Text) (before : List Row) (position : ℕ) → ArePlaces rules (Some known) ids position → AreNew ids before → IsOption rules known
      → IsReady (Some known) ids false (before ++ row (option_id known) value ∷ []) (before ++ row (option_id known) value ∷ []) None position
  option_taken known value ids before position places new is = record {
    calm = refl;
    is = refl;
    places = places;
    new = new_behind_option rules known value ids position before places new;
    free_is = (is, now_there known value before);
  }

  -- the row that an option makes at once, where there is none of it
  made_row : (id value : Text) (before rows : List Row) (pending : Option (Text × List Text)) → settled_rows rules pending rows ≡ before → has_row id before ≡ false
      → with_values id (reading_of vp.String) CommandLine (value ∷ []) (without id (settled_rows rules pending rows)) ≡ before ++ row id value ∷ []
  made_row id value before rows pending is none = ap (λ xs. with_values id (reading_of vp.String) CommandLine (value ∷ []) (without id xs)) is ∙ row_added id value before none

  -- `--workers`, with a value in its word or not
  met_number : (word : Text) (rest : List Text) (n : Text) (o : Option Text) → FromReady (Some takes_number) rest → FromWanting rest → bytes_eq word dashes ≡ false
      → long_of word ≡ Some (n, o) → bytes_eq n workers_id ≡ true
      → (ids : List Text) (free : Bool) (before rows : List Row) (pending : Option (Text × List Text)) (position : ℕ)
      → IsReady (Some takes_number) ids free before rows pending position → IsOption rules takes_number → has_row workers_id before ≡ not free
      → Reaches (ready rows pending position) (word ∷ rest) before (rows_of_parts ids (Some takes_number) free (parts_option o rest))
  unfolding walked
  met_number word rest n None on_ready on_wanting apart long_is same ids free before rows pending position r is there =
      step (ready rows pending position) (wanting before position) word rest before _
      (rw (apart, long_is, is.long n same, r.calm) refl)
      (rw (apart, long_is, is.long n same) (ap (λ xs. wanting xs position) r.is))
      (on_wanting ids free before position (record { places = r.places; new = r.new; is = is; there = there }))
  met_number word rest n (Some v) on_ready on_wanting apart long_is same ids true before rows pending position r is there =
      let none : has_row workers_id (settled_rows rules pending rows) ≡ false = ap (has_row workers_id) r.is ∙ there in
      reaches_by (ready rows pending position) (word ∷ rest) before _ _ (chosen_some (worker_number v) ids (Some takes_number) true (parts_from false rest) refl)
      (step (ready rows pending position) (ready (before ++ row workers_id v ∷ []) None position) word rest before _
      (rw (apart, long_is, is.long n same, r.calm, none) refl)
      (rw (apart, long_is, is.long n same) (ap (λ xs. ready xs None position) (made_row workers_id v before rows pending r.is there)))
      (one_more (row workers_id v) before _ _ (rows_of_parts ids (Some takes_number) false (parts_from false rest))
      (on_ready ids false _ _ None position (option_taken takes_number v ids before position r.places r.new is))))
  met_number word rest n (Some v) on_ready on_wanting apart long_is same ids false before rows pending position r is there =
      let again : has_row workers_id (settled_rows rules pending rows) ≡ true = ap (has_row workers_id) r.is ∙ there in
      reaches_by (ready rows pending position) (word ∷ rest) before _ _ (chosen_none (worker_number v) ids (Some takes_number) false (parts_from false rest) refl)
      (refuses (ready rows pending position) word rest (rw (apart, long_is, is.long n same, r.calm, again) tt))

  -- `--list`
  met_flag : (word : Text) (rest : List Text) (n : Text) → FromReady (Some is_flag) rest → bytes_eq word dashes ≡ false → long_of word ≡ Some (n, None) → bytes_eq n list_id ≡ true
      → (ids : List Text) (free : Bool) (before rows : List Row) (pending : Option (Text × List Text)) (position : ℕ)
      → IsReady (Some is_flag) ids free before rows pending position → IsOption rules is_flag → has_row list_id before ≡ not free
      → Reaches (ready rows pending position) (word ∷ rest) before (rows_of_parts ids (Some is_flag) free (part_before (chosen by_list) (parts_from false rest)))
  unfolding walked
  met_flag word rest n on_ready apart long_is same ids true before rows pending position r is there =
      let none : has_row list_id (settled_rows rules pending rows) ≡ false = ap (has_row list_id) r.is ∙ there in
      reaches_by (ready rows pending position) (word ∷ rest) before _ _ (chosen_some by_list ids (Some is_flag) true (parts_from false rest) refl)
      (step (ready rows pending position) (ready (before ++ row list_id (codes "true") ∷ []) None position) word rest before _
      (rw (apart, long_is, is.long n same, r.calm, none) refl)
      (rw (apart, long_is, is.long n same) (ap (λ xs. ready xs None position) (made_row list_id (codes "true") before rows pending r.is there)))
      (one_more (row list_id (codes "true")) before _ _ (rows_of_parts ids (Some is_flag) false (parts_from false rest))
      (on_ready ids false _ _ None position (option_taken is_flag (codes "true") ids before position r.places r.new is))))
  met_flag word rest n on_ready apart long_is same ids false before rows pending position r is there =
      let again : has_row list_id (settled_rows rules pending rows) ≡ true = ap (has_row list_id) r.is ∙ there in
      reaches_by (ready rows pending position) (word ∷ rest) before _ _ (chosen_none by_list ids (Some is_flag) false (parts_from false rest) refl)
      (refuses (ready rows pending position) word rest (rw (apart, long_is, is.long n same, r.calm, again) tt))

  -- a long option of some name, with a value in its word or not
  met_long : (known : Option Known) (word : Text) (rest : List Text) (n : Text) (o : Option Text) (b : Bool) → FromReady known rest → FromWanting rest → bytes_eq word dashes ≡ false
      → long_of word ≡ Some (n, o) → (ids : List Text) (free : Bool) (before rows : List Row) (pending : Option (Text × List Text)) (position : ℕ)
      → IsReady known ids free before rows pending position → IsFree rules known free before → IsNamed known n b
      → Reaches (ready rows pending position) (word ∷ rest) before (rows_of_parts ids known free (parts_long n o rest))
  met_long None word rest n o b on_ready on_wanting apart long_is ids free before rows pending position r is named =
      reaches_by (ready rows pending position) (word ∷ rest) before _ _ (strange_none None free n o ids rest tt)
      (refuses (ready rows pending position) word rest (rw (apart, long_is, is n) tt))
  met_long (Some known) word rest n o false on_ready on_wanting apart long_is ids free before rows pending position r is named =
      reaches_by (ready rows pending position) (word ∷ rest) before _ _ (strange_none (Some known) free n o ids rest named)
      (refuses (ready rows pending position) word rest (rw (apart, long_is, is.0.other n named) tt))
  met_long (Some takes_number) word rest n o true on_ready on_wanting apart long_is ids free before rows pending position r is named =
      reaches_by (ready rows pending position) (word ∷ rest) before _ _ (ap (rows_of_parts ids (Some takes_number) free) (parts_number n o rest named))
      (met_number word rest n o on_ready on_wanting apart long_is named ids free before rows pending position r is.0 is.1)
  met_long (Some is_flag) word rest n None true on_ready on_wanting apart long_is ids free before rows pending position r is named =
      reaches_by (ready rows pending position) (word ∷ rest) before _ _ (ap (rows_of_parts ids (Some is_flag) free) (parts_flag n rest named))
      (met_flag word rest n on_ready apart long_is named ids free before rows pending position r is.0 is.1)
  met_long (Some is_flag) word rest n (Some v) true on_ready on_wanting apart long_is ids free before rows pending position r is named =
      reaches_by (ready rows pending position) (word ∷ rest) before _ _ (ap (rows_of_parts ids (Some is_flag) free) (parts_flag_value n v rest named))
      (refuses (ready rows pending position) word rest (rw (apart, long_is, is.0.long n named) tt))

  next_ready : (known : Option Known) (word : Text) (rest : List Text) → Looks word → FromReady known rest → FromWanting rest → FromReady known (word ∷ rest)
  unfolding walked
  next_ready known word rest (as_separator behind dashed) on_ready on_wanting ids free before rows pending position r =
      reaches_by (ready rows pending position) (word ∷ rest) before _ _ (ap (rows_of_parts ids known free) (parts_behind word rest dashed behind))
      (step (ready rows pending position) (trailing_on idle rows pending position) word rest before _ (rw behind refl) (rw behind refl)
      (trails known rest ids free before rows pending position r))
  next_ready known word rest (as_plain apart no_long no_flags plain) on_ready on_wanting [] free before rows pending position r =
      let here : arg_by_index rules position ≡ None = r.places in
      reaches_by (ready rows pending position) (word ∷ rest) before _ _
      (ap (rows_of_parts [] known free) (parts_plain word rest plain) ∙ placed_none word known free (parts_from false rest))
      (refuses (ready rows pending position) word rest (rw (apart, no_long, no_flags, here) tt))
  next_ready known word rest (as_plain apart no_long no_flags plain) on_ready on_wanting (id ∷ ids) free before rows pending position r =
      let here : arg_by_index rules position ≡ Some (place_at position id) = r.places.0 in
      reaches_by (ready rows pending position) (word ∷ rest) before _ _
      (ap (rows_of_parts (id ∷ ids) known free) (parts_plain word rest plain) ∙ placed_some id word ids known free (parts_from false rest))
      (step (ready rows pending position) (ready before (Some (id, word ∷ [])) (min (position + 1) usize_max)) word rest before _
      (rw (apart, no_long, no_flags, here) (settles position id (held rows pending) ∙ r.calm))
      (rw (apart, no_long, no_flags, here) (ap (λ h. ready_of h (min (position + 1) usize_max)) (takes_place position id word rows pending ∙ ap (λ xs. held xs (Some (id, word ∷ []))) r.is)))
      (one_more (row id word) before _ _ (rows_of_parts ids known free (parts_from false rest))
      (on_ready ids free (before ++ row id word ∷ []) before (Some (id, word ∷ [])) (min (position + 1) usize_max)
      (place_taken known id word ids free before position r.places r.new r.free_is))))
  next_ready known word rest (as_long n apart long_is same bare dashed) on_ready on_wanting ids free before rows pending position r =
      reaches_by (ready rows pending position) (word ∷ rest) before _ _ (ap (rows_of_parts ids known free) (parts_of_long word n rest dashed apart same bare))
      (met_long known word rest n (attached word) (is_named known n) on_ready on_wanting apart long_is ids free before rows pending position r r.free_is (named_is known n))
  next_ready known word rest (as_short f fs x apart no_long short_is first other bare dashed) on_ready on_wanting ids free before rows pending position r =
      reaches_by (ready rows pending position) (word ∷ rest) before _ _ (ap (rows_of_parts ids known free) (parts_other word rest dashed apart bare other))
      (refuses (ready rows pending position) word rest (short_fails word f fs x rows pending position apart no_long short_is first))

  -- a long option where a number is wanted
  long_wanting : (word n : Text) (o : Option Text) (rows : List Row) (position : ℕ) → IsOption rules takes_number → bytes_eq word dashes ≡ false → long_of word ≡ Some (n, o) → (b : Bool)
      → bytes_eq n workers_id ≡ b → Fails (turn_fault shape [] (wanting rows position) word)
  long_wanting word n o rows position is apart long_is false other = rw (apart, long_is, is.other n other) tt
  long_wanting word n None rows position is apart long_is true same = rw (apart, long_is, is.long n same) (first_fails _ _ (workers_alone rows is))
  long_wanting word n (Some v) rows position is apart long_is true same = rw (apart, long_is, is.long n same) (first_fails _ _ (first_fails _ _ (workers_alone rows is)))

  next_wanting : (word : Text) (rest : List Text) → AreTexts rest → Looks word → FromReady (Some takes_number) rest → FromWanting (word ∷ rest)
  unfolding walked
  next_wanting word rest text (as_separator behind dashed) on_ready ids free rows position r =
      reaches_by (wanting rows position) (word ∷ rest) rows _ _ (ap (rows_of_parts ids (Some takes_number) free) (parts_no_value word rest dashed))
      (fails_later (wanting rows position) (trailing_on (option workers_id) rows (Some (workers_id, [])) position) word rest (rw behind refl)
      (dooms_trailing (Some takes_number) rest ids (option workers_id) rows (Some (workers_id, [])) position r.places (workers_alone rows r.is)))
  next_wanting word rest text (as_plain apart no_long no_flags plain) on_ready ids true rows position r =
      reaches_by (wanting rows position) (word ∷ rest) rows _ _ (ap (rows_of_parts ids (Some takes_number) true) (parts_value word rest plain)
      ∙ chosen_some (worker_number word) ids (Some takes_number) true (parts_from false rest) refl)
      (step (wanting rows position) (ready rows (Some (workers_id, word ∷ [])) position) word rest rows _
      (rw (apart, no_long, no_flags) refl)
      (rw (apart, no_long, no_flags, r.is.by_id) refl)
      (one_more (row workers_id word) rows _ _ (rows_of_parts ids (Some takes_number) false (parts_from false rest))
      (on_ready ids false (rows ++ row workers_id word ∷ []) rows (Some (workers_id, word ∷ [])) position (record {
        calm = workers_calm word rows r.is r.there;
        is = workers_row word rows r.is r.there;
        places = r.places;
        new = new_behind_option rules takes_number word ids position rows r.places r.new;
        free_is = (r.is, now_there takes_number word rows);
      }))))
  next_wanting word rest text (as_plain apart no_long no_flags plain) on_ready ids false rows position r =
      reaches_by (wanting rows position) (word ∷ rest) rows _ _ (ap (rows_of_parts ids (Some takes_number) false) (parts_value word rest plain)
      ∙ chosen_none (worker_number word) ids (Some takes_number) false (parts_from false rest) refl)
      (fails_later (wanting rows position) (ready rows (Some (workers_id, word ∷ [])) position) word rest (rw (apart, no_long, no_flags, r.is.by_id) refl)
      (dooms_ready rest ids rows (Some (workers_id, word ∷ [])) position text r.places r.is (workers_again word rows r.is r.there)))
  next_wanting word rest text (as_long n apart long_is same bare dashed) on_ready ids free rows position r =
      reaches_by (wanting rows position) (word ∷ rest) rows _ _ (ap (rows_of_parts ids (Some takes_number) free) (parts_no_value word rest dashed))
      (refuses (wanting rows position) word rest (long_wanting word n (attached word) rows position r.is apart long_is (bytes_eq n workers_id) refl))
  next_wanting word rest text (as_short f fs x apart no_long short_is first other bare dashed) on_ready ids free rows position r =
      reaches_by (wanting rows position) (word ∷ rest) rows _ _ (ap (rows_of_parts ids (Some takes_number) free) (parts_no_value word rest dashed))
      (refuses (wanting rows position) word rest (short_fails_wanting word f fs x rows position apart no_long short_is first))

  walks : (words : List Text) → AreTexts words → ((known : Option Known) → FromReady known words) × FromWanting words
  unfolding parts_from
  walks [] text = (
    λ known ids free before rows pending position r. ends (ready rows pending position) before r.calm r.is,
    λ ids free rows position r. fails_at_end (wanting rows position) (workers_alone rows r.is),
  )
  walks (word ∷ rest) text =
      let later = walks rest text.1 in
      (λ known. next_ready known word rest (look word text.0) (later.0 known) later.1, next_wanting word rest text.1 (look word text.0) (later.0 (Some takes_number)))

  -- one level of a parse over these rules
  pub level_reads : (words ids : List Text) (known : Option Known) (free : Bool) → AreTexts words → ArePlaces rules known ids 1 → IsFree rules known free [] → ArePlain rules
      → Comes [] (level_fault shape [] nothing_held words false []) (rows_after rules [] words) (option_map (completed rules) (rows_of_parts ids known free (parts_from false words)))
  level_reads words ids known free text places free_is plain =
      let w = ready [] None 1 in
      let after = (settled rules (end_of w words)).rows in
      let h = (walks words text).0 known ids free [] [] None 1 (record { calm = refl; is = refl; places = places; new = none_new ids; free_is = free_is }) in
      let check : check_fault shape (finished rules (end_of w words)) false ≡ [] = rw (none_required (finished rules (end_of w words)) rules plain) refl in
      level_comes rules (walk_fault shape [] w words) (settle_fault rules false (end_of w words)) _ _ after _ (no_defaults after rules plain) check h
