-- The text of `scan`: the size of the store, the counts of each prefix of the event, and what is retained of the event.
use Rattle.std.specs.Prelude.{◌≡◌, ℕ, ◌+◌, List, [], ◌∷◌, ◌++◌, length, map, take, flat_map, None, codes}
use Rattle.std.specs.Fmt.{decimal}
use Rattle.std.specs.List.{range_with_len}
use Rattle.mp_base.specs.Grid.{Field, field}
use Rattle.mp_base.specs.Spaced.{behind_spaces}
use Rattle.mp_values.specs.declared.choice.StoreChoice.{StoreChoice}
use Rattle.mp_values.specs.Texts.{store_text}
use Rattle.ti_scan.specs.declared.event.Datum.{Datum}
use Rattle.ti_scan.specs.Event.{counts_of}
use Rattle.event_retrieve.specs.Plan.{Plan}
use Rattle.event_retrieve.specs.Retrieval.{retained, reach}
use Rattle.seq_engine.specs.declared.setup.Setup.{Setup}
use Rattle.seq_engine.specs.Realisation.{level_plan}

-- the word and the numbers by category
abbrev pub counts_text : List ℕ → List ℕ
counts_text counts = codes " counts" ++ behind_spaces decimal counts

-- the kind of the store, and how many nodes or entries it has
abbrev pub store_line : StoreChoice → ℕ → List ℕ
store_line store size = codes "store " ++ (store_text store ++ (codes " " ++ (decimal size ++ codes "\n")))

-- the counts of the first len data
abbrev pub counts_line : ℕ → List ℕ → List ℕ
counts_line len counts = codes "prefix " ++ (decimal len ++ (counts_text counts ++ codes "\n"))

-- the same by what is answered for each event
abbrev pub prefix_line : (List Datum → List ℕ) → List Datum → ℕ → List ℕ
prefix_line gives event len = counts_line len (gives (take len event))

-- the first data of an event, from none to all
abbrev pub prefixes_of : List Datum → List (List Datum)
prefixes_of event = map (λ len. take len event) (range_with_len 0 (length event + 1))

-- a line for each prefix, from the empty one to the whole event
abbrev pub prefix_lines : (List Datum → List ℕ) → List Datum → List ℕ
prefix_lines gives event = flat_map (prefix_line gives event) (range_with_len 0 (length event + 1))

-- how many data are retained, up to which position the data decide that, and the counts of the retained data
abbrev pub kept_line : ℕ → ℕ → List ℕ → List ℕ
kept_line len position counts = codes "retained " ++ (decimal len ++ (codes " reach " ++ (decimal position ++ (counts_text counts ++ codes "\n"))))

-- the line of what is retained of an event, under a plan
abbrev pub retained_line : Plan → List Datum → List ℕ
retained_line p event = kept_line (length (retained p event)) (reach p event) (counts_of p.source (retained p event))

-- the text of an event, under a plan
unfoldable pub scan_text : StoreChoice → ℕ → Plan → List Datum → List ℕ
scan_text store size p event = store_line store size ++ (prefix_lines (counts_of p.source) event ++ retained_line p event)

-- a grid of one cell, which is unknown
abbrev pub one_cell : Field
one_cell = field (record { nx = 1; ny = 1; nz = 1 }) (None ∷ [])

-- a plan of a level of a setup, over one cell: what is retained of an event is the same under every plan of the level
abbrev pub scan_plan : Setup → ℕ → Plan
scan_plan s level = level_plan s 0 level one_cell

-- under every plan of a level the text of an event is that under this plan
abbrev pub TellsAlike : Setup → ℕ → Plan → Type 0
TellsAlike s level plan =
    (store : StoreChoice) (size realisation : ℕ) (start : Field) (event : List Datum) → scan_text store size (level_plan s realisation level start) event ≡ scan_text store size plan event
