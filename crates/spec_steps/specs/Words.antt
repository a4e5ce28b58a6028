-- What the lines of a schedule say.
use Rattle.std.specs.Prelude.{ℕ, Bool, ◌&&◌, ◌==◌, nat_le, nat_lt, List, [], ◌∷◌, length, Option, Some, None, option_and_then, if◌then◌else◌, codes, slice_get, unwrap_or}
use Rattle.std.specs.List.{find}
use Rattle.std.specs.Str.{bytes_eq}
use Rattle.mp_base.specs.Number.{short_number}
use Rattle.mp_text.specs.Fields.{fields_of}
use Rattle.spec_steps.specs.declared.step.Step.{Step}
use Rattle.spec_steps.specs.declared.words.Heading.{Heading}
use Rattle.spec_steps.specs.Steps.{board_steps, step_name, worker_steps}

-- a number, where it passes
abbrev pub where_so : (ℕ → Bool) → ℕ → Option ℕ
where_so test n = if test n then Some n else None

-- the number below an end that one to four digits write
unfoldable pub number_below : ℕ → List ℕ → Option ℕ
number_below end text = option_and_then (where_so (λ n. nat_lt n end)) (short_number 4 text)

-- the number from 1 to a last one that one to four digits write
unfoldable pub number_up_to : ℕ → List ℕ → Option ℕ
number_up_to last text = option_and_then (where_so (λ n. nat_le 1 n && nat_le n last)) (short_number 4 text)

-- the word at an index, or no byte where there is none
abbrev pub word : List (List ℕ) → ℕ → List ℕ
word words i = unwrap_or (slice_get words i) []

-- `schedule 1`
abbrev pub is_title : List ℕ → Bool
is_title line =
    let words = fields_of line in
    length words == 2 && (bytes_eq (word words 0) (codes "schedule") && bytes_eq (word words 1) (codes "1"))

-- `realisation`, a word, `level`, a word, `workers` and a word
abbrev pub are_heading : List (List ℕ) → Bool
are_heading words =
    length words == 6 && (bytes_eq (word words 0) (codes "realisation") && (bytes_eq (word words 2) (codes "level") && bytes_eq (word words 4) (codes "workers")))

-- the heading of three numbers, where all are there
abbrev pub heading_by : Option ℕ → Option ℕ → Option ℕ → Option Heading
heading_by (Some r) (Some g) (Some w) = Some (record { realisation = r; level = g; workers = w })
heading_by (Some r) (Some g) None = None
heading_by (Some r) None w = None
heading_by None g w = None

-- `realisation R level G workers W`, with R below so many realisations, G from 1 to so many levels and W from 1 to 64
unfoldable pub heading_of : ℕ → ℕ → List ℕ → Option Heading
heading_of realisations levels line =
    let words = fields_of line in
    if are_heading words then heading_by (number_below realisations (word words 1)) (number_up_to levels (word words 3)) (number_up_to 64 (word words 5)) else None

-- the first of some steps that has this name
abbrev pub named : List ℕ → List Step → Option Step
named name steps = find (λ s. bytes_eq (step_name s) name) steps

-- the step that some words are, where so many workers take steps
abbrev pub step_in : ℕ → List (List ℕ) → Option Step
step_in workers [] = None
step_in workers (name ∷ []) = named name board_steps
step_in workers (name ∷ worker ∷ []) = option_and_then (λ w. named name (worker_steps w)) (number_up_to workers worker)
step_in workers (name ∷ worker ∷ next ∷ words) = None

unfoldable pub step_of : ℕ → List ℕ → Option Step
step_of workers line = step_in workers (fields_of line)
