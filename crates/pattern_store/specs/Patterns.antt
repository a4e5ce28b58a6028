-- What a store answers by: the patterns that are shown around eroded positions, and how often.
use Rattle.std.specs.Prelude.{ℕ, ◌-◌, ◌*◌, Bool, if◌then◌else◌, List, length, map, slice_get, slice_index}
use Rattle.std.specs.List.{list_all, range_with_len, sum_by}
use Rattle.mp_base.specs.Counts.{is_cat}
use Rattle.ti_scan.specs.declared.event.Datum.{Datum}

-- the categories at the positions of a template, in order, and how many eroded positions that show them have each category at their centre
pub record Pattern : Type 0 where
  pub shown : List ℕ
  pub centres : List ℕ

-- the length of the template, the number of categories, and the patterns
pub record Patterns : Type 0 where
  pub reach : ℕ
  pub cats : ℕ
  pub list : List Pattern

-- there is this category at this position
abbrev pub has_datum : List ℕ → Datum → Bool
has_datum shown d = is_cat (slice_get shown (d.position - 1)) d.cat

-- how many positions of the patterns that have each datum have category k at their centre
unfoldable pub replicates : List Pattern → List Datum → ℕ → ℕ
replicates patterns event k = sum_by (λ p. if list_all (has_datum p.shown) event then slice_index p.centres k else 0) patterns

-- of the patterns that have each datum, how many positions have each category at their centre
abbrev pub pattern_counts : Patterns → List Datum → List ℕ
pattern_counts p event = map (replicates p.list event) (range_with_len 0 p.cats)

abbrev pub reach_of : Patterns → ℕ
reach_of p = p.reach

-- how many bits say whether each pattern has each category at each position
abbrev pub bits_of : Patterns → ℕ
bits_of p = length p.list * p.reach * p.cats
