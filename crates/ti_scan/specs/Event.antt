-- Data events, and how often an image shows one.
use Rattle.std.specs.Prelude.{◌≡◌, ℕ, ◌-◌, ◌^◌, ◌<◌, ◌≤◌, Bool, List, Option, sum, filter, slice_get, length, All, Contains}
use Rattle.std.specs.List.{list_all}
use Rattle.std.specs.Option.{option_and_then}
use Rattle.mp_base.specs.declared.cell.Vector.{Vector}
use Rattle.mp_base.specs.Counts.{is_cat, tally}
use Rattle.mp_base.specs.Grid.{Field, IsGrid, IsBelow, cells_of, cat_of, cat_at}
use Rattle.ti_scan.specs.declared.event.Datum.{Datum}
use Rattle.ti_scan.specs.Rising.{RisesFrom}
use Rattle.ti_scan.specs.Eroded.{positions_of}

-- what is counted in: an image, a template of a level, and the number of categories
pub record Source : Type 0 where
  pub image : Field
  pub template : List Vector
  pub cats : ℕ

-- an event of a template of t vectors
abbrev pub IsEvent : ℕ → List Datum → Type 0
IsEvent t event = RisesFrom 1 t event

-- the category at a template position, counted from 1, around a cell
abbrev pub cat_around : Source → ℕ → ℕ → Option ℕ
cat_around s c position = option_and_then (cat_at s.image c) (slice_get s.template (position - 1))

abbrev pub shows : Source → ℕ → Datum → Bool
shows s c d = is_cat (cat_around s c d.position) d.cat

-- of these cells, those that show each datum, by the category at their centre
unfoldable pub tallied : Source → List Datum → List ℕ → List ℕ
tallied s event cells = tally (cat_of s.image.cells) s.cats (filter (λ c. list_all (shows s c) event) cells)

-- how many eroded positions that show each datum have each category at their centre
abbrev pub counts_of : Source → List Datum → List ℕ
counts_of s event = tallied s event (positions_of s.image s.template)

abbrev pub total_of : Source → List Datum → ℕ
total_of s event = sum (counts_of s event)

-- A store stands for a source: its template has the source's length, and it answers the source's counts for each event.
pub record StandsFor {S : Type 0} (gives : S → List Datum → List ℕ) (reaches : S → ℕ) (store : S) (s : Source) : Type 0 where
  pub reach : reaches store ≡ length s.template
  pub counts : (event : List Datum) → IsEvent (length s.template) event → gives store event ≡ counts_of s event

-- sources that can be counted in: the image has at most 2 ^ 20 cells, each category below cats
pub record IsSource (s : Source) : Type 0 where
  pub image : IsGrid s.image
  pub short : length s.template ≤ 64
  pub cats_some : 1 ≤ s.cats
  pub cats_few : s.cats ≤ 8
  pub below : All (IsBelow s.cats) s.image.cells

-- what an `Eroded` keeps: its source can be counted in, and its positions are those of the source
pub record IsEroded (s : Source) (positions : List ℕ) : Type 0 where
  pub source : IsSource s
  pub positions_are : positions ≡ positions_of s.image s.template
  pub inside : All (λ c. c < cells_of s.image.sides) positions
  pub few : length positions ≤ 2 ^ 20

-- each datum of one event is a datum of the other
abbrev pub IsWithin : List Datum → List Datum → Type 0
IsWithin event larger = All (Contains larger) event
