-- What an image shows around each of its eroded positions.
use Rattle.std.specs.Prelude.{◌≡◌, ℕ, suc, ◌-◌, ◌<◌, ◌==◌, Bool, true, ◌&&◌, List, Some, length, slice_index, unwrap_or}
use Rattle.std.specs.List.{count_by, list_all, range_with_len}
use Rattle.mp_base.specs.Grid.{cat_of, cells_of}
use Rattle.ti_scan.specs.declared.event.Datum.{Datum}
use Rattle.ti_scan.specs.Eroded.{is_eroded, positions_of}
use Rattle.ti_scan.specs.Event.{Source, cat_around}
use Rattle.pattern_store.specs.Prefixes.{same_prefix}

-- position number i of the source
abbrev pub cell_of : Source → ℕ → ℕ
cell_of s i = slice_index (positions_of s.image s.template) i

-- how many there are
abbrev pub many : Source → ℕ
many s = length (positions_of s.image s.template)

-- the patterns of positions: the category of position i at template position q + 1
abbrev pub Table : Type 0
Table = ℕ → ℕ → ℕ

-- the category at template position q + 1 around cell number i of a list
abbrev pub around : Source → List ℕ → Table
around s cells i q = unwrap_or (cat_around s (slice_index cells i) (suc q)) 0

-- the category at template position q + 1 around position i
abbrev pub table : Source → Table
table s i q = unwrap_or (cat_around s (cell_of s i) (suc q)) 0

-- each of these cells is an eroded position
pub record AreEroded (s : Source) (cells : List ℕ) : Type 0 where
  pub inside : (i : ℕ) → i < length cells → slice_index cells i < cells_of s.image.sides
  pub eroded : (i : ℕ) → i < length cells → is_eroded s.image s.template (slice_index cells i) ≡ true

-- the category of position i
abbrev pub centre : Source → ℕ → ℕ
centre s i = unwrap_or (cat_of s.image.cells (cell_of s i)) 0

-- the pattern of position i has each datum
abbrev pub has_each : Table → ℕ → List Datum → Bool
has_each p i event = list_all (λ d. p i (d.position - 1) == d.cat) event

-- how many of the first n positions have each datum and category k at their centre
abbrev pub found : Table → (ℕ → ℕ) → ℕ → List Datum → ℕ → ℕ
found p c n event k = count_by (λ i. has_each p i event && c i == k) (range_with_len 0 n)

-- what the image shows at a template position around each cell
pub record AreShown (s : Source) (position : ℕ) (cells shown : List ℕ) : Type 0 where
  pub count : length shown ≡ length cells
  pub each : (i : ℕ) → i < length cells → cat_around s (slice_index cells i) position ≡ Some (slice_index shown i)

-- the categories of these cells
pub record AreCentres (s : Source) (cells centres : List ℕ) : Type 0 where
  pub count : length centres ≡ length cells
  pub each : (i : ℕ) → i < length cells → cat_of s.image.cells (slice_index cells i) ≡ Some (slice_index centres i)

-- positions have one place exactly where their patterns agree at the first template positions
abbrev pub AreAlike : Source → ℕ → List ℕ → Type 0
AreAlike s depth places = (i j : ℕ) → i < many s → j < many s → (slice_index places i == slice_index places j) ≡ same_prefix s depth (cell_of s i) (cell_of s j)
