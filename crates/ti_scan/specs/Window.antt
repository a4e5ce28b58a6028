-- The part of an image around whose cells a template is inside.
use Rattle.std.specs.Prelude.{◌≡◌, ℕ, ◌+◌, ◌++◌, ◌<◌, ◌≤◌, ℤ, Bool, true, ◌&&◌, nat_le, nat_lt, is_some, List, length, map, filter, slice_index, Option, None, if◌then◌else◌}
use Rattle.std.specs.List.{list_all, range_with_len, count_by}
use Rattle.mp_base.specs.declared.cell.Vector.{Vector}
use Rattle.mp_base.specs.Grid.{Field, Sides, cells_of, cat_of, cell_at, category_of, cat_at, moved, x_of, y_of, z_of}
use Rattle.ti_scan.specs.declared.margins.Margin.{Margin}
use Rattle.ti_scan.specs.declared.margins.Margins.{Margins}
use Rattle.mp_base.specs.Counts.{is_cat}
use Rattle.ti_scan.specs.declared.event.Datum.{Datum}
use Rattle.ti_scan.specs.Eroded.{is_eroded}
use Rattle.ti_scan.specs.Event.{Source, IsEroded, cat_around, shows}
use Rattle.ti_scan.specs.Marks.{mark, marked}

-- each cell of the template is inside
abbrev pub is_inside : Sides → List Vector → ℕ → Bool
is_inside sides template c = list_all (λ v. is_some (cell_at sides c v)) template

-- there are as many cells before and after coordinate x, on an axis of n cells
abbrev pub has_room : Margin → ℕ → ℕ → Bool
has_room m n x = nat_le m.before x && nat_lt (x + m.after) n

-- there is room on each axis
unfoldable pub fits : Margins → Sides → ℕ → Bool
fits m s c = has_room m.x s.nx (x_of s c) && (has_room m.y s.ny (y_of s c) && has_room m.z s.nz (z_of s c))

-- on each axis there is room around the first coordinate that has as many cells before it
abbrev pub fits_somewhere : Margins → Sides → Bool
fits_somewhere m s = has_room m.x s.nx m.x.before && (has_room m.y s.ny m.y.before && has_room m.z s.nz m.z.before)

-- the margin is what these offsets need: there is room for all of them exactly where there is room for it
abbrev pub Covers : Margin → (Vector → ℤ) → List Vector → Type 0
Covers m offset template = (n x : ℕ) → x < n → list_all (λ v. is_some (moved n x (offset v))) template ≡ has_room m n x

pub record AreMargins (m : Margins) (template : List Vector) : Type 0 where
  pub x : Covers m.x (λ v. v.dx) template
  pub y : Covers m.y (λ v. v.dy) template
  pub z : Covers m.z (λ v. v.dz) template

-- cells one after another, of n: where there are some, they go from the first to the last that is inside
pub record IsSpan (inside : ℕ → Bool) (n first cells : ℕ) : Type 0 where
  pub within : first + cells ≤ n
  pub begins : 0 < cells → inside first ≡ true
  pub ends : (last : ℕ) → last + 1 ≡ first + cells → 0 < cells → inside last ≡ true
  pub whole : (c : ℕ) → c < n → inside c ≡ true → (first ≤ c) × (c < first + cells)

-- the category of a cell that is an eroded position
abbrev pub centre_in : Field → List Vector → ℕ → Option ℕ
centre_in image template c = if is_eroded image template c then cat_of image.cells c else None

-- of the n cells from here on: the eroded positions, and for each cell the category at its centre
abbrev pub eroded_among : Field → List Vector → ℕ → ℕ → List ℕ
eroded_among image template from n = filter (is_eroded image template) (range_with_len from n)

abbrev pub centres_among : Field → List Vector → ℕ → ℕ → List (Option ℕ)
centres_among image template from n = map (centre_in image template) (range_with_len from n)

-- to a list were added the eroded positions among the n cells from here on
abbrev pub AddsEroded : Field → List Vector → ℕ → ℕ → List ℕ → List ℕ → Type 0
AddsEroded image template from n before after = after ≡ before ++ eroded_among image template from n

-- to a list of bytes were added those of the categories at their centres
abbrev pub AddsCentres : Field → List Vector → ℕ → ℕ → List ℕ → List ℕ → Type 0
AddsCentres image template from n before after = map category_of after ≡ map category_of before ++ centres_among image template from n

-- the bytes of a span of cells: an eroded position has its category, and no other cell has one
pub record AreCentres (s : Source) (first : ℕ) (bytes : List ℕ) : Type 0 where
  pub span : IsSpan (is_inside s.image.sides s.template) (cells_of s.image.sides) first (length bytes)
  pub are : map category_of bytes ≡ map (centre_in s.image s.template) (range_with_len first (length bytes))

-- what an `Eroded` keeps
pub record IsScanned (s : Source) (positions : List ℕ) (first : ℕ) (centres : List ℕ) : Type 0 where
  pub eroded : IsEroded s positions
  pub centres_are : AreCentres s first centres

-- what erosion looks at: the margins of a template, and the cells around which it is inside
pub record IsGround (s : Sides) (template : List Vector) (m : Margins) (first cells : ℕ) : Type 0 where
  pub margins : AreMargins m template
  pub span : IsSpan (is_inside s template) (cells_of s) first cells

-- the bytes at a vector from each of the cells from here on, as far as the vector stays inside
pub record AreAt (image : Field) (v : Vector) (from : ℕ) (count : ℕ) (bytes : List ℕ) : Type 0 where
  pub count_is : length bytes ≡ count
  pub each : (i : ℕ) → i < count → is_some (cell_at image.sides (from + i) v) ≡ true → category_of (slice_index bytes i) ≡ cat_at image (from + i) v

-- the bytes of the cells from here on
pub record AreOwn (image : Field) (from : ℕ) (count : ℕ) (bytes : List ℕ) : Type 0 where
  pub count_is : length bytes ≡ count
  pub each : (i : ℕ) → i < count → category_of (slice_index bytes i) ≡ cat_of image.cells (from + i)

-- cell number i from here on
abbrev pub inside_from : Sides → List Vector → ℕ → ℕ → Bool
inside_from s template from i = is_inside s template (from + i)

abbrev pub eroded_from : Field → List Vector → ℕ → ℕ → Bool
eroded_from image template from i = is_eroded image template (from + i)

-- of the cells from here on around which `around` is inside, those keep their marks that are eroded under the template
pub record KeepsEroded (image : Field) (around template : List Vector) (from : ℕ) (before after : List Bool) : Type 0 where
  pub count : length after ≡ length before
  pub each : (i : ℕ) → i < length before → inside_from image.sides around from i ≡ true → mark after i ≡ (mark before i && eroded_from image template from i)

-- the bytes at a position of the template around each of the cells from here on, where these are eroded positions
pub record AreAround (s : Source) (position from count : ℕ) (bytes : List ℕ) : Type 0 where
  pub count_is : length bytes ≡ count
  pub each : (i : ℕ) → i < count → eroded_from s.image s.template from i ≡ true → category_of (slice_index bytes i) ≡ cat_around s (from + i) position
  pub known : (i : ℕ) → i < count → eroded_from s.image s.template from i ≡ true → is_some (cat_around s (from + i) position) ≡ true

-- of the eroded positions among the cells from here on, those keep their marks that show each datum
pub record KeepsShown (s : Source) (event : List Datum) (from : ℕ) (before after : List Bool) : Type 0 where
  pub count : length after ≡ length before
  pub each : (i : ℕ) → i < length before → eroded_from s.image s.template from i ≡ true → mark after i ≡ (mark before i && list_all (shows s (from + i)) event)

-- the cell is an eroded position of category k that shows each datum
abbrev pub is_found : Source → List Datum → ℕ → ℕ → Bool
is_found s event k c = is_cat (centre_in s.image s.template c) k && list_all (shows s c) event

-- how many of the cells from here on are
unfoldable pub found_in : Source → List Datum → ℕ → ℕ → ℕ → ℕ
found_in s event k from len = count_by (is_found s event k) (range_with_len from len)

-- to the number of each category were added those that are found
pub record AddsFound (s : Source) (event : List Datum) (from len : ℕ) (before after : List ℕ) : Type 0 where
  pub count : length after ≡ length before
  pub each : (k : ℕ) → k < s.cats → slice_index after k ≡ slice_index before k + found_in s event k from len

-- to the number of each category below cats were added the marked items of that category
pub record AddsMarked (marks : List Bool) (bytes : List ℕ) (cats : ℕ) (before after : List ℕ) : Type 0 where
  pub count : length after ≡ length before
  pub each : (k : ℕ) → k < cats → slice_index after k ≡ slice_index before k + marked marks bytes k (length marks)
