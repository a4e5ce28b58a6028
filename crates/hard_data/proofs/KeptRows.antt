-- What is kept for the cells, with one row more.
use Rattle.std.proofs.Common.{◌≡◌, ℕ, ◌+◌, ◌<◌, ◌≤◌, false, cond, eqb, List, [], ◌∷◌, ◌++◌, length, take, get_or, set, replicate, Option, Some, None, refl, ap, sym, ◌∙◌, arith, subst}
use Rattle.std.specs.Prelude.{slice_get, is_some, option_and_then}
use Rattle.std.specs.List.{count_by}
use Rattle.std.specs.Option.{option_map_or}
use Rattle.std.proofs.lemmas.Bool.{eq-eqb, ne_eqb}
use Rattle.std.proofs.lemmas.Option.{slice_get_past, slice_get_within, get_or_from_slice_get}
use Rattle.std.proofs.lemmas.List.{take_more}
use Rattle.std.proofs.lemmas.List.FromFn.{get_or-map-range_with_len, length-map-range_with_len}
use Rattle.std.proofs.Math.Seq.{take-length}
use Rattle.std.proofs.lemmas.List.Sums.{sum_by_push}
use Rattle.mp_base.specs.declared.frame.Frame.{Frame}
use Rattle.mp_base.specs.Grid.{cells_of}
use Rattle.gslib_grid.specs.declared.row.Row.{Row}
use Rattle.hard_data.specs.Nearest.{nearer_of}
use Rattle.hard_data.specs.Points.{cell_for, data_of, datum_of_cell, distance_to_centre, is_for, is_skipped, row_of_cell}
use Rattle.hard_data.specs.Kept.{AreKept, RowsAreKept}
use Rattle.hard_data.proofs.Places.{kept_none, kept_same, kept_set}

-- one row more
take_row : (rows : List Row) (n : ℕ) (row : Row) → slice_get rows n ≡ Some row → take (n + 1) rows ≡ take n rows ++ row ∷ []
take_row rows n row at =
    take_more rows n row (slice_get_within rows n row at) ∙ ap (λ (r : Row). take n rows ++ r ∷ []) (get_or_from_slice_get rows n row row at)

-- at the beginning no row is kept
pub no_row_kept : (frame : Frame) (rows : List Row) (numbers : List ℕ) (cells none : ℕ) → numbers ≡ replicate cells none → cells ≡ cells_of frame.shape → length rows ≤ none → RowsAreKept frame rows 0 numbers
no_row_kept frame rows numbers cells none are count far = kept_none (is_for frame) (λ _. distance_to_centre frame) (slice_get rows) (cells_of frame.shape) numbers cells none are count (slice_get_past rows none far)

module _ (frame : Frame) (rows : List Row) (n : ℕ) (row : Row) (at : slice_get rows n ≡ Some row) where
  one_more : (numbers : List ℕ) → AreKept (slice_get rows) (row_of_cell frame (take n rows ++ row ∷ [])) (cells_of frame.shape) numbers → RowsAreKept frame rows (n + 1) numbers
  one_more numbers kept = subst (λ (first : List Row). AreKept (slice_get rows) (row_of_cell frame first) (cells_of frame.shape) numbers) (sym (take_row rows n row at)) kept

  tested : (cell : Option ℕ) → cell ≡ cell_for frame row → (v : ℕ) → is_for frame v row ≡ option_map_or (λ c. eqb c v) cell false
  tested cell is v = ap (λ o. option_map_or (λ c. eqb c v) o false) (sym is)

  -- a row that is skipped changes nothing
  pub row_skipped : (numbers : List ℕ) → RowsAreKept frame rows n numbers → None ≡ cell_for frame row → RowsAreKept frame rows (n + 1) numbers
  row_skipped numbers kept skipped =
      one_more numbers
      (kept_same (is_for frame) (λ _. distance_to_centre frame) (slice_get rows) (cells_of frame.shape) (take n rows) row numbers kept (tested None skipped))

  -- another row takes its cell where it is nearer
  pub row_placed : (numbers : List ℕ) (cell new : ℕ) → RowsAreKept frame rows n numbers → cell < cells_of frame.shape → Some cell ≡ cell_for frame row → slice_get rows new ≡ Some (nearer_of (distance_to_centre frame) (slice_get rows (get_or numbers cell 0)) row) → RowsAreKept frame rows (n + 1) (set numbers cell new)
  row_placed numbers cell new kept inside is told =
      one_more (set numbers cell new)
      (kept_set (is_for frame) (λ _. distance_to_centre frame) (slice_get rows) (cells_of frame.shape) (take n rows) row numbers cell new kept inside
      (tested (Some cell) is cell ∙ eq-eqb cell cell refl)
      (λ v differ. tested (Some cell) is v ∙ ne_eqb cell v (λ e. differ (sym e)))
      told)

  -- the number of rows that are skipped
  pub skipped_more : count_by (is_skipped frame) (take (n + 1) rows) ≡ count_by (is_skipped frame) (take n rows) + cond (is_skipped frame row) 1 0
  skipped_more = ap (count_by (is_skipped frame)) (take_row rows n row at) ∙ sum_by_push (λ r. cond (is_skipped frame r) 1 0) (take n rows) row

-- after all rows the data are those of the rows that are kept
pub datum_at : (frame : Frame) (rows : List Row) (numbers : List ℕ) (cell number : ℕ) → RowsAreKept frame rows (length rows) numbers → cell < cells_of frame.shape → get_or numbers cell 0 ≡ number → option_and_then (λ row. row.cat) (slice_get rows number) ≡ get_or (data_of frame rows) cell None
datum_at frame rows numbers cell number kept inside is =
    ap (λ k. option_and_then (λ row. row.cat) (slice_get rows k)) (sym is)
    ∙ ap (option_and_then (λ row. row.cat)) (kept.each cell inside ∙ ap (λ (rs : List Row). row_of_cell frame rs cell) (take-length rows))
    ∙ sym (get_or-map-range_with_len (datum_of_cell frame rows) 0 (cells_of frame.shape) cell cell None inside (omega arith))

pub length-data_of : (frame : Frame) (rows : List Row) → length (data_of frame rows) ≡ cells_of frame.shape
length-data_of frame rows = length-map-range_with_len (datum_of_cell frame rows) 0 (cells_of frame.shape)

-- one known cell more, or one that is unknown
pub used_more : (frame : Frame) (rows : List Row) (cell : ℕ) (datum : Option ℕ) → cell < length (data_of frame rows) → datum ≡ get_or (data_of frame rows) cell None → count_by is_some (take (cell + 1) (data_of frame rows)) ≡ count_by is_some (take cell (data_of frame rows)) + cond (is_some datum) 1 0
used_more frame rows cell datum inside is =
    ap (count_by is_some) (take_more (data_of frame rows) cell None inside)
    ∙ sum_by_push (λ o. cond (is_some o) 1 0) (take cell (data_of frame rows)) (get_or (data_of frame rows) cell None)
    ∙ ap (λ o. count_by is_some (take cell (data_of frame rows)) + cond (is_some o) 1 0) (sym is)
