-- The cells of a point file that is accepted.
use Rattle.std.proofs.Common.{◌≡◌, subst, sym, ℕ, ℤ, pos, negsuc, Bool, true, false, cond, List, [], ◌∷◌, length, filter, find, arith, Option, Some, None, Ok, refl}
use Rattle.std.specs.Prelude.{◌≤ℤ◌, option_and_then}
use Rattle.std.specs.List.{All, range_with_len}
use Rattle.std.proofs.Math.Dec.{le→leb}
use Rattle.std.proofs.lemmas.Bool.{and_parts, false≢true, leb-true}
use Rattle.std.proofs.lemmas.List.Elements.{All-filter, All-map, All-tail}
use Rattle.std.proofs.lemmas.List.Sums.{AllPass-from_list_all}
use Rattle.mp_base.specs.Grid.{IsBelow, cells_of}
use Rattle.mp_base.specs.declared.frame.Frame.{Frame}
use Rattle.gslib_grid.proofs.Accepted.{rows_listed}
use Rattle.gslib_grid.specs.Table.{table_of}
use Rattle.gslib_grid.specs.declared.row.Row.{Row}
use Rattle.gslib_grid.specs.declared.row.Table.{Table}
use Rattle.hard_data.specs.Nearest.{first_nearest}
use Rattle.hard_data.specs.Points.{datum_of_cell, is_for, placed_of, row_of_cell}
use Rattle.hard_data.specs.declared.points.Placed.{Placed}
use Rattle.mp_params.specs.Params.{ParamsValue}
use Rattle.mp_values.specs.Values.{are_sizes, is_size}
use Rattle.mps_inputs.specs.Inputs.{codes_in, frame_of, wanted_points}

-- Frames and columns.

some_size : (z : ℤ) → is_size z ≡ true → pos 1 ≤ℤ z
some_size (pos n) is = record { le = le→leb 1 n (leb-true 1 n (and_parts _ _ is).0) }
some_size (negsuc n) is = absurd (false≢true is)

-- sizes that are accepted are at least a millionth
pub has_sizes : (sizes : List ℤ) → are_sizes sizes ≡ true → All (λ size. pos 1 ≤ℤ size) sizes
has_sizes sizes are = λ k d within. some_size _ (AllPass-from_list_all is_size sizes (and_parts _ _ are).1 k d within)

-- Categories.

-- what is found has what all items have
found_has : {X : Type 0} (P : X → Type 0) (test : X → Bool) (xs : List X) (x : X) → All P xs → find test xs ≡ Some x → P x
found_has P test [] x all is = absurd (cc is)
found_has {X} P test (y ∷ ys) x all is = either (test y) is (found_has P test ys x (All-tail P y ys all))
  where
    either : (t : Bool) → cond t (Some y) (find test ys) ≡ Some x → (find test ys ≡ Some x → P x) → P x
    either true same later = let first : y ≡ x = cc same in subst P first (all 0 x (omega arith))
    either false same later = later same

module _ (n : ℕ) (frame : Frame) (rows : List Row) (listed : All (λ row. IsBelow n row.cat) rows) where
  cat_below : (cell : ℕ) (row : Option Row) → row_of_cell frame rows cell ≡ row → IsBelow n (option_and_then (λ row. row.cat) row)
  unfolding first_nearest
  cat_below cell None is = tt
  cat_below cell (Some row) is =
      found_has (λ (r : Row). IsBelow n r.cat) _ (filter (is_for frame cell) rows) row (All-filter (is_for frame cell) (λ (r : Row). IsBelow n r.cat) rows listed) is

  datum_below : (cell : ℕ) → IsBelow n (datum_of_cell frame rows cell)
  datum_below cell = cat_below cell (row_of_cell frame rows cell) refl

  pub placed_below : All (IsBelow n) (placed_of frame rows).cells.cells
  unfolding placed_of
  placed_below = All-map (IsBelow n) (datum_of_cell frame rows) (range_with_len 0 (cells_of frame.shape)) (λ i d within. datum_below _)

pub placed_sides : (frame : Frame) (rows : List Row) → (placed_of frame rows).cells.sides ≡ frame.shape
unfolding placed_of
placed_sides frame rows = refl

-- each cell of the grid has a listed category, or none
pub points_below : (p : ParamsValue) (bytes : List ℕ) (table : Table) (points : Placed) → table_of (wanted_points p) (codes_in p) bytes ≡ Ok table → points ≡ placed_of (frame_of p) table.rows → All (IsBelow (length p.categories)) points.cells.cells
points_below p bytes table points is made =
    subst (λ (placed : Placed). All (IsBelow (length p.categories)) placed.cells.cells) (sym made)
    (placed_below (length p.categories) (frame_of p) table.rows (rows_listed (wanted_points p) (codes_in p) bytes table is))
