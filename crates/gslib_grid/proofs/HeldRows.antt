-- Rows by how they are held: which one stands where, and one row more.
use Rattle.std.proofs.Common.{◌≡◌, ℕ, ℤ, false, ◌||◌, refl, Option, ◌+◌, ◌-◌, ◌^◌, ◌<◌, ◌≤◌, List, [], ◌∷◌, ◌++◌, length, map, get_or, Some, None, ap, sym, ◌∙◌, subst, arith, append_assoc, length-append}
use Rattle.std.specs.Prelude.{slice_get, option_and_then, is_some}
use Rattle.std.proofs.lemmas.Bool.{false≢true}
use Rattle.std.proofs.lemmas.List.{append-nil, length-map, length_push, map-append, get_or-map, get_or_append_left, get_or-append_right}
use Rattle.std.proofs.lemmas.List.Elements.{All-push}
use Rattle.std.proofs.lemmas.Option.{slice_get_past, slice_get_read, slice_get_within, slice_get-get_or, get_or_from_slice_get}
use Rattle.mp_base.specs.Grid.{IsBelow}
use Rattle.gslib_grid.specs.declared.row.Row.{Row}
use Rattle.gslib_grid.specs.declared.held.BareRow.{BareRow}
use Rattle.gslib_grid.specs.declared.held.PointRow.{PointRow}
use Rattle.gslib_grid.specs.Held.{bare_row, has_coordinate, point_row, rows_held}
use Rattle.gslib_grid.specs.Rows.{AreRows}

-- a row that is there has a category at most 7, or none
pub row_below : (rows : List Row) (number : ℕ) (row : Row) → AreRows rows → slice_get rows number ≡ Some row → IsBelow 8 row.cat
row_below rows number row are at =
    subst (λ (r : Row). IsBelow 8 r.cat) (get_or_from_slice_get rows number row row at) (are.cats number row (slice_get_within rows number row at))

-- the categories of the rows, one by one
pub category_at : (rows : List Row) (number : ℕ) → number < length rows → option_and_then (λ row. row.cat) (slice_get rows number) ≡ get_or (map (λ row. row.cat) rows) number None
category_at rows number inside =
    let other : Row = record { line = 0; x = None; y = None; z = None; cat = None } in
    ap (option_and_then (λ row. row.cat)) (slice_get-get_or rows number other inside) ∙ sym (get_or-map (λ (row : Row). row.cat) rows number other None inside)

-- one row more
pub rows_push : (rows : List Row) (row : Row) → AreRows rows → length rows < 2 ^ 28 → IsBelow 8 row.cat → AreRows (rows ++ row ∷ [])
rows_push rows row are few below = record { few = omega (arith, length_push rows row); cats = All-push (λ (r : Row). IsBelow 8 r.cat) rows row are.cats below }

-- a row without coordinates, by what is held of it
bare_parts : (line : ℕ) (x y z : Option ℤ) (cat : Option ℕ) → (is_some x || is_some y || is_some z) ≡ false → bare_row (record { line = line; cat = cat }) ≡ record { line = line; x = x; y = y; z = z; cat = cat }
bare_parts line None None None cat none = refl
bare_parts line None None (Some z) cat none = absurd (false≢true (sym none))
bare_parts line None (Some y) z cat none = absurd (false≢true (sym none))
bare_parts line (Some x) y z cat none = absurd (false≢true (sym none))

pub bare_of : (row : Row) → has_coordinate row ≡ false → bare_row (record { line = row.line; cat = row.cat }) ≡ row
bare_of row none = bare_parts row.line row.x row.y row.z row.cat none

module _ (bare : List BareRow) (points : List PointRow) where
  length-held : length (rows_held bare points) ≡ length bare + length points
  length-held = length-append (map bare_row bare) (map point_row points) ∙ (λ i. length-map bare bare_row i + length-map points point_row i)

  -- a row before the first with a coordinate
  pub bare_at : (number : ℕ) (held : BareRow) → number < length bare → held ≡ get_or bare number held → slice_get (rows_held bare points) number ≡ Some (bare_row held)
  bare_at number held inside is =
      let first : number < length (map bare_row bare) = omega (arith, length-map bare bare_row) in
      slice_get_read (rows_held bare points) (length bare + length points) number (bare_row held) (sym length-held) (omega arith)
      (sym (get_or_append_left (map bare_row bare) (map point_row points) (bare_row held) number first ∙ get_or-map bare_row bare number held (bare_row held) inside ∙ ap bare_row (sym is)))

  -- one of the others
  pub point_at : (number : ℕ) (held : PointRow) → length bare ≤ number → number - length bare < length points → held ≡ get_or points (number - length bare) held → slice_get (rows_held bare points) number ≡ Some (point_row held)
  point_at number held behind inside is =
      slice_get_read (rows_held bare points) (length bare + length points) number (point_row held) (sym length-held) (omega arith)
      (sym (get_or-append_right (map bare_row bare) (map point_row points) (length bare) number (point_row held) (length-map bare bare_row) behind ∙ get_or-map point_row points (number - length bare) held (point_row held) inside ∙ ap point_row (sym is)))

  -- a number of no row
  pub none_at : (number : ℕ) → length bare ≤ number → length points ≤ number - length bare → slice_get (rows_held bare points) number ≡ None
  none_at number behind past = slice_get_past (rows_held bare points) number (omega (arith, length-held))

  -- one row more, while no row has coordinates
  pub bare_push : (held : BareRow) (row : Row) → length points ≡ 0 → bare_row held ≡ row → rows_held (bare ++ held ∷ []) points ≡ rows_held bare points ++ row ∷ []
  bare_push held row none is = go points none
    where
      go : (points : List PointRow) → length points ≡ 0 → rows_held (bare ++ held ∷ []) points ≡ rows_held bare points ++ row ∷ []
      go [] none =
          append-nil (map bare_row (bare ++ held ∷ [])) ∙ map-append bare_row bare (held ∷ []) ∙ (λ i. sym (append-nil (map bare_row bare)) i ++ is i ∷ [])
      go (p ∷ ps) none = absurd (omega arith)

  -- one row more, with its coordinates
  pub point_push : (held : PointRow) (row : Row) → point_row held ≡ row → rows_held bare (points ++ held ∷ []) ≡ rows_held bare points ++ row ∷ []
  point_push held row is =
      ap (λ (rs : List Row). map bare_row bare ++ rs) (map-append point_row points (held ∷ []) ∙ ap (λ (r : Row). map point_row points ++ r ∷ []) is)
      ∙ sym (append_assoc (map bare_row bare) (map point_row points) (row ∷ []))
