-- The image of a table that is accepted.
use Rattle.std.proofs.Common.{◌≡◌, subst, sym, ℕ, List, length, map, Ok}
use Rattle.std.specs.List.{All}
use Rattle.std.proofs.lemmas.List.Elements.{All-map}
use Rattle.mp_base.specs.Grid.{Field, IsBelow, field}
use Rattle.gslib_grid.proofs.Accepted.{rows_listed}
use Rattle.gslib_grid.specs.Table.{table_of}
use Rattle.gslib_grid.specs.declared.row.Row.{Row}
use Rattle.gslib_grid.specs.declared.row.Table.{Table}
use Rattle.mp_params.specs.Params.{ParamsValue}
use Rattle.mps_inputs.specs.Inputs.{codes_in, wanted_image}

-- each cell has a listed category, or none
pub image_below : (p : ParamsValue) (bytes : List ℕ) (table : Table) (image : Field) → table_of (wanted_image p) (codes_in p) bytes ≡ Ok table → image ≡ field p.image_shape (map (λ row. row.cat) table.rows) → All (IsBelow (length p.categories)) image.cells
image_below p bytes table image is made =
    subst (λ (g : Field). All (IsBelow (length p.categories)) g.cells) (sym made)
    (All-map (IsBelow (length p.categories)) (λ (row : Row). row.cat) table.rows (rows_listed (wanted_image p) (codes_in p) bytes table is))
