use Rattle.std.proofs.Common.{◌≡◌, ap, sym, ◌∙◌, length, map}
use Rattle.std.specs.List.{All}
use Rattle.std.proofs.lemmas.Result.{IfOk-weaker}
use Rattle.mp_base.specs.Grid.{Field, IsBelow, cells_of, field}
use Rattle.gslib_grid.proofs.Accepted.{rows_of_image}
use Rattle.gslib_grid.specs.declared.row.Row.{Row}
use Rattle.mp_params.specs.Params.{ParamsValue}
use Rattle.mps_inputs.specs.Inputs.{codes_in}
use Rattle.mps_inputs.proofs.Images.{image_below}
use Rattle.mps_inputs.proofs.inputs.image_of.Goals as goal

pub image_from_table-requires : goal.image_from_table-requires
image_from_table-requires c =
    let p = c.args.parameters.now in
    rows_of_image (codes_in p) p.image_column (cells_of p.image_shape) c.requires.0 c.args.table.now c.requires.1
    ∙ ap (λ (q : ParamsValue). cells_of q.image_shape) (sym c.parameters.view_is)

pub returns-clause-below : goal.returns-clause-below
returns-clause-below c =
    let p = c.args.parameters.now in
    let rows = c.args.table.now.rows in
    IfOk-weaker c.image_from_table.result (λ (image : Field). image ≡ field c.parameters.inside.image_shape (map (λ (row : Row). row.cat) rows))
    (λ (image : Field). All (IsBelow (length p.categories)) image.cells)
    (λ image made. image_below p c.requires.0 c.args.table.now image c.requires.1 (made ∙ ap (λ (q : ParamsValue). field q.image_shape (map (λ (row : Row). row.cat) rows)) c.parameters.view_is))
    c.image_from_table.ensures
