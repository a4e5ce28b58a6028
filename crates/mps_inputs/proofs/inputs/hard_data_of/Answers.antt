use Rattle.std.proofs.Common.{◌≡◌, ap, ◌∙◌, length}
use Rattle.std.specs.List.{All}
use Rattle.std.proofs.lemmas.Result.{IfOk-weaker}
use Rattle.mp_base.specs.Grid.{IsBelow}
use Rattle.mp_base.specs.declared.frame.Frame.{Frame}
use Rattle.hard_data.specs.Points.{placed_of}
use Rattle.hard_data.specs.declared.points.Placed.{Placed}
use Rattle.mps_inputs.proofs.Points.{placed_sides, points_below}
use Rattle.mps_inputs.proofs.inputs.hard_data_of.Goals as goal

pub returns-clause-sides : goal.returns-clause-sides
returns-clause-sides c =
    let rows = c.args.table.now.rows in
    IfOk-weaker c.points_to_cells.result (λ (points : Placed). points ≡ placed_of c.frame_of.result rows) (λ (points : Placed). points.cells.sides ≡ c.args.parameters.now.grid)
    (λ points made. ap (λ (q : Placed). q.cells.sides) made ∙ placed_sides c.frame_of.result rows ∙ ap (λ (f : Frame). f.shape) c.frame_of.ensures.frame)
    c.points_to_cells.ensures

pub returns-clause-below : goal.returns-clause-below
returns-clause-below c =
    let p = c.args.parameters.now in
    let rows = c.args.table.now.rows in
    IfOk-weaker c.points_to_cells.result (λ (points : Placed). points ≡ placed_of c.frame_of.result rows) (λ (points : Placed). All (IsBelow (length p.categories)) points.cells.cells)
    (λ points made. points_below p c.requires.0 c.args.table.now points c.requires.1 (made ∙ ap (λ (f : Frame). placed_of f rows) c.frame_of.ensures.frame))
    c.points_to_cells.ensures
