use Rattle.std.proofs.Common.{◌≡◌, ◌<◌, ℕ, sym, ◌∙◌, ap, subst, Some}
use Rattle.mp_base.specs.Grid.{cells_of}
use Rattle.hard_data.specs.Points.{cell_for}
use Rattle.hard_data.proofs.KeptRows.{row_placed, row_skipped}
use Rattle.hard_data.proofs.points.place.Goals as goal

pub returns-in_default-clause-kept : goal.returns-in_default-clause-kept
returns-in_default-clause-kept c =
    row_skipped c.args.frame.now c.args.rows.now c.args.number c.args.row.now c.requires.row c.args.numbers.now c.requires.kept c.in_default.ensures.cell

pub returns-clause-kept : goal.returns-clause-kept
returns-clause-kept c =
    let cell = c.cell.inside.0 in
    let same : cell ≡ c.in-Some.cell = c.cell.view_is in
    let inside : cell < cells_of c.args.frame.now.shape = subst (λ (k : ℕ). k < cells_of c.args.frame.now.shape) (sym same) c.in-Some.ensures.inside in
    let is : Some cell ≡ cell_for c.args.frame.now c.args.row.now = ap Some same ∙ c.in-Some.ensures.cell in
    row_placed c.args.frame.now c.args.rows.now c.args.number c.args.row.now c.requires.row c.args.numbers.now cell c.nearer.result c.requires.kept inside is c.nearer.ensures
