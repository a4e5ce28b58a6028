use Rattle.std.proofs.Common.{◌≡◌, ◌++◌, ◌<◌, ◌≤◌, ◌∙◌, ap, subst, arith, length, take, rules, ℕ, List}
use Rattle.std.specs.Prelude.{slice_range}
use Rattle.mp_base.specs.Grid.{cells_of}
use Rattle.realisation_out.specs.Text.{rows_text, cell_line}
use Rattle.realisation_out.proofs.RowsLemmas.{rows_text_more, front_stays}
use Rattle.realisation_out.proofs.rows.push_cells.Goals as goal

pub loop-number-preserved : goal.loop-number-preserved
loop-number-preserved c =
    let cells = c.args.grid.now.cells in
    let categories = c.args.codes.now.categories in
    let n = c.loop-number.number in
    let before = c.args.to.now.items in
    let start = c.args.from in
    let order : start ≤ n = omega arith in
    let within : n < length cells = omega (arith, c.loop-number-test.true, c.cells.ensures.count, ap cells_of c.shape.ensures.sides, c.shape.ensures.grid.count) in
    c.in_ok-push_cell.ensures.text ∙ ap (λ (now : List ℕ). now ++ cell_line categories c.get.result) c.loop-number.invariant
    ∙ ap (λ value. (before ++ rows_text categories (slice_range cells start n)) ++ cell_line categories value) c.get.ensures.value
    ∙ rows_text_more categories cells start n before order within

pub returns-in_err-push_cell-clause-err : goal.returns-in_err-push_cell-clause-err
returns-in_err-push_cell-clause-err c =
    let before = c.args.to.now.items in
    let rows = rows_text c.args.codes.now.categories (slice_range c.args.grid.now.cells c.args.from c.loop-number.number) in
    let kept : take (length before) c.push_cell.new.to.items ≡ before =
    front_stays before rows c.push_cell.new.to.items (subst (λ (now : List ℕ). take (length now) c.push_cell.new.to.items ≡ now) c.loop-number.invariant c.in_err-push_cell.ensures.err) in
    search rules
