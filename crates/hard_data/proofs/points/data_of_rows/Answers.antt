use Rattle.std.proofs.Common.{arith, add-zero, ◌≡◌, ◌<◌, ◌+◌, ◌++◌, ◌∷◌, [], cond, is_some, length, take, get_or, None, refl, sym, ap, ◌∙◌}
use Rattle.std.specs.List.{count_by}
use Rattle.std.proofs.lemmas.List.{take_more, take_more_set, take_all, length-set}
use Rattle.mp_base.specs.Grid.{Field, cells_of, field}
use Rattle.hard_data.specs.Points.{data_of}
use Rattle.hard_data.proofs.KeptRows.{datum_at, length-data_of, used_more}
use Rattle.hard_data.proofs.points.data_of_rows.Goals as goal
use Rattle.hard_data.proofs.points.data_of_rows.Goals.{then-is_some, else-is_some}

pub loop-cell-preserved : goal.loop-cell-preserved
loop-cell-preserved c =
    let all_data = data_of c.args.frame.now c.args.rows.now in
    let cells = c.loop-cell.grid.cells in
    let n = c.loop-cell.cell in
    let datum = c.category-datum.result in
    let given = c.loop-cell.invariant in
    let inside : n < cells_of c.args.frame.now.shape = omega (arith, c.requires.count) in
    let in_data : n < length all_data = omega (arith, length-data_of c.args.frame.now c.args.rows.now) in
    let in_cells : n < length cells = omega (arith, given.count) in
    let value : datum ≡ get_or all_data n None = c.category-datum.ensures.category ∙ datum_at c.args.frame.now c.args.rows.now c.args.numbers.now n _ c.requires inside refl in
    let counted = used_more c.args.frame.now c.args.rows.now n datum in_data value in
    let used_is : c.if-is_some.used ≡ c.loop-cell.used + cond (is_some datum) 1 0 =
    elim c.if-is_some.branch [
      | then-is_some w ↦ w.used-is ∙ ap (λ b. c.loop-cell.used + cond b 1 0) (sym w.if-is_some.true ∙ c.is_some.ensures)
      | else-is_some w ↦ w.used-is ∙ sym (add-zero c.loop-cell.used) ∙ ap (λ b. c.loop-cell.used + cond b 1 0) (sym w.if-is_some.false ∙ c.is_some.ensures)
    ] in
    record {
      sides = ap (λ (g : Field). g.sides) c.set.ensures ∙ given.sides;
      count = ap (λ (g : Field). length g.cells) c.set.ensures ∙ length-set cells n datum ∙ given.count;
      front =
          ap (λ (g : Field). take (n + 1) g.cells) c.set.ensures
          ∙ take_more_set cells n datum in_cells
          ∙ (λ i. given.front i ++ value i ∷ [])
          ∙ sym (take_more all_data n None in_data);
      used = used_is ∙ ap (λ k. k + cond (is_some datum) 1 0) given.used ∙ sym counted;
    }

pub returns-clause-cells : goal.returns-clause-cells
returns-clause-cells c =
    let all_data = data_of c.args.frame.now c.args.rows.now in
    let given = c.loop-cell.invariant in
    let all : take c.loop-cell.cell all_data ≡ all_data = take_all c.loop-cell.cell all_data (omega (arith, c.requires.count, length-data_of c.args.frame.now c.args.rows.now)) in
    let cells : c.loop-cell.grid.cells ≡ all_data = sym (take_all c.loop-cell.cell c.loop-cell.grid.cells (omega (arith, c.requires.count, given.count))) ∙ given.front ∙ all in
    λ i. field (given.sides i) (cells i)

pub returns-clause-used : goal.returns-clause-used
returns-clause-used c =
    let all_data = data_of c.args.frame.now c.args.rows.now in
    c.loop-cell.invariant.used ∙ ap (count_by is_some) (take_all c.loop-cell.cell all_data (omega (arith, c.requires.count, length-data_of c.args.frame.now c.args.rows.now)))
