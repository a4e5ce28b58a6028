use Rattle.std.proofs.Common.{arith, ◌≡◌, ◌<◌, ap, sym, ◌∙◌, length, map, take, get_or, None, ◌+◌, ◌++◌, ◌∷◌, []}
use Rattle.std.proofs.lemmas.List.{take_more, take_more_set, length-set, length-map}
use Rattle.mp_base.specs.Grid.{Field}
use Rattle.gslib_grid.specs.declared.row.Row.{Row}
use Rattle.gslib_grid.proofs.HeldRows.{category_at}
use Rattle.gslib_grid.proofs.image.image_from_table.Goals as goal

pub loop-number-preserved : goal.loop-number-preserved
loop-number-preserved c =
    let rows = c.args.table.now.rows in
    let cells = c.loop-number.grid.cells in
    let n = c.loop-number.number in
    let cat = c.category.result in
    let cats = map (λ (r : Row). r.cat) rows in
    let given = c.loop-number.invariant in
    let in_rows : n < length rows = omega arith in
    let in_cells : n < length cells = omega (arith, given.count, c.requires) in
    let in_cats : n < length cats = simp length-map in_rows in
    let value : cat ≡ get_or cats n None = c.category.ensures.category ∙ category_at rows n in_rows in
    record {
      sides = ap (λ (g : Field). g.sides) c.set.ensures ∙ given.sides;
      count = ap (λ (g : Field). length g.cells) c.set.ensures ∙ length-set cells n cat ∙ given.count;
      front =
          ap (λ (g : Field). take (n + 1) g.cells) c.set.ensures
          ∙ take_more_set cells n cat in_cells
          ∙ (λ i. given.front i ++ value i ∷ [])
          ∙ sym (take_more cats n None in_cats);
    }
