use Rattle.std.proofs.Common.{◌+◌, ◌*◌, ◌<◌, [], ◌∷◌, ◌++◌, ap, subst, ◌∙◌}
use Rattle.mp_base.specs.Grid.{Sides}
use Rattle.multigrid.specs.Rows.{first_in_row}
use Rattle.multigrid.proofs.Loops.{next, row_next, x_below}
use Rattle.multigrid.proofs.nodes.push_row.Goals as goal

pub cell-requires-clause-x : goal.cell-requires-clause-x
cell-requires-clause-x c =
    let read : Sides = record { nx = c.shape.inside.nx; ny = c.shape.inside.ny; nz = c.shape.inside.nz } in
    x_below read c.args.shape c.shape.view_is c.args.step c.requires.step c.loop-i.i (subst (λ n. c.loop-i.i < n) c.div_ceil-i-end.ensures c.loop-i-test.true)

pub loop-i-preserved : goal.loop-i-preserved
loop-i-preserved c =
    let s = c.args.shape in
    let m = c.args.step in
    let r = c.args.y + s.ny * c.args.z in
    let n = c.loop-i.i in
    next c.args.nodes.now.items c.loop-i.nodes.items c.push.new.self.items (first_in_row s m r n) ((n * m + s.nx * r) ∷ []) (first_in_row s m r (n + 1))
    (c.in_ok-push.ensures.items ∙ ap (λ k. c.loop-i.nodes.items ++ k ∷ []) c.cell.ensures.number) c.loop-i.invariant (row_next s m r n)
