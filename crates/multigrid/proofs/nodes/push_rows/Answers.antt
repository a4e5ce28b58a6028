use Rattle.std.proofs.Common.{◌+◌, ◌*◌, ◌<◌, subst}
use Rattle.std.specs.Int.{div_ceil}
use Rattle.mp_base.specs.Grid.{Sides}
use Rattle.multigrid.specs.Rows.{first_in_row, first_rows, nodes_of_rows}
use Rattle.multigrid.proofs.Loops.{next, rows_next, y_below}
use Rattle.multigrid.proofs.nodes.push_rows.Goals as goal

pub push_row-requires-clause-y : goal.push_row-requires-clause-y
push_row-requires-clause-y c =
    let read : Sides = record { nx = c.shape.inside.nx; ny = c.shape.inside.ny; nz = c.shape.inside.nz } in
    y_below read c.args.shape c.shape.view_is c.args.step c.requires.step c.loop-i.i (subst (λ n. c.loop-i.i < n) c.div_ceil-i-end.ensures c.loop-i-test.true)

pub loop-i-preserved : goal.loop-i-preserved
loop-i-preserved c =
    let s = c.args.shape in
    let m = c.args.step in
    let z = c.args.z in
    let n = c.loop-i.i in
    next c.args.nodes.now.items c.loop-i.nodes.items c.push_row.new.nodes.items (nodes_of_rows s m (first_rows s m z n)) (first_in_row s m (n * m + s.ny * z) (div_ceil s.nx m)) (nodes_of_rows s m (first_rows s m z (n + 1)))
    c.in_ok-push_row.ensures c.loop-i.invariant (rows_next s m z n)
