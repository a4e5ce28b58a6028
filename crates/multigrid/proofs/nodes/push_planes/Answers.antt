use Rattle.std.proofs.Common.{◌+◌, ◌*◌, ◌<◌, subst}
use Rattle.std.specs.Int.{div_ceil}
use Rattle.mp_base.specs.Grid.{Sides}
use Rattle.multigrid.specs.Rows.{first_rows, rows_of_planes, nodes_of_rows}
use Rattle.multigrid.proofs.Loops.{next, planes_next, z_below}
use Rattle.multigrid.proofs.nodes.push_planes.Goals as goal

pub push_rows-requires-clause-z : goal.push_rows-requires-clause-z
push_rows-requires-clause-z c =
    let read : Sides = record { nx = c.shape.inside.nx; ny = c.shape.inside.ny; nz = c.shape.inside.nz } in
    z_below read c.args.shape c.shape.view_is c.args.step c.requires c.loop-i.i (subst (λ n. c.loop-i.i < n) c.div_ceil-i-end.ensures c.loop-i-test.true)

pub loop-i-preserved : goal.loop-i-preserved
loop-i-preserved c =
    let s = c.args.shape in
    let m = c.args.step in
    let n = c.loop-i.i in
    next c.args.nodes.now.items c.loop-i.nodes.items c.push_rows.new.nodes.items (nodes_of_rows s m (rows_of_planes s m n)) (nodes_of_rows s m (first_rows s m (n * m) (div_ceil s.ny m))) (nodes_of_rows s m (rows_of_planes s m (n + 1)))
    c.in_ok-push_rows.ensures c.loop-i.invariant (planes_next s m n)
