use Rattle.std.proofs.Common.{arith}
use Rattle.mp_base.specs.Grid.{Sides}
use Rattle.multigrid.proofs.Stepping.{count_fits}
use Rattle.multigrid.proofs.Loops.{plane_fits, count_is}
use Rattle.multigrid.proofs.nodes.node_count.Goals as goal

pub overflow_mul-result : goal.overflow_mul-result
overflow_mul-result c =
    let read : Sides = record { nx = c.shape.inside.nx; ny = c.shape.inside.ny; nz = c.shape.inside.nz } in
    let few = plane_fits read c.spacing-step.result c.spacing-step.ensures.some c.shape.invariant in
    rw (c.div_ceil-2.ensures, c.div_ceil-3.ensures) (omega (arith, few))

pub overflow_mul-result-2 : goal.overflow_mul-result-2
overflow_mul-result-2 c =
    let read : Sides = record { nx = c.shape.inside.nx; ny = c.shape.inside.ny; nz = c.shape.inside.nz } in
    let few = count_fits read c.spacing-step.result c.spacing-step.ensures.some c.shape.invariant in
    rw (c.div_ceil.ensures, c.div_ceil-2.ensures, c.div_ceil-3.ensures) (omega (arith, few))

pub returns : goal.returns
returns c =
    let read : Sides = record { nx = c.shape.inside.nx; ny = c.shape.inside.ny; nz = c.shape.inside.nz } in
    rw (c.div_ceil.ensures, c.div_ceil-2.ensures, c.div_ceil-3.ensures) (count_is read c.args.shape c.args.level c.spacing-step.result c.shape.view_is c.spacing-step.ensures.spacing)
