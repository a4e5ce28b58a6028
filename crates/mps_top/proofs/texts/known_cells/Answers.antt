use Rattle.std.proofs.Common.{◌≡◌, ◌<◌, ap, ◌∙◌, length, arith}
use Rattle.mp_base.specs.Grid.{cells_of}
use Rattle.mps_top.proofs.Known.{known_more, known_same}
use Rattle.mps_top.proofs.texts.known_cells.Goals as goal
use Rattle.mps_top.proofs.texts.known_cells.Goals.{then-is_some, else-is_some}

pub loop-number-preserved : goal.loop-number-preserved
loop-number-preserved c =
    let cells = c.args.image.now.cells in
    let i = c.loop-number.number in
    let sides : cells_of c.shape.result ≡ cells_of c.args.image.now.sides = ap cells_of c.shape.ensures.sides in
    let within : i < length cells = omega (arith, c.shape.ensures.grid.count, c.cells-number-end.ensures.count) in
    elim c.if-is_some.branch [
      | then-is_some w ↦ record { known = w.known-is ∙ known_more cells i c.loop-number.known within c.loop-number.invariant.known (cc); few = omega arith }
      | else-is_some w ↦ record { known = w.known-is ∙ known_same cells i c.loop-number.known within c.loop-number.invariant.known (cc); few = omega arith }
    ]
