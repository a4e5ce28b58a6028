use Rattle.std.proofs.Common.{◌∙◌, sym, ap, ◌&&◌}
use Rattle.mp_base.specs.Grid.{Sides}
use Rattle.ti_scan.specs.Window.{fits, is_inside}
use Rattle.ti_scan.proofs.Shifting.{inside-fits}
use Rattle.ti_scan.proofs.erosion.stays.Goals as goal

pub returns-then-mark : goal.returns-then-mark
returns-then-mark c =
    let sides = c.args.ground.now.image.now.sides in
    let is = inside-fits c.args.ground.now.margins sides c.args.ground.now.vectors.now c.args.cell c.args.ground.now.inside.margins c.requires.sides c.requires.cell in
    c.is_within.ensures ∙ ap (λ (s : Sides). fits c.args.ground.now.margins s c.args.cell) c.requires.shape ∙ sym is ∙ ap (λ b. b && is_inside sides c.args.ground.now.vectors.now c.args.cell) (sym c.if-mark.true)
