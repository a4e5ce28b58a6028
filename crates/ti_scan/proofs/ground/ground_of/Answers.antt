use Rattle.std.proofs.Common.{subst}
use Rattle.ti_scan.specs.Window.{IsGround, IsSpan, fits}
use Rattle.mp_base.specs.Grid.{Sides, cells_of}
use Rattle.ti_scan.proofs.Shifting.{inside_span}
use Rattle.ti_scan.proofs.ground.ground_of.Goals as goal

pub invariant_of-result : goal.invariant_of-result
invariant_of-result c =
    let margins = c.margins_of-margins.result in
    let span = subst (λ (s : Sides). IsSpan (fits margins s) (cells_of s) c.span_of.result.first c.span_of.result.cells) c.shape.ensures.sides c.span_of.ensures in
    let ground : IsGround c.args.image.now.sides c.args.vectors.now margins c.span_of.result.first c.span_of.result.cells = record {
      margins = c.margins_of-margins.ensures;
      span = inside_span margins c.args.image.now.sides c.args.vectors.now c.span_of.result.first c.span_of.result.cells c.margins_of-margins.ensures c.shape.ensures.grid.shape span;
    } in
    record { inside = ground }
