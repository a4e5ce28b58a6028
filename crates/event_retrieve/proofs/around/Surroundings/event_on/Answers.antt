use Rattle.std.proofs.Common.{◌≡◌, ◌<◌, ◌∙◌, ap, sym, subst, true}
use Rattle.mp_base.specs.Grid.{Sides, IsShape, cells_of}
use Rattle.ti_scan.specs.Window.{fits}
use Rattle.ti_scan.proofs.Shifting.{inside-fits}
use Rattle.event_retrieve.specs.Around.{Around}
use Rattle.event_retrieve.proofs.around.Surroundings.event_on.Goals as goal

pub event_within-requires-clause-inside : goal.event_within-requires-clause-inside
event_within-requires-clause-inside c =
    let ground = c.self.inside.ground in
    let s = ground.image.now.sides in
    let same : c.args.grid.now.sides ≡ s = c.requires.sides ∙ sym (ap (λ (a : Around). a.sides) c.self.view_is) in
    let shape : IsShape s = subst IsShape same c.shape.ensures.grid.shape in
    let below : c.args.cell < cells_of s = subst (λ (t : Sides). c.args.cell < cells_of t) same c.requires.cell in
    let fit : fits ground.margins s c.args.cell ≡ true =
    ap (λ (t : Sides). fits ground.margins t c.args.cell) (sym (c.shape.ensures.sides ∙ same)) ∙ sym c.is_within.ensures ∙ c.if-is_within.true in
    inside-fits ground.margins s ground.vectors.now c.args.cell ground.inside.margins shape below ∙ fit
