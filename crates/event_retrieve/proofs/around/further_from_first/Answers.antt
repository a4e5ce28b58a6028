use Rattle.std.proofs.Common.{arith, ◌≡◌, ◌<◌, ◌∙◌, ℕ, ◌-◌, Bool, List, ap, sym, subst, true}
use Rattle.mp_base.specs.declared.cell.Vector.{Vector}
use Rattle.mp_base.specs.Grid.{Sides, IsShape, cells_of}
use Rattle.ti_scan.specs.declared.margins.Margins.{Margins}
use Rattle.ti_scan.specs.Window.{AreMargins, fits, is_inside}
use Rattle.ti_scan.proofs.Shifting.{inside-fits}
use Rattle.event_retrieve.specs.Around.{AreFrom, moved_on}
use Rattle.event_retrieve.proofs.AroundLemmas.{from_further}
use Rattle.event_retrieve.proofs.around.further_from_first.Goals as goal

-- what `is_within` says
room : (m : Margins) (s same : Sides) (template : List Vector) (c : ℕ) (within : Bool) → AreMargins m template → IsShape s → c < cells_of s → same ≡ s → within ≡ fits m same c → within ≡ is_inside s template c
room m s same template c within margins shape below is_same is = is ∙ ap (λ (t : Sides). fits m t c) is_same ∙ sym (inside-fits m s template c margins shape below)

pub overflow_sub-result : goal.overflow_sub-result
overflow_sub-result c =
    let g = c.args.ground.now in
    let at = room g.margins g.image.now.sides c.shape.result g.vectors.now c.args.cell c.is_within.result g.inside.margins c.shape.ensures.grid.shape c.requires.cell c.shape.ensures.sides c.is_within.ensures in
    let inside : is_inside g.image.now.sides g.vectors.now c.args.cell ≡ true = sym at ∙ c.if-is_within.true in
    let cell_is : c.cell.inside.0 ≡ c.args.cell = c.cell.view_is in
    omega (arith, (g.inside.span.whole c.args.cell c.requires.cell inside).0, cell_is)

pub returns-then-is_within-clause-room : goal.returns-then-is_within-clause-room
returns-then-is_within-clause-room c =
    let g = c.args.ground.now in
    sym c.if-is_within.true
    ∙ room g.margins g.image.now.sides c.shape.result g.vectors.now c.args.cell c.is_within.result g.inside.margins c.shape.ensures.grid.shape c.requires.cell c.shape.ensures.sides c.is_within.ensures

pub returns-else-is_within-clause-room : goal.returns-else-is_within-clause-room
returns-else-is_within-clause-room c =
    let g = c.args.ground.now in
    sym c.if-is_within.false
    ∙ room g.margins g.image.now.sides c.shape.result g.vectors.now c.args.cell c.is_within.result g.inside.margins c.shape.ensures.grid.shape c.requires.cell c.shape.ensures.sides c.is_within.ensures

pub returns-then-is_within-clause-further : goal.returns-then-is_within-clause-further
returns-then-is_within-clause-further c =
    let g = c.args.ground.now in
    let s = g.image.now.sides in
    let cell_is : c.args.cell ≡ c.cell.inside.0 = sym c.cell.view_is in
    let from = from_further s g.vectors.now g.span.first g.span.cells c.args.cells.now c.args.cell c.shape.ensures.grid.shape g.inside.span c.requires.cells c.requires.cell (sym (returns-then-is_within-clause-room c)) in
    subst (λ (k : ℕ). AreFrom s g.vectors.now c.args.cell (moved_on (k - g.span.first) c.args.cells.now)) cell_is from
