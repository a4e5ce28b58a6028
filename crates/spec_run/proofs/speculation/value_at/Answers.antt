use Rattle.std.proofs.Common.{arith, ◌≡◌, ◌∙◌, ℕ, ◌+◌, ◌-◌, ap, sym, slice_get}
use Rattle.std.specs.Prelude.{option_and_then}
use Rattle.mp_base.specs.Grid.{cell_at}
use Rattle.event_retrieve.specs.Around.{Centre, cell_from}
use Rattle.event_retrieve.specs.Plan.{Plan, cell_at_position, cell_of}
use Rattle.spec_run.specs.Found.{IsCentre}
use Rattle.spec_run.proofs.Finding.{found_later, found_shown, shown_by}
use Rattle.spec_run.proofs.speculation.value_at.Goals as goal

-- the cell at a vector is that at the position
at_position : (p : Plan) (i n : ℕ) (centre : Centre) → IsCentre p i centre → cell_at_position p i (n + 1) ≡ cell_from centre n
at_position p i n centre is =
    let same : n + 1 - 1 ≡ n = omega arith in
    ap (λ k. option_and_then (cell_at p.start.sides (cell_of p i)) (slice_get p.source.template k)) same ∙ sym (ap (λ (c : Centre). cell_from c n) is)

pub returns-then-comes_later-clause-found : goal.returns-then-comes_later-clause-found
returns-then-comes_later-clause-found g c =
    let p = c.args.plan.now in
    found_later p c.args.pass.now c.args.index (c.args.number + 1) c.length.ensures.plan c.requires.index c.in_ok-cell.cell
    (at_position p c.args.index c.args.number c.args.centre.now c.requires.centre ∙ sym c.cell_at.ensures.cell ∙ c.in_ok-cell.was)
    (sym c.comes_later.ensures ∙ c.if-comes_later.true)

pub returns-else-comes_later-clause-found : goal.returns-else-comes_later-clause-found
returns-else-comes_later-clause-found g c =
    let p = c.args.plan.now in
    found_shown p c.args.pass.now c.args.index (c.args.number + 1) c.length.ensures.plan c.requires.index c.in_ok-cell.cell
    (at_position p c.args.index c.args.number c.args.centre.now c.requires.centre ∙ sym c.cell_at.ensures.cell ∙ c.in_ok-cell.was)
    c.read-value.result (sym c.comes_later.ensures ∙ c.if-comes_later.false)
    (shown_by p _ _ c.args.pass.now c.in_ok-cell.cell c.read-value.result c.requires.plan c.requires.story c.read-value.ensures.moment)
