use Rattle.std.proofs.Common.{arith, ◌≡◌, sym, ◌∙◌, Some, ap}
use Rattle.event_retrieve.specs.Plan.{cell_of}
use Rattle.event_retrieve.specs.Offer.{missed_at}
use Rattle.event_retrieve.proofs.Fresh.{fresh_retained}
use Rattle.event_retrieve.proofs.Stale.{missed, stale_by_is_none, stale_by_is_some, stale_by_some}
use Rattle.event_retrieve.proofs.offer.Offer.stale_by.Goals as goal

pub returns-in-Some-clause-missed : goal.returns-in-Some-clause-missed
returns-in-Some-clause-missed c =
    let p = c.args.plan.now in
    let o = c.args.self.now in
    let at : missed_at p o (cell_of p c.loop-entry.entry) ≡ Some c.in-Some.position = ap (missed_at p o) (sym c.cell_of.ensures) ∙ sym c.missed_at.ensures ∙ c.in-Some.is in
    sym (stale_by_is_some p o c.loop-entry.entry c.in-Some.position c.loop-entry.invariant c.loop-entry.auto.entry c.loop-entry-test.true at)

pub returns-in-Some-clause-first : goal.returns-in-Some-clause-first
returns-in-Some-clause-first c =
    stale_by_some c.args.plan.now c.args.self.now (missed c.loop-entry.entry c.in-Some.position) (sym (returns-in-Some-clause-missed c)) c.requires.sound.before

pub returns-clause-missed : goal.returns-clause-missed
returns-clause-missed c = sym (stale_by_is_none c.args.plan.now c.args.self.now c.loop-entry.entry c.loop-entry-test.false c.loop-entry.invariant)

pub returns-clause-fresh : goal.returns-clause-fresh
returns-clause-fresh c = λ _. fresh_retained c.args.plan.now c.length.ensures.plan.path c.args.self.now c.requires.sound (sym (returns-clause-missed c)) c.length.ensures.plan.max_some

pub missed_at-requires-clause-cell : goal.missed_at-requires-clause-cell
missed_at-requires-clause-cell c =
    let plan = c.length.ensures.plan in
    let sound = c.requires.sound in
    omega (arith, c.cell_of.ensures, plan.path.inside c.loop-entry.entry (omega (arith, c.loop-entry-test.true, sound.in_path)), plan.start.count)
