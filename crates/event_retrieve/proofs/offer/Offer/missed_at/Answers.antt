use Rattle.std.proofs.Common.{arith, ◌≡◌, ℕ, ◌≤◌, Bool, true, false, not, ◌&&◌, nat_le, None, Some, refl, ap, sym, ◌∙◌}
use Rattle.std.proofs.lemmas.Bool.{false≢true}
use Rattle.std.proofs.lemmas.Bool.Decides.{nat_tests}
use Rattle.event_retrieve.specs.Offer.{has_position}
use Rattle.event_retrieve.proofs.Fronts.{none_some, some_same}
use Rattle.event_retrieve.proofs.Vectors.{missed_nowhere, missed_here}
use Rattle.event_retrieve.proofs.offer.Offer.missed_at.Goals as goal

-- what the test of a position says
lacking : (q reach : ℕ) (has : Bool) → (nat_le q reach && not has) ≡ true → (q ≤ reach) × (has ≡ false)
lacking q reach has e = go (nat_le q reach) refl has e
  where
    go : (within : Bool) → nat_le q reach ≡ within → (has : Bool) → (within && not has) ≡ true → (q ≤ reach) × (has ≡ false)
    go true is false e = (grind (arith, nat_tests), refl)
    go true is true e = absurd (false≢true e)
    go false is has e = absurd (false≢true e)

not_lacking : (q reach : ℕ) (has : Bool) → (nat_le q reach && not has) ≡ false → q ≤ reach → has ≡ false → ⊥
not_lacking q reach has e within missing =
    let yes : nat_le q reach ≡ true = grind (arith, nat_tests) in
    false≢true (sym e ∙ ap (λ b. b && not has) yes ∙ ap not missing)

pub returns-in_err-position : goal.returns-in_err-position
returns-in_err-position c =
    c.from_residual.ensures ∙ sym (missed_nowhere c.args.plan.now c.args.self.now c.args.cell None c.in_err-position.ensures (λ q within is missing. absurd (none_some q is)))

pub returns-then-lacks : goal.returns-then-lacks
returns-then-lacks c =
    let position = c.in_ok-position.position in
    let tells = lacking position c.args.self.now.retained.reach (has_position c.args.self.now.event position) (sym c.lacks.ensures ∙ c.if-lacks.true) in
    sym (missed_here c.args.plan.now c.args.self.now c.args.cell (Some position) c.in_ok-position.ensures position (λ _. Some position) tells.0 tells.1)

pub returns-else-lacks : goal.returns-else-lacks
returns-else-lacks c =
    let position = c.in_ok-position.position in
    sym (missed_nowhere c.args.plan.now c.args.self.now c.args.cell (Some position) c.in_ok-position.ensures (λ q within is missing.
    let same : position ≡ q = some_same position q is in
    not_lacking position c.args.self.now.retained.reach (has_position c.args.self.now.event position) (sym c.lacks.ensures ∙ c.if-lacks.false) (omega (arith, same, within)) (ap (has_position c.args.self.now.event) same ∙ missing)))
