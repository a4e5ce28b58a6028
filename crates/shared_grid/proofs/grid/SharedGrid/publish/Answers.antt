use Rattle.std.proofs.Common.{◌≡◌, ◌+◌, suc, [], ◌∙◌, sym, ap, arith, slice_get}
use Rattle.shared_grid.specs.declared.rule.View.TheVariants.{Writes}
use Rattle.shared_grid.specs.Rule.{stored_by, seen_by}
use Rattle.shared_grid.proofs.Steps.{stores_as, shows_as}
use Rattle.shared_grid.proofs.Moments.{at_get}
use Rattle.shared_grid.proofs.grid.SharedGrid.publish.Goals as goal

pub store-requires : goal.store-requires
store-requires g c =
    let s = c.self.invariant in
    let i = c.writer.invariant in
    let named = s.2 in
    let p = g.N.Naming.plan in
    let story = g.N.Naming.story in
    let is = c.writer.view_is in
    let e = c.args.entry in
    let m = c.writer.inside.front in
    let even : stored_by c.writer.inside.seat.me.0 ≡ m = ap (λ x. x.stored) is ∙ c.requires.even ∙ sym (ap (λ x. x.front) is) in
    let at = at_get story m e e (ap (slice_get story) (sym even ∙ ap (λ x. x.stored) is) ∙ c.requires.next) in
    let cell = ap (λ x. x.cell) (sym at.1) ∙ named.is_log.cells m e at.0 in
    let inside = named.is_plan.path.inside m (omega (arith, at.0, named.is_log.whole)) in
    let place = ap (λ x. x.cell) c.entry.view_is in
    let w = c.word_from-word.ensures in (
      i.0 ∙ sym s.0,
      omega (arith, s.1, cell, inside, place),
      stores_as p story named.is_plan.path named.is_log _ _ m _ _ e _ (i.1 ∙ ap (λ k. (Writes k m, [])) even) (ap (λ k. k + 1) place) (w.word ∙ ap (λ x. suc x.cat) c.entry.view_is) w.byte at.0 at.1,
    )

pub store-requires-2 : goal.store-requires-2
store-requires-2 g c =
    let s = c.self.invariant in
    let i = c.writer.invariant in
    let is = c.writer.view_is in
    let m = c.writer.inside.front in
    let even : stored_by c.writer.inside.seat.me.0 ≡ m = ap (λ x. x.stored) is ∙ c.requires.even ∙ sym (ap (λ x. x.front) is) in
    let one = c.store.ensures in
    let now = one.2 ∙ ap (λ x. (Writes (stored_by x.0 + 1) (seen_by x.0), [])) (i.1 ∙ ap (λ k. (Writes k m, [])) even) in (
      one.0 ∙ i.0 ∙ sym s.0,
      omega (arith, s.1),
      shows_as g.N.Naming.plan g.N.Naming.story s.2.is_plan.path s.2.is_log _ _ m _ _ now c.from.ensures,
    )

pub invariant_of-writer : goal.invariant_of-writer
invariant_of-writer g c =
    let i = c.writer.invariant in
    let is = c.writer.view_is in
    let m = c.writer.inside.front in
    let even : stored_by c.writer.inside.seat.me.0 ≡ m = ap (λ x. x.stored) is ∙ c.requires.even ∙ sym (ap (λ x. x.front) is) in
    let at = at_get g.N.Naming.story m c.args.entry c.args.entry (ap (slice_get g.N.Naming.story) (sym even ∙ ap (λ x. x.stored) is) ∙ c.requires.next) in
    let one = c.store.ensures in
    let two = c.store-2.ensures in
    let now = one.2 ∙ ap (λ x. (Writes (stored_by x.0 + 1) (seen_by x.0), [])) (i.1 ∙ ap (λ k. (Writes k m, [])) even) in
    let last = two.2 ∙ ap (λ x. (Writes (stored_by x.0) (seen_by x.0 + 1), [])) now in
    (two.0 ∙ one.0 ∙ i.0, last ∙ ap (λ k. (Writes k (m + 1), [])) (sym (ap (λ x. stored_by x.0) last)), omega (arith, at.0))
