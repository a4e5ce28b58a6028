use Rattle.std.proofs.Common.{arith, ◌≡◌, ◌+◌, ◌-◌, ◌≤◌, List, ◌++◌, option_to_list, subst, sym, ap, ◌∙◌}
use Rattle.ti_scan.specs.declared.event.Datum.{Datum}
use Rattle.ti_scan.specs.Rising.{RisesFrom}
use Rattle.event_retrieve.specs.Plan.{datum_at}
use Rattle.event_retrieve.specs.Gather.{Gathering, LiesBetween, after_put}
use Rattle.event_retrieve.specs.contracts.gather.Gather.{the_view}
use Rattle.event_retrieve.proofs.Gathered.{put_between, put_one, room}
use Rattle.event_retrieve.proofs.gather.Gather.put.Goals as goal

pub push_found-requires-clause-after : goal.push_found-requires-clause-after
push_found-requires-clause-after c = omega (arith, room c.self.inside.position c.self.inside.event c.self.invariant.0 c.self.invariant.2)

pub push_found-requires-clause-last : goal.push_found-requires-clause-last
push_found-requires-clause-last c = omega (arith, c.if-prove.false, c.template_len.ensures.value, c.template_len.ensures.plan.source.short)

module _ (c : goal.After-self-1) where
  abbrev was : Gathering
  was = the_view c.self.inside

  event_is : c.push_found.new.event ≡ was.event ++ option_to_list (datum_at was.position c.args.value)
  event_is =
      let some : 1 ≤ was.position = c.self.invariant.0 in
      let here : was.position - 1 + 1 ≡ was.position = omega arith in
      c.push_found.ensures ∙ ap (λ n. was.event ++ option_to_list (datum_at n c.args.value)) here

  rises : RisesFrom 1 was.position c.push_found.new.event
  rises = subst (RisesFrom 1 was.position) (sym event_is) (put_one was.position was.event c.args.value c.self.invariant.0 c.self.invariant.2)

pub invariant_of-self : goal.invariant_of-self
invariant_of-self c =
    let position = c.self.inside.position in
    let few : position ≤ 64 = omega (arith, c.if-prove.false, c.template_len.ensures.value, c.template_len.ensures.plan.source.short) in
    let last : position + 1 - 1 ≡ position = omega arith in
    (omega arith, omega (arith, few), subst (λ n. RisesFrom 1 n c.push_found.new.event) (sym last) (rises c))

pub returns-clause-between : goal.returns-clause-between
returns-clause-between c = λ seen le lies read.
    let p = c.args.plan.now in
    let some : 1 ≤ c.args.self.now.position = omega (arith, c.self.invariant.0, ap (λ (g : Gathering). g.position) c.self.view_is) in
    let after : after_put c.args.self.now c.args.value ≡ record { index = (was c).index; position = (was c).position + 1; event = c.push_found.new.event } =
    ap (λ (g : Gathering). after_put g c.args.value) (sym c.self.view_is) ∙ ap (λ (e : List Datum). record { index = (was c).index; position = (was c).position + 1; event = e }) (sym (event_is c)) in
    subst (LiesBetween p seen) after (put_between p c.template_len.ensures.plan.path seen c.args.self.now c.args.value le c.requires.index some c.requires.wanted read lies)
