use Rattle.std.proofs.Common.{arith, ◌≡◌, ℕ, ◌+◌, ◌-◌, length, ap, sym, subst}
use Rattle.ti_scan.specs.Event.{IsEvent}
use Rattle.ti_scan.specs.Rising.{RisesFrom}
use Rattle.event_retrieve.specs.Offer.{IsSound, IsRetained}
use Rattle.event_retrieve.specs.Gather.{Gathering}
use Rattle.event_retrieve.specs.contracts.gather.Gather.{the_view}
use Rattle.event_retrieve.proofs.Gathered.{between_all}
use Rattle.event_retrieve.proofs.gather.Gather.into_offer.Goals as goal

-- once all positions were put the data are those of an event of the template
all_put : (t : ℕ) (g now : Gathering) → g ≡ now → now.position ≡ t + 1 → RisesFrom 1 (g.position - 1) g.event → IsEvent t g.event
all_put t g now same done rises =
    let position : g.position - 1 ≡ t = omega (arith, ap (λ (x : Gathering). x.position) same, done) in
    subst (λ n. RisesFrom 1 n g.event) position rises

pub retain-retained-requires-clause-event : goal.retain-retained-requires-clause-event
retain-retained-requires-clause-event g c = λ _ _.
    all_put (length c.args.plan.now.source.template) (the_view c.self.inside) c.args.self c.self.view_is c.requires.done c.self.invariant.2

pub returns-clause-sound : goal.returns-clause-sound
returns-clause-sound g c = λ lies.
    let p = c.args.plan.now in
    let r = c.retain-retained.result in
    let rising : IsEvent (length p.source.template) c.self.inside.event =
    all_put (length p.source.template) (the_view c.self.inside) c.args.self c.self.view_is c.requires.done c.self.invariant.2 in
    let retained : IsRetained p c.self.inside.event r = record { len = c.retain-retained.ensures.len; reach = c.retain-retained.ensures.reach; counts = c.retain-retained.ensures.counts } in
    let all = between_all p c.args.seen c.args.self (omega (arith, c.requires.done)) lies in
    subst (λ (x : Gathering). IsSound p (record { index = x.index; seen = c.args.seen; event = x.event; retained = r })) (sym c.self.view_is) (record {
      in_path = c.requires.index;
      before = c.requires.seen;
      event = subst (λ (x : Gathering). IsEvent (length p.source.template) x.event) c.self.view_is rising;
      lower = all.0;
      upper = all.1;
      retained = subst (λ (x : Gathering). IsRetained p x.event r) c.self.view_is retained;
    })
