use Rattle.std.proofs.Common.{arith, ◌≤◌, subst, sym}
use Rattle.ti_scan.specs.Rising.{next_position}
use Rattle.ti_scan.proofs.RisingLemmas.{length-next_from, RisesFrom-push}
use Rattle.ti_scan.proofs.event.Event.push.Goals as goal

pub push-requires : goal.push-requires
push-requires c = (omega arith, omega (arith, length-next_from 1 64 c.self.inside.list.items c.self.invariant, subst (λ e. next_position e ≤ c.args.datum.position) (sym c.self.view_is) c.requires.after))

pub invariant_of-self : goal.invariant_of-self
invariant_of-self c =
    rw c.push.ensures.items
    (RisesFrom-push 1 64 c.self.inside.list.items c.args.datum c.self.invariant (subst (λ e. next_position e ≤ c.args.datum.position) (sym c.self.view_is) c.requires.after) c.requires.last)
