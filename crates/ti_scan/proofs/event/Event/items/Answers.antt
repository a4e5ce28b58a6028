use Rattle.std.proofs.Common.{arith, length, subst, ◌≤◌}
use Rattle.ti_scan.proofs.RisingLemmas.{length-next_from, next_from-le}
use Rattle.ti_scan.proofs.event.Event.items.Goals as goal

pub returns-clause-few : goal.returns-clause-few
returns-clause-few c =
    subst (λ e. length e ≤ 64) c.self.view_is (omega (arith, length-next_from 1 64 c.self.inside.list.items c.self.invariant, next_from-le 1 64 c.self.inside.list.items (omega arith) c.self.invariant))
