use Rattle.std.proofs.Common.{arith, ◌≤◌, subst, sym}
use Rattle.mps_scan.specs.Coded.{next_position}
use Rattle.mps_scan.proofs.CodedLemmas.{length-few, coded_push}
use Rattle.mps_scan.proofs.coded.CodedEvent.push.Goals as goal

pub push-requires : goal.push-requires
push-requires c = omega (arith, length-few c.self.inside.list.items c.self.invariant, subst (λ e. next_position e ≤ c.args.datum.position) (sym c.self.view_is) c.requires.after)

pub invariant_of-self : goal.invariant_of-self
invariant_of-self c =
    rw c.push.ensures.items
    (coded_push c.self.inside.list.items c.args.datum c.self.invariant (subst (λ e. next_position e ≤ c.args.datum.position) (sym c.self.view_is) c.requires.after) c.requires.last)
