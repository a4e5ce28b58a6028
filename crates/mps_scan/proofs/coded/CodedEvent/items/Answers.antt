use Rattle.std.proofs.Common.{arith, length, subst, ◌≤◌}
use Rattle.mps_scan.proofs.CodedLemmas.{length-few, next-few}
use Rattle.mps_scan.proofs.coded.CodedEvent.items.Goals as goal

pub returns-clause-few : goal.returns-clause-few
returns-clause-few c =
    subst (λ e. length e ≤ 64) c.self.view_is (omega (arith, length-few c.self.inside.list.items c.self.invariant, next-few c.self.inside.list.items c.self.invariant))
