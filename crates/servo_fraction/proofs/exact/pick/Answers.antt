use Rattle.std.proofs.Common.{rules}
use Rattle.servo_fraction.proofs.Sums.{pick_of_is}
use Rattle.servo_fraction.proofs.exact.pick.Goals as goal

pub returns-then-point-sum-clause-category : goal.returns-then-point-sum-clause-category
returns-then-point-sum-clause-category c = pick_of_is c.args.weights.now c.args.word c.loop-k.k (search rules) (search rules) (search rules)
