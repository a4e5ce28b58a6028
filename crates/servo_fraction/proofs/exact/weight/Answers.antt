use Rattle.std.proofs.Common.{arith}
use Rattle.servo_fraction.proofs.Sums.{raised-small}
use Rattle.servo_fraction.proofs.exact.weight.Goals as goal

pub overflow_add-raised : goal.overflow_add-raised
overflow_add-raised c =
    let all = c.args.all in
    omega (
      arith,
      raised-small all.counts all.target all.known all.servo c.from-count.result c.from-part.result all.counts_fit all.target_fits all.known_fits all.servo_fits (omega arith) (omega arith),
    )
