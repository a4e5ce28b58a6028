use Rattle.std.proofs.Common.{arith, ◌≤◌, ◌^◌}
use Rattle.std.proofs.lemmas.Nat.{mul-le}
use Rattle.hard_data.proofs.nearest.squared.Goals as goal

pub returns-clause-few : goal.returns-clause-few
returns-clause-few c =
    let apart : c.from-apart.result ≤ 2 ^ 20 = omega (arith, c.abs_diff.ensures) in
    omega (arith, mul-le c.from-apart.result c.from-apart.result (2 ^ 20) (2 ^ 20) apart apart)
