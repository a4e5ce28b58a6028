use Rattle.std.proofs.Common.{◌-◌, length, arith, ap}
use Rattle.std.proofs.Common.{pos}
use Rattle.mps_scan.specs.Coded.{coded, next_position}
use Rattle.mps_scan.proofs.CodedLemmas.{next_after}
use Rattle.mps_scan.proofs.coded.CodedEvent.next_position.Goals as goal

pub returns-in-len1-up-clause-value : goal.returns-in-len1-up-clause-value
returns-in-len1-up-clause-value c =
    let items = c.items.result.now in
    omega (arith, next_after items (length items - 1) (coded 0 (pos 0)) (omega (arith, c.in-len1-up.len_at_least)), ap next_position c.items.ensures.items)
