use Rattle.std.proofs.Common.{◌≤◌, arith, ap, ◌∙◌}
use Rattle.mps_scan.specs.Coded.{next_position, positions_rise}
use Rattle.mps_scan.proofs.CodedLemmas.{rise_push}
use Rattle.mps_scan.proofs.words.push_part.Goals as goal

pub returns-clause-rise : goal.returns-clause-rise
returns-clause-rise c =
    let after : next_position c.args.event.now ≤ c.in-Some.datum.position = omega (arith, c.next_position-next.ensures.value, c.if-datum-next.false) in
    ap (positions_rise 1) c.push.ensures ∙ rise_push c.args.event.now c.in-Some.datum c.next_position-next.ensures.coded.rise after
