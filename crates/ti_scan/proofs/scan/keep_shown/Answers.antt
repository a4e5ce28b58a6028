use Rattle.std.proofs.Common.{arith, ap, length}
use Rattle.ti_scan.proofs.RisingLemmas.{position_read}
use Rattle.ti_scan.proofs.scan.keep_shown.Goals as goal

pub bytes_around-bytes-requires-clause-first : goal.bytes_around-bytes-requires-clause-first
bytes_around-bytes-requires-clause-first c =
    let at = position_read (length c.args.source.now.template) c.loop-datum.datum-index c.args.event.now c.items-datum-items.result.now c.datum-item.result c.items-datum-items.ensures.items c.requires.event c.loop-datum-test.true c.datum-item.is in
    omega (arith, at.0, ap (λ d. d.position) c.datum.view_is)

pub bytes_around-bytes-requires-clause-last : goal.bytes_around-bytes-requires-clause-last
bytes_around-bytes-requires-clause-last c =
    let at = position_read (length c.args.source.now.template) c.loop-datum.datum-index c.args.event.now c.items-datum-items.result.now c.datum-item.result c.items-datum-items.ensures.items c.requires.event c.loop-datum-test.true c.datum-item.is in
    omega (arith, at.1, ap (λ d. d.position) c.datum.view_is)
