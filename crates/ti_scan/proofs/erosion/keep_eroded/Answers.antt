use Rattle.std.proofs.Common.{◌+◌}
use Rattle.ti_scan.proofs.Eroding.{eroded_all}
use Rattle.ti_scan.proofs.erosion.keep_eroded.Goals as goal

pub returns : goal.returns
returns c =
    eroded_all c.args.ground.now.image.now c.args.ground.now.vectors.now (c.args.ground.now.span.first + c.args.start) c.args.marks.now c.keep_surrounded.new.marks c.keep_within.new.marks c.keep_surrounded.ensures c.keep_within.ensures
