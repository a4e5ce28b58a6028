use Rattle.std.proofs.Common.{◌+◌, ◌∙◌}
use Rattle.ti_scan.proofs.Blocks.{counted}
use Rattle.ti_scan.proofs.erosion.count_block.Goals as goal

pub returns : goal.returns
returns c =
    c.count_marks.ensures.count
    ∙ counted c.args.ground.now.image.now c.args.ground.now.vectors.now (c.args.ground.now.span.first + c.args.start) 4096 c.args.len c.keep_eroded.new.marks c.requires.few c.keep_eroded.ensures
