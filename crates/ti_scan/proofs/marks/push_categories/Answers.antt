use Rattle.std.proofs.Common.{◌∙◌, ap, map}
use Rattle.mp_base.specs.Grid.{category_of}
use Rattle.ti_scan.specs.Marks.{category_marked}
use Rattle.ti_scan.proofs.Blocks.{map-push-more}
use Rattle.ti_scan.proofs.marks.push_categories.Goals as goal

pub loop-i-preserved : goal.loop-i-preserved
loop-i-preserved c =
    ap (map category_of) c.in_ok-push.ensures.items
    ∙ map-push-more category_of (category_marked c.args.marks.now c.args.bytes.now) c.loop-i.to.items c.args.to.now.items c.if_marked.result c.loop-i.i c.loop-i.invariant c.if_marked.ensures
