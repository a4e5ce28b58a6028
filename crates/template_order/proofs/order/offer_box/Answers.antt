use Rattle.std.proofs.Common.{◌+◌, ◌*◌}
use Rattle.template_order.specs.Radii.{radii_of}
use Rattle.template_order.specs.Keys.{plane, planes}
use Rattle.template_order.proofs.Keys.{planes_more}
use Rattle.template_order.proofs.Least.{AreLeast-next, AreLeast-start}
use Rattle.template_order.proofs.order.offer_box.Goals as goal

pub loop-i-init : goal.loop-i-init
loop-i-init c = AreLeast-start (radii_of c.args.radii) c.args.count c.args.keys.now.items c.requires.order

pub loop-i-preserved : goal.loop-i-preserved
loop-i-preserved c =
    let r = radii_of c.args.radii in
    let n = c.loop-i.i in
    AreLeast-next r c.args.count c.args.keys.now.items c.loop-i.keys.items c.offer_plane.new.keys.items (planes r n) (plane r n (2 * r.y + 1)) (planes r (n + 1)) (planes_more r n) c.loop-i.invariant c.in_ok-offer_plane.ensures
