use Rattle.std.proofs.Common.{◌+◌, ◌*◌}
use Rattle.template_order.specs.Radii.{radii_of}
use Rattle.template_order.specs.Keys.{row, plane}
use Rattle.template_order.proofs.Keys.{plane_more}
use Rattle.template_order.proofs.Least.{AreLeast-next, AreLeast-start}
use Rattle.template_order.proofs.order.offer_plane.Goals as goal

pub loop-j-init : goal.loop-j-init
loop-j-init c = AreLeast-start (radii_of c.args.radii) c.args.count c.args.keys.now.items c.requires.order

pub loop-j-preserved : goal.loop-j-preserved
loop-j-preserved c =
    let r = radii_of c.args.radii in
    let i = c.args.i in
    let n = c.loop-j.j in
    AreLeast-next r c.args.count c.args.keys.now.items c.loop-j.keys.items c.offer_row.new.keys.items (plane r i n) (row r i n (2 * r.x + 1)) (plane r i (n + 1)) (plane_more r i n) c.loop-j.invariant c.in_ok-offer_row.ensures
