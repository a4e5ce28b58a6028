use Rattle.std.proofs.Common.{◌≡◌, ◌+◌, ◌∷◌, [], ◌++◌, ◌∙◌, ap}
use Rattle.template_order.specs.Radii.{radii_of}
use Rattle.template_order.specs.Keys.{row}
use Rattle.template_order.proofs.Keys.{row_more}
use Rattle.template_order.proofs.Least.{AreLeast-next, AreLeast-start}
use Rattle.template_order.proofs.order.offer_row.Goals as goal

pub loop-k-init : goal.loop-k-init
loop-k-init c = AreLeast-start (radii_of c.args.radii) c.args.count c.args.keys.now.items c.requires.order

pub loop-k-preserved : goal.loop-k-preserved
loop-k-preserved c =
    let r = radii_of c.args.radii in
    let i = c.args.i in
    let j = c.args.j in
    let n = c.loop-k.k in
    let v = c.vector_at.result in
    let is : row r i j n ++ v ∷ [] ≡ row r i j (n + 1) = ap (λ w. row r i j n ++ w ∷ []) c.vector_at.ensures.value ∙ row_more r i j n in
    AreLeast-next r c.args.count c.args.keys.now.items c.loop-k.keys.items c.offer_vector.new.keys.items (row r i j n) (v ∷ []) (row r i j (n + 1)) is c.loop-k.invariant c.in_ok-offer_vector.ensures
