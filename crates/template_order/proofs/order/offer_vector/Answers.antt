use Rattle.std.proofs.Common.{◌≡◌, ◌++◌, ◌∷◌, [], true, false, sym, subst, ◌∙◌, ap}
use Rattle.template_order.specs.Radii.{radii_of}
use Rattle.template_order.specs.Template.{is_near_enough, is_candidate}
use Rattle.template_order.specs.Keys.{AreLeast, key_of}
use Rattle.template_order.proofs.Keys.{keys_of_yes, keys_of_no}
use Rattle.template_order.proofs.Least.{AreLeast-same}
use Rattle.template_order.proofs.order.offer_vector.Goals as goal

pub returns-in_ok-offer : goal.returns-in_ok-offer
returns-in_ok-offer c =
    let r = radii_of c.args.radii in
    let v = c.args.v in
    let yes : is_candidate r v ≡ true = ap (is_near_enough r) (sym c.distance-d.ensures) ∙ sym c.is_candidate.ensures ∙ c.if-is_candidate.true in
    let is_key : c.key.result ≡ key_of r v = c.key.ensures ∙ ap (λ d. (d, v.dz, v.dy, v.dx)) c.distance-d.ensures in
    subst (λ l. AreLeast c.args.count (c.args.keys.now.items ++ l) c.offer.new.keys.items) (ap (λ k. k ∷ []) is_key ∙ sym (keys_of_yes r v yes)) c.in_ok-offer.ensures

pub returns-else-is_candidate : goal.returns-else-is_candidate
returns-else-is_candidate c =
    let r = radii_of c.args.radii in
    let v = c.args.v in
    let no : is_candidate r v ≡ false = ap (is_near_enough r) (sym c.distance-d.ensures) ∙ sym c.is_candidate.ensures ∙ c.if-is_candidate.false in
    subst (λ l. AreLeast c.args.count (c.args.keys.now.items ++ l) c.args.keys.now.items) (sym (keys_of_no r v no)) (AreLeast-same c.args.count c.args.keys.now.items c.requires.order)
