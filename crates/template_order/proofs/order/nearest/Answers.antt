use Rattle.std.proofs.Common.{◌≡◌, map, sym, subst, ◌∙◌, arith}
use Rattle.std.specs.Prelude.{false}
use Rattle.std.proofs.lemmas.Grind.{common_steps}
use Rattle.std.proofs.lemmas.List.{take_all}
use Rattle.template_order.specs.Radii.{radii_of}
use Rattle.template_order.specs.Template.{IsTemplate}
use Rattle.template_order.specs.Keys.{vector_of}
use Rattle.template_order.proofs.Facts.{template_facts}
use Rattle.template_order.proofs.Least.{AreLeast-candidates, template_least}
use Rattle.template_order.proofs.Strict.{vectors_more}
use Rattle.template_order.proofs.order.nearest.Goals as goal

pub loop-key-preserved : goal.loop-key-preserved
loop-key-preserved c =
    let more = vectors_more c.as_slice-key-items.result.now c.loop-key.key-index in
    grind (arith, common_steps)

pub returns : goal.returns
returns c =
    let r = radii_of c.args.radii in
    let n = c.args.count in
    let keys = c.offer_box.new.keys.items in
    let least = AreLeast-candidates r n c.new-keys.result.items keys c.new-keys.ensures.items c.in_ok-offer_box.ensures in
    let all = take_all c.loop-key.key-index c.as_slice-key-items.result.now in
    let is_map : c.loop-key.list.items ≡ map vector_of keys = grind (arith, common_steps) in
    record {
      vectors = is_map ∙ sym (template_least r n keys least);
      template = subst (λ l. IsTemplate (record { vectors = l; stretched = false })) (sym is_map) (template_facts r n keys least c.requires.small c.requires.count);
    }
