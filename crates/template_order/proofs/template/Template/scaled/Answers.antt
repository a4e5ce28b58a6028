use Rattle.std.proofs.Common.{◌≡◌, map, sym, subst}
use Rattle.std.specs.Prelude.{true}
use Rattle.std.proofs.Common.{arith}
use Rattle.std.proofs.lemmas.Grind.{common_steps}
use Rattle.std.proofs.lemmas.List.{take_all}
use Rattle.template_order.specs.Template.{IsTemplate, times}
use Rattle.template_order.proofs.Stretching.{stretched_facts}
use Rattle.template_order.proofs.template.Template.scaled.Goals as goal

pub invariant_of-result : goal.invariant_of-result
invariant_of-result c =
    let f = c.args.factor in
    let t = c.args.self.now in
    let all = take_all c.loop-v.v-index c.vectors-v-items.result.now in
    let items : c.loop-v.list.items ≡ map (times f) t.vectors = grind (arith, common_steps) in
    subst (λ l. IsTemplate (record { vectors = l; stretched = true })) (sym items) (stretched_facts f t c.requires.whole c.requires.factor.0 c.requires.factor.1 c.vectors-v-items.ensures.template)
