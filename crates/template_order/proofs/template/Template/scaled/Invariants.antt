use Rattle.std.proofs.Common.{◌≡◌, take, map}
use Rattle.template_order.specs.Template.{times}
use Rattle.template_order.proofs.template.Template.scaled.Given as goal

abbrev pub invariant-loop-v : goal.invariant-loop-v
invariant-loop-v l = l.list.items ≡ map (times l.factor) (take l.v-index l.v-items)
