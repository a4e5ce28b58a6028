use Rattle.std.proofs.Common.{◌≡◌, take, map}
use Rattle.template_order.specs.Keys.{vector_of}
use Rattle.template_order.proofs.order.nearest.Given as goal

abbrev pub invariant-loop-key : goal.invariant-loop-key
invariant-loop-key l = l.list.items ≡ map vector_of (take l.key-index l.key-items)
