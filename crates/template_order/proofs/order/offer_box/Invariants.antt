use Rattle.std.proofs.Common.{◌++◌}
use Rattle.template_order.specs.Keys.{AreLeast, planes, keys_of}
use Rattle.template_order.specs.Radii.{radii_of}
use Rattle.template_order.proofs.order.offer_box.Given as goal

abbrev pub invariant-loop-i : goal.invariant-loop-i
invariant-loop-i l = AreLeast l.count (l.initial.keys.items ++ keys_of (radii_of l.radii) (planes (radii_of l.radii) l.i)) l.keys.items
