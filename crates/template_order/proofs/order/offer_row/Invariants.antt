use Rattle.std.proofs.Common.{◌++◌}
use Rattle.template_order.specs.Keys.{AreLeast, row, keys_of}
use Rattle.template_order.specs.Radii.{radii_of}
use Rattle.template_order.proofs.order.offer_row.Given as goal

abbrev pub invariant-loop-k : goal.invariant-loop-k
invariant-loop-k l = AreLeast l.count (l.initial.keys.items ++ keys_of (radii_of l.radii) (row (radii_of l.radii) l.i l.j l.k)) l.keys.items
