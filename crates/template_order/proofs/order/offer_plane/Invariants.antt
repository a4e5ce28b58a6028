use Rattle.std.proofs.Common.{◌++◌}
use Rattle.template_order.specs.Keys.{AreLeast, plane, keys_of}
use Rattle.template_order.specs.Radii.{radii_of}
use Rattle.template_order.proofs.order.offer_plane.Given as goal

abbrev pub invariant-loop-j : goal.invariant-loop-j
invariant-loop-j l = AreLeast l.count (l.initial.keys.items ++ keys_of (radii_of l.radii) (plane (radii_of l.radii) l.i l.j)) l.keys.items
