-- The radii as the program has them.
use Rattle.std.specs.Prelude.{ℕ, List, slice_index}
use Rattle.template_order.specs.declared.order.Radii.{Radii as RadiiInCode}
use Rattle.template_order.specs.Template.{Radii}

abbrev pub radii_of : RadiiInCode → Radii
radii_of r = record { x = r.x; y = r.y; z = r.z }

-- the radii along x, y and z, in an array
abbrev pub radii_in : List ℕ → Radii
radii_in r = record { x = slice_index r 0; y = slice_index r 1; z = slice_index r 2 }
