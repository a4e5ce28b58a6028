-- Worked templates, computed from the definition.
use Rattle.std.proofs.Common.{◌≡◌, ℕ, pos, negsuc, [], ◌∷◌, refl}
use Rattle.template_order.specs.Template.{Radii, template_of, candidates, vector}

abbrev radii : ℕ → ℕ → ℕ → Radii
radii x y z = record { x = x; y = y; z = z }

none : template_of (radii 0 0 0) 64 ≡ []
unfolding template_of candidates
none = refl

two_sides : template_of (radii 1 0 0) 2 ≡ vector (negsuc 0) (pos 0) (pos 0) ∷ vector (pos 1) (pos 0) (pos 0) ∷ []
unfolding template_of candidates
two_sides = refl

six : template_of (radii 2 1 0) 64 ≡ vector (negsuc 0) (pos 0) (pos 0) ∷ vector (pos 1) (pos 0) (pos 0) ∷ vector (pos 0) (negsuc 0) (pos 0) ∷ vector (negsuc 1) (pos 0) (pos 0) ∷ vector (pos 2) (pos 0) (pos 0) ∷ vector (pos 0) (pos 1) (pos 0) ∷ []
unfolding template_of candidates
six = refl
