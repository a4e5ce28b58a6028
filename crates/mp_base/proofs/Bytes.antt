-- Grids and the bytes that they are kept in.
use Rattle.std.proofs.Common.{◌≡◌, ℕ, suc, zero, ◌<◌, List, ◌∷◌, Option, map, replicate, get_or, set, refl, ap, subst, sym, ◌∙◌, arith}
use Rattle.std.proofs.lemmas.List.{length-map, get_or-map, map-set}
use Rattle.std.proofs.lemmas.Bool.Decides.{nat_tests}
use Rattle.mp_base.specs.Grid.{Field, field, Sides, IsGrid, IsBelow, category_of, FitsShape}

pub map-replicate : {X Y : Type 0} (f : X → Y) (n : ℕ) (x : X) → map f (replicate n x) ≡ replicate n (f x)
map-replicate f zero x = refl
map-replicate f (suc n) x = ap (λ l. f x ∷ l) (map-replicate f n x)

category_below : (b : ℕ) → IsBelow 8 (category_of b)
category_below b = grind (arith, nat_tests)

pub is_grid : (s : Sides) (bytes : List ℕ) → FitsShape s bytes → IsGrid (record { sides = s; cells = map category_of bytes })
is_grid s bytes fits = record {
  shape = fits.shape;
  count = length-map bytes category_of ∙ fits.count;
  cats = λ k d in_list. subst (λ v. IsBelow 8 v) (sym (get_or-map category_of bytes k 0 d (subst (λ n. k < n) (length-map bytes category_of) in_list))) (category_below (get_or bytes k 0));
}

-- a cell is set where its byte is
pub set_cell : (s : Sides) (bytes : List ℕ) (g : Field) (read i b : ℕ) (v : Option ℕ) → field s (map category_of bytes) ≡ g → read ≡ i → category_of b ≡ v → field s (map category_of (set bytes read b)) ≡ field g.sides (set g.cells i v)
set_cell s bytes g read i b v is at means = rw (← is, ← at, ← means) (ap (field s) (map-set category_of bytes read b))
