-- One vector from many cells.
use Rattle.std.proofs.Common.{◌≡◌, ℕ, zero, suc, ◌+◌, ◌-◌, ◌*◌, ◌/◌, ◌<◌, ◌≤◌, ℤ, pos, negsuc, Bool, true, false, ◌&&◌, List, [], ◌∷◌, length, get_or, map, take, drop, Option, Some, None, is_some, option_and_then, option_map, refl, ap, sym, ◌∙◌, arith}
use Rattle.std.specs.List.{list_all}
use Rattle.std.proofs.lemmas.List.{length-take, length-drop, get_or-take, get_or-drop, get_or-map}
use Rattle.std.proofs.Math.Nat.{div-lt_iff_lt-mul}
use Rattle.std.proofs.lemmas.Bool.{false≢true}
use Rattle.std.proofs.lemmas.Bool.Decides.{nat_tests}
use Rattle.mp_base.specs.declared.cell.Vector.{Vector}
use Rattle.mp_base.specs.Grid.{Field, Sides, IsShape, cells_of, cell_number, cell_at, cat_at, cat_of, category_of, moved, x_of, y_of, z_of}
use Rattle.mp_base.proofs.Numbers.{cell_number-below}
use Rattle.mp_base.proofs.Tallies.{cat_of-get_or}
use Rattle.ti_scan.specs.declared.margins.Margins.{Margins}
use Rattle.ti_scan.specs.Window.{AreAt, AreMargins, IsSpan, fits, has_room, is_inside}
use Rattle.ti_scan.proofs.Spans.{number_of}

-- the same offset from two coordinates
moved-shift : (n x p : ℕ) (d : ℤ) (y q : ℕ) → moved n x d ≡ Some y → moved n p d ≡ Some q → y + p ≡ q + x
moved-shift n x p (pos d) y q at_x at_p = grind (arith, nat_tests)
moved-shift n x p (negsuc d) y q at_x at_p = grind (arith, nat_tests)

moved-below : (n x : ℕ) (d : ℤ) (y : ℕ) → x < n → moved n x d ≡ Some y → y < n
moved-below n x (pos d) y below at = grind (arith, nat_tests)
moved-below n x (negsuc d) y below at = grind (arith, nat_tests)

-- where a cell is, by its three coordinates
pub record IsPlace (s : Sides) (x y z : Option ℕ) (c : ℕ) : Type 0 where
  pub at_x : ℕ
  pub at_y : ℕ
  pub at_z : ℕ
  pub x_is : x ≡ Some at_x
  pub y_is : y ≡ Some at_y
  pub z_is : z ≡ Some at_z
  pub cell_is : c ≡ cell_number s at_x at_y at_z

abbrev joined : Sides → Option ℕ → Option ℕ → Option ℕ → Option ℕ
joined s x y z = option_and_then (λ a. option_and_then (λ b. option_map (λ k. cell_number s a b k) z) y) x

joined-place : (s : Sides) (x y z : Option ℕ) (c : ℕ) → joined s x y z ≡ Some c → IsPlace s x y z c
joined-place s None y z c e = cc
joined-place s (Some a) None z c e = cc
joined-place s (Some a) (Some b) None c e = cc
joined-place s (Some a) (Some b) (Some k) c e = record { at_x = a; at_y = b; at_z = k; x_is = refl; y_is = refl; z_is = refl; cell_is = cc }

joined-some : (s : Sides) (x y z : Option ℕ) → is_some (joined s x y z) ≡ (is_some x && (is_some y && is_some z))
joined-some s None y z = refl
joined-some s (Some a) None z = refl
joined-some s (Some a) (Some b) None = refl
joined-some s (Some a) (Some b) (Some k) = refl

pub place_of : (s : Sides) (c : ℕ) (v : Vector) (d : ℕ) → cell_at s c v ≡ Some d → IsPlace s (moved s.nx (x_of s c) v.dx) (moved s.ny (y_of s c) v.dy) (moved s.nz (z_of s c) v.dz) d
unfolding cell_at
place_of s c v d at = joined-place s (moved s.nx (x_of s c) v.dx) (moved s.ny (y_of s c) v.dy) (moved s.nz (z_of s c) v.dz) d at

cell_at-some : (s : Sides) (c : ℕ) (v : Vector) → is_some (cell_at s c v) ≡ (is_some (moved s.nx (x_of s c) v.dx) && (is_some (moved s.ny (y_of s c) v.dy) && is_some (moved s.nz (z_of s c) v.dz)))
unfolding cell_at
cell_at-some s c v = joined-some s (moved s.nx (x_of s c) v.dx) (moved s.ny (y_of s c) v.dy) (moved s.nz (z_of s c) v.dz)

-- numbers add up where coordinates do
number-add : (nx ny a b k x y z : ℕ) → (a + nx * (b + ny * k)) + (x + nx * (y + ny * z)) ≡ (a + x) + nx * ((b + y) + ny * (k + z))
number-add nx ny a b k x y z = omega arith

-- all cells move by as much
pub shifted : (s : Sides) (c p : ℕ) (v : Vector) (d q : ℕ) → cell_at s c v ≡ Some d → cell_at s p v ≡ Some q → d + p ≡ q + c
shifted s c p v d q from_c from_p =
    let one = place_of s c v d from_c in
    let two = place_of s p v q from_p in
    let in_x = moved-shift s.nx (x_of s c) (x_of s p) v.dx one.at_x two.at_x one.x_is two.x_is in
    let in_y = moved-shift s.ny (y_of s c) (y_of s p) v.dy one.at_y two.at_y one.y_is two.y_is in
    let in_z = moved-shift s.nz (z_of s c) (z_of s p) v.dz one.at_z two.at_z one.z_is two.z_is in
    ap (λ k. d + k) (sym (number_of s p)) ∙ ap (λ k. k + cell_number s (x_of s p) (y_of s p) (z_of s p)) one.cell_is
    ∙ number-add s.nx s.ny one.at_x one.at_y one.at_z (x_of s p) (y_of s p) (z_of s p)
    ∙ ap (λ k. k + s.nx * ((one.at_y + y_of s p) + s.ny * (one.at_z + z_of s p))) in_x
    ∙ ap (λ k. (two.at_x + x_of s c) + s.nx * (k + s.ny * (one.at_z + z_of s p))) in_y
    ∙ ap (λ k. (two.at_x + x_of s c) + s.nx * ((two.at_y + y_of s c) + s.ny * k)) in_z
    ∙ sym (number-add s.nx s.ny two.at_x two.at_y two.at_z (x_of s c) (y_of s c) (z_of s c))
    ∙ ap (λ k. k + cell_number s (x_of s c) (y_of s c) (z_of s c)) (sym two.cell_is) ∙ ap (λ k. q + k) (number_of s c)

-- a cell's coordinates are below the sides
pub x_of-below : (s : Sides) (c : ℕ) → IsShape s → x_of s c < s.nx
x_of-below s c shape = omega (arith, shape.x_some)

pub y_of-below : (s : Sides) (c : ℕ) → IsShape s → y_of s c < s.ny
y_of-below s c shape = omega (arith, shape.y_some)

div-below : (n m c : ℕ) → c < n * m → c / n < m
div-below zero m c below = absurd (omega arith)
div-below (suc n) m c below = (div-lt_iff_lt-mul {k = suc n} {x = c} {y = m} (omega arith)).1 (omega arith)

pub z_of-below : (s : Sides) (c : ℕ) → c < cells_of s → z_of s c < s.nz
z_of-below s c below = div-below s.ny s.nz (c / s.nx) (div-below s.nx (s.ny * s.nz) c below)

pub cell_at-below : (s : Sides) (c : ℕ) (v : Vector) (d : ℕ) → IsShape s → c < cells_of s → cell_at s c v ≡ Some d → d < cells_of s
cell_at-below s c v d shape below at =
    let p = place_of s c v d at in
    rw p.cell_is
    (cell_number-below s p.at_x p.at_y p.at_z (moved-below s.nx (x_of s c) v.dx p.at_x (x_of-below s c shape) p.x_is) (moved-below s.ny (y_of s c) v.dy p.at_y (y_of-below s c shape) p.y_is) (moved-below s.nz (z_of s c) v.dz p.at_z (z_of-below s c below) p.z_is))

-- three tests of each
and-step : (a b c x y z : Bool) → ((a && (b && c)) && (x && (y && z))) ≡ ((a && x) && ((b && y) && (c && z)))
and-step true true true x y z = refl
and-step true true false true true z = refl
and-step true true false true false z = refl
and-step true true false false y z = refl
and-step true false c true y z = refl
and-step true false c false y z = refl
and-step false b c x y z = refl

all_three : {X : Type 0} (p q r : X → Bool) (xs : List X) → list_all (λ x. p x && (q x && r x)) xs ≡ (list_all p xs && (list_all q xs && list_all r xs))
all_three p q r [] = refl
all_three p q r (x ∷ xs) = ap (λ b. (p x && (q x && r x)) && b) (all_three p q r xs) ∙ and-step (p x) (q x) (r x) (list_all p xs) (list_all q xs) (list_all r xs)

all_same : {X : Type 0} (p q : X → Bool) → ((x : X) → p x ≡ q x) → (xs : List X) → list_all p xs ≡ list_all q xs
all_same p q same [] = refl
all_same p q same (x ∷ xs) = ap (λ b. b && list_all p xs) (same x) ∙ ap (λ b. q x && b) (all_same p q same xs)

-- the template is inside exactly where there is room for its margins
pub inside-fits : (m : Margins) (s : Sides) (template : List Vector) (c : ℕ) → AreMargins m template → IsShape s → c < cells_of s → is_inside s template c ≡ fits m s c
unfolding fits
inside-fits m s template c are shape below =
    all_same (λ v. is_some (cell_at s c v)) (λ v. is_some (moved s.nx (x_of s c) v.dx) && (is_some (moved s.ny (y_of s c) v.dy) && is_some (moved s.nz (z_of s c) v.dz))) (λ v. cell_at-some s c v) template
    ∙ all_three (λ (v : Vector). is_some (moved s.nx (x_of s c) v.dx)) (λ v. is_some (moved s.ny (y_of s c) v.dy)) (λ v. is_some (moved s.nz (z_of s c) v.dz)) template
    ∙ ap (λ b. b && (list_all (λ v. is_some (moved s.ny (y_of s c) v.dy)) template && list_all (λ v. is_some (moved s.nz (z_of s c) v.dz)) template)) (are.x s.nx (x_of s c) (x_of-below s c shape))
    ∙ ap (λ b. has_room m.x s.nx (x_of s c) && (b && list_all (λ v. is_some (moved s.nz (z_of s c) v.dz)) template)) (are.y s.ny (y_of s c) (y_of-below s c shape))
    ∙ ap (λ b. has_room m.x s.nx (x_of s c) && (has_room m.y s.ny (y_of s c) && b)) (are.z s.nz (z_of s c) (z_of-below s c below))

some_of : (v : Option ℕ) → is_some v ≡ true → (d : ℕ) × (v ≡ Some d)
some_of None e = absurd (false≢true e)
some_of (Some d) e = (d, refl)

-- the cell at a vector, where it is inside
pub at_of : (s : Sides) (c : ℕ) (v : Vector) → is_some (cell_at s c v) ≡ true → (d : ℕ) × (cell_at s c v ≡ Some d)
at_of s c v e = some_of (cell_at s c v) e

-- what lies at a vector from a span of cells ends within the grid
pub reach_end : (s : Sides) (first cells q : ℕ) (v : Vector) → IsShape s → 1 ≤ cells → first + cells ≤ cells_of s → cell_at s first v ≡ Some q → ((last : ℕ) → last + 1 ≡ first + cells → is_some (cell_at s last v) ≡ true) → q + cells ≤ cells_of s
reach_end s first cells q v shape some within begins ends =
    let last = first + (cells - 1) in
    let e = at_of s last v (ends last (omega arith)) in
    let below = cell_at-below s last v e.0 shape (omega arith) e.1 in
    let far = shifted s last first v e.0 q e.1 begins in
    omega arith

pub at_vector : (image : Field) (bytes : List ℕ) (v : Vector) (first start count q : ℕ) → map category_of bytes ≡ image.cells → cell_at image.sides first v ≡ Some q → q + start + count ≤ length bytes → AreAt image v (first + start) count (take count (drop (q + start) bytes))
at_vector image bytes v first start count q cells begins within = record {
  count_is = omega (arith, length-take count (drop (q + start) bytes), length-drop (q + start) bytes);
  each = λ i below inside. each i below (at_of image.sides (first + start + i) v inside);
}
  where
    each : (i : ℕ) → i < count → (d : ℕ) × (cell_at image.sides (first + start + i) v ≡ Some d) → category_of (get_or (take count (drop (q + start) bytes)) i 0) ≡ cat_at image (first + start + i) v
    each i below at =
        let far = shifted image.sides (first + start + i) first v at.0 q at.1 begins in
        let here : q + start + i ≡ at.0 = omega arith in
        ap category_of (get_or-take count (drop (q + start) bytes) i 0 below ∙ get_or-drop (q + start) bytes i 0)
        ∙ sym (get_or-map category_of bytes (q + start + i) 0 None (omega arith))
        ∙ ap (λ l. get_or l (q + start + i) None) cells ∙ ap (λ k. get_or image.cells k None) here ∙ sym (cat_of-get_or image.cells at.0)
        ∙ sym (ap (option_and_then (cat_of image.cells)) at.1)

-- the cells around which there is room for the margins are those around which the template is inside
pub inside_span : (m : Margins) (s : Sides) (template : List Vector) (first cells : ℕ) → AreMargins m template → IsShape s → IsSpan (fits m s) (cells_of s) first cells → IsSpan (is_inside s template) (cells_of s) first cells
inside_span m s template first cells are shape span = record {
  within = span.within;
  begins = λ some. inside-fits m s template first are shape (omega (arith, span.within)) ∙ span.begins some;
  ends = λ last is some. inside-fits m s template last are shape (omega (arith, span.within)) ∙ span.ends last is some;
  whole = λ c below inside. span.whole c below (sym (inside-fits m s template c are shape below) ∙ inside);
}
