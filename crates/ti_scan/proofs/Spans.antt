-- The cells around which a template is inside.
use Rattle.std.proofs.Common.{◌≡◌, ℕ, ◌+◌, ◌-◌, ◌*◌, ◌/◌, ◌%◌, ◌<◌, ◌≤◌, true, false, ◌&&◌, refl, ap, sym, ◌∙◌, subst, arith}
use Rattle.std.proofs.Math.Nat.{mod-add-div, mod-eq_of_lt, div-eq_of_lt, add-mul-div_left, add-mul-mod_self_left, mul-le-mul_left}
use Rattle.std.proofs.lemmas.Bool.{and_parts, false≢true}
use Rattle.std.proofs.lemmas.Bool.Decides.{nat_tests}
use Rattle.mp_base.specs.Grid.{Sides, cells_of, cell_number, x_of, y_of, z_of}
use Rattle.ti_scan.specs.declared.margins.Margin.{Margin}
use Rattle.ti_scan.specs.declared.margins.Margins.{Margins}
use Rattle.ti_scan.specs.Window.{IsSpan, fits, fits_somewhere, has_room}

-- a cell is where its coordinates say
pub number_of : (s : Sides) (c : ℕ) → cell_number s (x_of s c) (y_of s c) (z_of s c) ≡ c
number_of s c = ap (λ r. c % s.nx + s.nx * r) (mod-add-div (c / s.nx) s.ny) ∙ mod-add-div c s.nx

first_rest : (n x r : ℕ) → x < n → ((x + n * r) % n ≡ x) × ((x + n * r) / n ≡ r)
first_rest n x r below = (add-mul-mod_self_left x n r ∙ mod-eq_of_lt below, omega (arith, add-mul-div_left x r {y = n} (omega arith), div-eq_of_lt below))

-- the coordinates of the cell at a place
pub x_of-number : (s : Sides) (x y z : ℕ) → x < s.nx → x_of s (cell_number s x y z) ≡ x
x_of-number s x y z in_x = (first_rest s.nx x (y + s.ny * z) in_x).0

pub y_of-number : (s : Sides) (x y z : ℕ) → x < s.nx → y < s.ny → y_of s (cell_number s x y z) ≡ y
y_of-number s x y z in_x in_y = ap (λ r. r % s.ny) (first_rest s.nx x (y + s.ny * z) in_x).1 ∙ (first_rest s.ny y z in_y).0

pub z_of-number : (s : Sides) (x y z : ℕ) → x < s.nx → y < s.ny → z_of s (cell_number s x y z) ≡ z
z_of-number s x y z in_x in_y = ap (λ r. r / s.ny) (first_rest s.nx x (y + s.ny * z) in_x).1 ∙ (first_rest s.ny y z in_y).1

-- no smaller coordinates give a greater number
pub number-le : (s : Sides) (x y z u v w : ℕ) → x ≤ u → y ≤ v → z ≤ w → cell_number s x y z ≤ cell_number s u v w
number-le s x y z u v w in_x in_y in_z =
    let planes : s.ny * z ≤ s.ny * w = mul-le-mul_left s.ny in_z in
    let rows : s.nx * (y + s.ny * z) ≤ s.nx * (v + s.ny * w) = mul-le-mul_left s.nx (omega arith) in
    omega arith

room_at : (m : Margin) (n x : ℕ) → has_room m n x ≡ true → (m.before ≤ x) × (x + m.after < n)
room_at m n x e = (grind (arith, nat_tests), grind (arith, nat_tests))

room_from : (m : Margin) (n x : ℕ) → m.before ≤ x → x + m.after < n → has_room m n x ≡ true
room_from m n x before after = grind (arith, nat_tests)

-- room on three axes
pub record Rooms (m : Margins) (s : Sides) (x y z : ℕ) : Type 0 where
  pub x_before : m.x.before ≤ x
  pub x_after : x + m.x.after < s.nx
  pub y_before : m.y.before ≤ y
  pub y_after : y + m.y.after < s.ny
  pub z_before : m.z.before ≤ z
  pub z_after : z + m.z.after < s.nz

three_at : (m : Margins) (s : Sides) (x y z : ℕ) → (has_room m.x s.nx x && (has_room m.y s.ny y && has_room m.z s.nz z)) ≡ true → Rooms m s x y z
three_at m s x y z e =
    let one = and_parts (has_room m.x s.nx x) (has_room m.y s.ny y && has_room m.z s.nz z) e in
    let two = and_parts (has_room m.y s.ny y) (has_room m.z s.nz z) one.1 in
    let on_x = room_at m.x s.nx x one.0 in
    let on_y = room_at m.y s.ny y two.0 in
    let on_z = room_at m.z s.nz z two.1 in
    record { x_before = on_x.0; x_after = on_x.1; y_before = on_y.0; y_after = on_y.1; z_before = on_z.0; z_after = on_z.1 }

three_from : (m : Margins) (s : Sides) (x y z : ℕ) → Rooms m s x y z → (has_room m.x s.nx x && (has_room m.y s.ny y && has_room m.z s.nz z)) ≡ true
three_from m s x y z rooms = rw (room_from m.x s.nx x rooms.x_before rooms.x_after, room_from m.y s.ny y rooms.y_before rooms.y_after, room_from m.z s.nz z rooms.z_before rooms.z_after) refl

pub fits_at : (m : Margins) (s : Sides) (c : ℕ) → fits m s c ≡ true → Rooms m s (x_of s c) (y_of s c) (z_of s c)
unfolding fits
fits_at m s c e = three_at m s (x_of s c) (y_of s c) (z_of s c) e

pub somewhere_at : (m : Margins) (s : Sides) → fits_somewhere m s ≡ true → Rooms m s m.x.before m.y.before m.z.before
somewhere_at m s e = three_at m s m.x.before m.y.before m.z.before e

fits_number : (m : Margins) (s : Sides) (x y z : ℕ) → Rooms m s x y z → fits m s (cell_number s x y z) ≡ true
unfolding fits
fits_number m s x y z rooms =
    rw (x_of-number s x y z (omega (arith, rooms.x_after)), y_of-number s x y z (omega (arith, rooms.x_after)) (omega (arith, rooms.y_after)), z_of-number s x y z (omega (arith, rooms.x_after)) (omega (arith, rooms.y_after)))
    (three_from m s x y z rooms)

-- nothing fits where the least margins are too wide
pub nothing_fits : (m : Margins) (s : Sides) → fits_somewhere m s ≡ false → IsSpan (fits m s) (cells_of s) 0 0
nothing_fits m s none = record {
  within = omega arith;
  begins = λ some. absurd (omega arith);
  ends = λ last is some. absurd (omega arith);
  whole = λ c below e.
      let rooms = fits_at m s c e in
      absurd (false≢true (sym none ∙ three_from m s m.x.before m.y.before m.z.before (record { x_before = omega arith; x_after = omega (arith, rooms.x_before, rooms.x_after); y_before = omega arith; y_after = omega (arith, rooms.y_before, rooms.y_after); z_before = omega arith; z_after = omega (arith, rooms.z_before, rooms.z_after) })));
}

module _ (m : Margins) (s : Sides) (first last : ℕ) (some : fits_somewhere m s ≡ true) (first_is : first ≡ cell_number s m.x.before m.y.before m.z.before) (last_is : last ≡ cell_number s (s.nx - 1 - m.x.after) (s.ny - 1 - m.y.after) (s.nz - 1 - m.z.after)) where
  abbrev rooms : Rooms m s m.x.before m.y.before m.z.before
  rooms = somewhere_at m s some

  pub first-le-last : first ≤ last
  first-le-last =
      let r = somewhere_at m s some in
      rw (first_is, last_is)
      (number-le s m.x.before m.y.before m.z.before (s.nx - 1 - m.x.after) (s.ny - 1 - m.y.after) (s.nz - 1 - m.z.after) (omega (arith, r.x_after)) (omega (arith, r.y_after)) (omega (arith, r.z_after)))

  last_fits : fits m s last ≡ true
  last_fits =
      let r = somewhere_at m s some in
      rw last_is
      (fits_number m s (s.nx - 1 - m.x.after) (s.ny - 1 - m.y.after) (s.nz - 1 - m.z.after) (record { x_before = omega (arith, r.x_after); x_after = omega (arith, r.x_after); y_before = omega (arith, r.y_after); y_after = omega (arith, r.y_after); z_before = omega (arith, r.z_after); z_after = omega (arith, r.z_after) }))

  first_fits : fits m s first ≡ true
  first_fits = rw first_is (fits_number m s m.x.before m.y.before m.z.before (somewhere_at m s some))

  between : (c : ℕ) → fits m s c ≡ true → (first ≤ c) × (c ≤ last)
  between c e =
      let r = fits_at m s c e in (
        subst (λ k. first ≤ k) (number_of s c) (rw first_is (number-le s m.x.before m.y.before m.z.before (x_of s c) (y_of s c) (z_of s c) r.x_before r.y_before r.z_before)),
        subst (λ k. k ≤ last) (number_of s c) (rw last_is (number-le s (x_of s c) (y_of s c) (z_of s c) (s.nx - 1 - m.x.after) (s.ny - 1 - m.y.after) (s.nz - 1 - m.z.after) (omega (arith, r.x_after)) (omega (arith, r.y_after)) (omega (arith, r.z_after)))),
      )

  pub spans : last < cells_of s → IsSpan (fits m s) (cells_of s) first (last - first + 1)
  spans below = record {
    within = omega (arith, first-le-last);
    begins = λ _. first_fits;
    ends = λ l is _. subst (λ k. fits m s k ≡ true) (omega (arith, first-le-last)) last_fits;
    whole = λ c _ e. let b = between c e in (b.0, omega (arith, b.1, first-le-last));
  }
