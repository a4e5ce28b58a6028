-- The vectors of a box differ.
use Rattle.std.proofs.Common.{◌≡◌, ℕ, zero, suc, ◌+◌, ◌*◌, ◌≤◌, ◌<◌, ℤ, Bool, true, false, ◌&&◌, cond, List, [], ◌∷◌, map, refl, ap, sym, ◌∙◌, arith}
use Rattle.std.specs.List.{count_by, sum_by, range_with_len, flat_map}
use Rattle.std.specs.Ordering.{int_eq}
use Rattle.std.proofs.lemmas.Bool.{false≢true}
use Rattle.std.proofs.lemmas.Bool.Decides.{nat_tests}
use Rattle.std.proofs.lemmas.Int.{ints}
use Rattle.std.proofs.lemmas.List.Sums.{sum_by-cons, sum_by-append}
use Rattle.mp_base.specs.declared.cell.Vector.{Vector}
use Rattle.template_order.specs.Template.{Radii, vector, offset, box}
use Rattle.template_order.specs.Keys.{row, plane, planes}
use Rattle.template_order.proofs.Keys.{box_is}

module _ (f : ℕ → ℕ) (t : ℕ → Bool) (none : (k : ℕ) → t k ≡ false → f k ≡ 0) (one : (k : ℕ) → f k ≤ 1) (single : (k l : ℕ) → t k ≡ true → t l ≡ true → k ≡ l) where
  sum_none : (j a n : ℕ) → t j ≡ true → j < a → sum_by f (range_with_len a n) ≡ 0
  sum_none j a zero at later = refl
  sum_none j a (suc n) at later = omega (arith, sum_by-cons f a (range_with_len (a + 1) n), here (t a) refl, sum_none j (a + 1) n at (omega arith))
    where
      here : (b : Bool) → t a ≡ b → f a ≡ 0
      here true e = absurd (omega (arith, single j a at e))
      here false e = none a e

  pub sum_once : (a n : ℕ) → sum_by f (range_with_len a n) ≤ 1
  sum_once a zero = omega arith
  sum_once a (suc n) = go (t a) refl (sum_once (a + 1) n)
    where
      go : (b : Bool) → t a ≡ b → sum_by f (range_with_len (a + 1) n) ≤ 1 → sum_by f (range_with_len a (suc n)) ≤ 1
      go true e rest = omega (arith, sum_by-cons f a (range_with_len (a + 1) n), one a, sum_none a (a + 1) n e (omega arith))
      go false e rest = omega (arith, sum_by-cons f a (range_with_len (a + 1) n), none a e, rest)

sum_by-flat_map : {X : Type 0} (f : X → ℕ) (g : ℕ → List X) (ks : List ℕ) → sum_by f (flat_map g ks) ≡ sum_by (λ k. sum_by f (g k)) ks
sum_by-flat_map f g [] = refl
sum_by-flat_map f g (k ∷ ks) = omega (arith, sum_by-append f (g k) (flat_map g ks), sum_by-flat_map f g ks, sum_by-cons (λ k. sum_by f (g k)) k ks)

sum_by-of_map : {X : Type 0} (f : X → ℕ) (g : ℕ → X) (ks : List ℕ) → sum_by f (map g ks) ≡ sum_by (λ k. f (g k)) ks
sum_by-of_map f g [] = refl
sum_by-of_map f g (k ∷ ks) = omega (arith, sum_by-cons f (g k) (map g ks), sum_by-of_map f g ks, sum_by-cons (λ k. f (g k)) k ks)

sum_by-nothing : (f : ℕ → ℕ) → ((k : ℕ) → f k ≡ 0) → (ks : List ℕ) → sum_by f ks ≡ 0
sum_by-nothing f none [] = refl
sum_by-nothing f none (k ∷ ks) = omega (arith, sum_by-cons f k ks, none k, sum_by-nothing f none ks)

abbrev bit : Bool → ℕ
bit b = cond b 1 0

abbrev pub is_same : Vector → Vector → Bool
is_same v w = int_eq w.dz v.dz && (int_eq w.dy v.dy && int_eq w.dx v.dx)

module _ (r : Radii) (v : Vector) where
  abbrev ones : Vector → ℕ
  ones w = cond (is_same v w) 1 0

  single : (q : ℕ) (d : ℤ) (k l : ℕ) → int_eq (offset q k) d ≡ true → int_eq (offset q l) d ≡ true → k ≡ l
  single q d k l a b = grind (arith, ints, nat_tests)

  cell : (a b c : Bool) → (c ≡ false → bit (a && (b && c)) ≡ zero) × (b ≡ false → bit (a && (b && c)) ≡ zero) × (a ≡ false → bit (a && (b && c)) ≡ zero) × (bit (a && (b && c)) ≤ 1)
  cell true true true = (λ e. absurd (false≢true (sym e)), λ e. absurd (false≢true (sym e)), λ e. absurd (false≢true (sym e)), omega arith)
  cell true true false = (λ e. refl, λ e. refl, λ e. refl, omega arith)
  cell true false c = (λ e. refl, λ e. refl, λ e. refl, omega arith)
  cell false b c = (λ e. refl, λ e. refl, λ e. refl, omega arith)

  in_row : (i j n : ℕ) → sum_by ones (row r i j n) ≤ 1
  in_row i j n = omega (
    arith,
    sum_by-of_map ones (λ k. vector (offset r.x k) (offset r.y j) (offset r.z i)) (range_with_len 0 n),
    sum_once
        (λ k. ones (vector (offset r.x k) (offset r.y j) (offset r.z i)))
        (λ k. int_eq (offset r.x k) v.dx)
        (λ k. (cell (int_eq (offset r.z i) v.dz) (int_eq (offset r.y j) v.dy) (int_eq (offset r.x k) v.dx)).0)
        (λ k. (cell (int_eq (offset r.z i) v.dz) (int_eq (offset r.y j) v.dy) (int_eq (offset r.x k) v.dx)).3)
        (single r.x v.dx) 0 n,
  )

  row_other : (i j n : ℕ) → int_eq (offset r.y j) v.dy ≡ false → sum_by ones (row r i j n) ≡ 0
  row_other i j n other = sum_by-of_map ones (λ k. vector (offset r.x k) (offset r.y j) (offset r.z i)) (range_with_len 0 n) ∙ sum_by-nothing _ (λ k. (cell (int_eq (offset r.z i) v.dz) (int_eq (offset r.y j) v.dy) (int_eq (offset r.x k) v.dx)).1 other) (range_with_len 0 n)

  row_apart : (i j n : ℕ) → int_eq (offset r.z i) v.dz ≡ false → sum_by ones (row r i j n) ≡ 0
  row_apart i j n other = sum_by-of_map ones (λ k. vector (offset r.x k) (offset r.y j) (offset r.z i)) (range_with_len 0 n) ∙ sum_by-nothing _ (λ k. (cell (int_eq (offset r.z i) v.dz) (int_eq (offset r.y j) v.dy) (int_eq (offset r.x k) v.dx)).2 other) (range_with_len 0 n)

  in_plane : (i n : ℕ) → sum_by ones (plane r i n) ≤ 1
  in_plane i n = omega (
    arith,
    sum_by-flat_map ones (λ j. row r i j (2 * r.x + 1)) (range_with_len 0 n),
    sum_once
        (λ j. sum_by ones (row r i j (2 * r.x + 1)))
        (λ j. int_eq (offset r.y j) v.dy)
        (λ j. row_other i j (2 * r.x + 1))
        (λ j. in_row i j (2 * r.x + 1))
        (single r.y v.dy) 0 n,
  )

  plane_other : (i n : ℕ) → int_eq (offset r.z i) v.dz ≡ false → sum_by ones (plane r i n) ≡ 0
  plane_other i n other = sum_by-flat_map ones (λ j. row r i j (2 * r.x + 1)) (range_with_len 0 n) ∙ sum_by-nothing _ (λ j. row_apart i j (2 * r.x + 1) other) (range_with_len 0 n)

  in_planes : (n : ℕ) → count_by (is_same v) (planes r n) ≤ 1
  in_planes n = omega (
    arith,
    sum_by-flat_map ones (λ i. plane r i (2 * r.y + 1)) (range_with_len 0 n),
    sum_once
        (λ i. sum_by ones (plane r i (2 * r.y + 1)))
        (λ i. int_eq (offset r.z i) v.dz)
        (λ i. plane_other i (2 * r.y + 1))
        (λ i. in_plane i (2 * r.y + 1))
        (single r.z v.dz) 0 n,
  )

  -- a vector is one of the box once at most
  pub in_box : count_by (is_same v) (box r) ≤ 1
  in_box = omega (arith, in_planes (2 * r.z + 1), ap (count_by (is_same v)) (box_is r))
