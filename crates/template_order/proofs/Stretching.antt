-- A vector, so many times as long.
use Rattle.std.proofs.Common.{◌≡◌, ◌≢◌, ℕ, zero, suc, ◌*◌, ◌<◌, ◌≤◌, ℤ, pos, negsuc, ◌*ℤ◌, neg_ℤ, nat_abs, to_z, of_z, w32, map, length, get_or, true, false, refl, ap, sym, subst, ◌∙◌, arith}
use Rattle.std.specs.List.{All}
use Rattle.std.specs.Prelude.{FitsSigned}
use Rattle.std.proofs.lemmas.Int.{to_z-of_z, to_z_pos}
use Rattle.std.proofs.lemmas.Nat.{mul-le}
use Rattle.std.proofs.Math.Nat.{le_of_mul-le-mul_left, one-le-mul}
use Rattle.std.proofs.lemmas.List.{length-map, get_or-map}
use Rattle.std.proofs.lemmas.List.Elements.{All-map, All-weaker}
use Rattle.mp_base.specs.declared.cell.Vector.{Vector}
use Rattle.template_order.specs.Template.{TemplateOf, IsTemplate, IsWithin, LeavesCell, longest_offset, times, vector}

nat_abs-neg : (m : ℕ) → nat_abs (neg_ℤ (pos m)) ≡ m
nat_abs-neg zero = refl
nat_abs-neg (suc m) = refl

pub nat_abs-times : (f : ℕ) (x : ℤ) → nat_abs (pos f *ℤ x) ≡ f * nat_abs x
nat_abs-times f (pos n) = refl
nat_abs-times f (negsuc n) = nat_abs-neg (f * suc n)

small_fits : (z : ℤ) → nat_abs z ≤ 8192 → FitsSigned w32 z
small_fits (pos n) small = record { sfits = omega (arith, small) }
small_fits (negsuc n) small = record { sfits = omega (arith, small) }

pub offset_times : (f : ℕ) (x : ℤ) → f ≤ 128 → nat_abs x ≤ 64 → to_z w32 (of_z w32 (to_z w32 f *ℤ to_z w32 (of_z w32 x))) ≡ pos f *ℤ x
offset_times f x few near =
    let here : to_z w32 f ≡ pos f = to_z_pos w32 f (omega (arith, few)) in
    let there : to_z w32 (of_z w32 x) ≡ x = to_z-of_z w32 x (small_fits x (omega (arith, near))) in
    ap (λ y. to_z w32 (of_z w32 (y *ℤ to_z w32 (of_z w32 x)))) here
    ∙ ap (λ y. to_z w32 (of_z w32 (pos f *ℤ y))) there
    ∙ to_z-of_z w32 (pos f *ℤ x) (small_fits (pos f *ℤ x) (omega (arith, nat_abs-times f x, mul-le f (nat_abs x) 128 64 few near)))

same_size : (f m n : ℕ) → 1 ≤ f → f * m ≡ f * n → m ≡ n
same_size f m n some e =
    let up : m ≤ n = le_of_mul-le-mul_left {m = m} {n = n} {k = f} (omega (arith, e)) some in
    let down : n ≤ m = le_of_mul-le-mul_left {m = n} {n = m} {k = f} (omega (arith, e)) some in
    omega arith

pos-neg : (a k : ℕ) → 1 ≤ k → pos a ≢ neg_ℤ (pos k)
pos-neg a zero some e = absurd (omega arith)
pos-neg a (suc k) some e = cc

opposed : (f m n : ℕ) → 1 ≤ f → pos (f * m) ≢ neg_ℤ (pos (f * suc n))
opposed f m n some e = pos-neg (f * m) (f * suc n) (one-le-mul some (omega arith)) e

pub times-apart : (f : ℕ) (x y : ℤ) → 1 ≤ f → pos f *ℤ x ≡ pos f *ℤ y → x ≡ y
times-apart f (pos m) (pos n) some e = ap pos (same_size f m n some (ap nat_abs e))
times-apart f (pos m) (negsuc n) some e = absurd (opposed f m n some e)
times-apart f (negsuc m) (pos n) some e = absurd (opposed f n m some (sym e))
times-apart f (negsuc m) (negsuc n) some e = ap (λ k. neg_ℤ (pos k)) (same_size f (suc m) (suc n) some (sym (nat_abs-neg (f * suc m)) ∙ ap nat_abs e ∙ nat_abs-neg (f * suc n)))

pub vector_same : (v w : Vector) → v.dx ≡ w.dx → v.dy ≡ w.dy → v.dz ≡ w.dz → v ≡ w
vector_same v w x y z = ap (λ d. vector d v.dy v.dz) x ∙ ap (λ d. vector w.dx d v.dz) y ∙ ap (λ d. vector w.dx w.dy d) z

further : (f : ℕ) (v : Vector) → f ≤ 128 → IsWithin 64 v → IsWithin (64 * 128) (times f v)
further f v few near = record {
  x = omega (arith, nat_abs-times f v.dx, mul-le f (nat_abs v.dx) 128 64 few near.x);
  y = omega (arith, nat_abs-times f v.dy, mul-le f (nat_abs v.dy) 128 64 few near.y);
  z = omega (arith, nat_abs-times f v.dz, mul-le f (nat_abs v.dz) 128 64 few near.z);
}

still_leaves : (f : ℕ) (v : Vector) → 1 ≤ f → LeavesCell v → LeavesCell (times f v)
still_leaves f v some leaves = omega (
  arith,
  leaves,
  nat_abs-times f v.dx,
  nat_abs-times f v.dy,
  nat_abs-times f v.dz,
  mul-le 1 (nat_abs v.dx) f (nat_abs v.dx) some (omega arith),
  mul-le 1 (nat_abs v.dy) f (nat_abs v.dy) some (omega arith),
  mul-le 1 (nat_abs v.dz) f (nat_abs v.dz) some (omega arith),
)

times_same : (f : ℕ) (v w : Vector) → 1 ≤ f → times f v ≡ times f w → v ≡ w
times_same f v w some e =
    vector_same v w
    (times-apart f v.dx w.dx some (ap (λ (u : Vector). u.dx) e))
    (times-apart f v.dy w.dy some (ap (λ (u : Vector). u.dy) e))
    (times-apart f v.dz w.dz some (ap (λ (u : Vector). u.dz) e))

-- a template that was stretched is one again
pub stretched_facts : (f : ℕ) (t : TemplateOf) → t.stretched ≡ false → 1 ≤ f → f ≤ 128 → IsTemplate t → IsTemplate (record { vectors = map (times f) t.vectors; stretched = true })
stretched_facts f t whole some few facts = record {
  few = omega (arith, facts.few, length-map t.vectors (times f));
  near =
      let near : All (IsWithin 64) t.vectors = subst (λ b. All (IsWithin (longest_offset b)) t.vectors) whole facts.near in
      All-map (IsWithin (64 * 128)) (times f) t.vectors (All-weaker (IsWithin 64) (λ v. IsWithin (64 * 128) (times f v)) (λ v. further f v few) t.vectors near);
  leave = All-map LeavesCell (times f) t.vectors (All-weaker LeavesCell (λ v. LeavesCell (times f v)) (λ v. still_leaves f v some) t.vectors facts.leave);
  apart = λ i j d before within e.
      let in_all : j < length t.vectors = omega (arith, within, length-map t.vectors (times f)) in
      facts.apart i j d before in_all (times_same f (get_or t.vectors i d) (get_or t.vectors j d) some (sym (get_or-map (times f) t.vectors i d d (omega arith)) ∙ e ∙ get_or-map (times f) t.vectors j d d in_all));
}
