-- The one vector from a cell to another, and the one template position at which a cell lies.
use Rattle.std.proofs.Common.{◌≡◌, ◌↔◌, ℕ, zero, suc, ◌+◌, ◌-◌, ◌<◌, ◌≤◌, ℤ, pos, negsuc, ◌-ℤ◌, Bool, true, false, Option, Some, None, option_map, slice_get, refl, ap, sym, ◌∙◌, arith}
use Rattle.std.specs.Option.{option_and_then}
use Rattle.std.proofs.lemmas.Bool.Decides.{nat_tests}
use Rattle.std.proofs.lemmas.Int.{ints}
use Rattle.mp_base.specs.declared.cell.Vector.{Vector}
use Rattle.mp_base.specs.Grid.{Sides, IsShape, cells_of, cell_number, cell_at, moved, x_of, y_of, z_of}
use Rattle.template_order.specs.Template.{TemplateOf, vector_at}
use Rattle.ti_scan.proofs.Shifting.{place_of, x_of-below, y_of-below, z_of-below}
use Rattle.ti_scan.proofs.Spans.{number_of, x_of-number, y_of-number, z_of-number}
use Rattle.event_retrieve.specs.declared.offer.Offer.{Offer}
use Rattle.event_retrieve.specs.Around.{vector_between}
use Rattle.event_retrieve.specs.Plan.{Plan, cell_of, cell_at_position}
use Rattle.event_retrieve.specs.Offer.{missed_at, is_missed, has_position}
use Rattle.event_retrieve.proofs.First.{find_is_none, find_is_some}
use Rattle.event_retrieve.proofs.Fronts.{none_some, some_same}
use Rattle.event_retrieve.proofs.Stale.{missed_if, if_missed}

-- the offset from one coordinate to another leads there
moved_there : (n x y : ℕ) (d : ℤ) → d ≡ pos y -ℤ pos x → y < n → moved n x d ≡ Some y
moved_there n x y (pos d) is below = let sum : x + d ≡ y = omega (arith, ints) in grind (arith, nat_tests)
moved_there n x y (negsuc d) is below = let sum : y + suc d ≡ x = omega (arith, ints) in grind (arith, nat_tests)

-- no other does
there : (n x : ℕ) (d : ℤ) (y : ℕ) → x < n → moved n x d ≡ Some y → (y < n) × (d ≡ pos y -ℤ pos x)
there n x (pos d) y below at =
    let less : y < n = grind (arith, nat_tests) in
    let sum : x + d ≡ y = grind (arith, nat_tests) in
    (less, omega (arith, ints))
there n x (negsuc d) y below at =
    let less : y < n = grind (arith, nat_tests) in
    let sum : y + suc d ≡ x = grind (arith, nat_tests) in
    (less, omega (arith, ints))

same_vectors : (v w : Vector) → v.dx ≡ w.dx → v.dy ≡ w.dy → v.dz ≡ w.dz → v ≡ w
same_vectors v w dx dy dz =
    ap (λ (d : ℤ). record { dx = d; dy = v.dy; dz = v.dz }) dx ∙ (ap (λ (d : ℤ). record { dx = w.dx; dy = d; dz = v.dz }) dy ∙ ap (λ (d : ℤ). record { dx = w.dx; dy = w.dy; dz = d }) dz)

-- the only vector that leads from one cell to another
module _ (s : Sides) (shape : IsShape s) (a b : ℕ) (in_a : a < cells_of s) (in_b : b < cells_of s) where
  pub leads_there : cell_at s a (vector_between s a b) ≡ Some b
  unfolding cell_at
  leads_there =
      let at_x = moved_there s.nx (x_of s a) (x_of s b) (pos (x_of s b) -ℤ pos (x_of s a)) refl (x_of-below s b shape) in
      let at_y = moved_there s.ny (y_of s a) (y_of s b) (pos (y_of s b) -ℤ pos (y_of s a)) refl (y_of-below s b shape) in
      let at_z = moved_there s.nz (z_of s a) (z_of s b) (pos (z_of s b) -ℤ pos (z_of s a)) refl (z_of-below s b in_b) in
      ap
      (option_and_then (λ x. option_and_then (λ y. option_map (λ z. cell_number s x y z) (moved s.nz (z_of s a) (pos (z_of s b) -ℤ pos (z_of s a)))) (moved s.ny (y_of s a) (pos (y_of s b) -ℤ pos (y_of s a)))))
      at_x
      ∙ ap (option_and_then (λ y. option_map (λ z. cell_number s (x_of s b) y z) (moved s.nz (z_of s a) (pos (z_of s b) -ℤ pos (z_of s a))))) at_y
      ∙ ap (option_map (λ z. cell_number s (x_of s b) (y_of s b) z)) at_z ∙ ap (λ (n : ℕ). Some n) (number_of s b)

  pub only_there : (v : Vector) → cell_at s a v ≡ Some b → v ≡ vector_between s a b
  only_there v at =
      let p = place_of s a v b at in
      let in_x = there s.nx (x_of s a) v.dx p.at_x (x_of-below s a shape) p.x_is in
      let in_y = there s.ny (y_of s a) v.dy p.at_y (y_of-below s a shape) p.y_is in
      let in_z = there s.nz (z_of s a) v.dz p.at_z (z_of-below s a in_a) p.z_is in
      let x_is : x_of s b ≡ p.at_x = ap (x_of s) p.cell_is ∙ x_of-number s p.at_x p.at_y p.at_z in_x.0 in
      let y_is : y_of s b ≡ p.at_y = ap (y_of s) p.cell_is ∙ y_of-number s p.at_x p.at_y p.at_z in_x.0 in_y.0 in
      let z_is : z_of s b ≡ p.at_z = ap (z_of s) p.cell_is ∙ z_of-number s p.at_x p.at_y p.at_z in_x.0 in_y.0 in
      let dx : v.dx ≡ pos (x_of s b) -ℤ pos (x_of s a) = in_x.1 ∙ ap (λ n. pos n -ℤ pos (x_of s a)) (sym x_is) in
      let dy : v.dy ≡ pos (y_of s b) -ℤ pos (y_of s a) = in_y.1 ∙ ap (λ n. pos n -ℤ pos (y_of s a)) (sym y_is) in
      let dz : v.dz ≡ pos (z_of s b) -ℤ pos (z_of s a) = in_z.1 ∙ ap (λ n. pos n -ℤ pos (z_of s a)) (sym z_is) in
      same_vectors v (vector_between s a b) dx dy dz

-- a cell lies at a template position of a path node exactly where the vector to it stands there
pub position_of_vector : (p : Plan) (i c q : ℕ) (t : TemplateOf) → IsShape p.start.sides → cell_of p i < cells_of p.start.sides → c < cells_of p.start.sides → t.vectors ≡ p.source.template → (vector_at t q ≡ Some (vector_between p.start.sides (cell_of p i) c)) ↔ ((1 ≤ q) × (cell_at_position p i q ≡ Some c))
position_of_vector p i c zero t shape in_node in_cell same = (λ none. absurd (none_vector none), λ some. absurd (omega (arith, some.0)))
  where
    none_vector : None ≡ Some (vector_between p.start.sides (cell_of p i) c) → ⊥
    none_vector e = cc
position_of_vector p i c (suc q) t shape in_node in_cell same = (
  λ stands. (omega arith, cell_is ∙ ap (option_and_then (cell_at p.start.sides (cell_of p i))) (sym at ∙ stands) ∙ leads_there p.start.sides shape (cell_of p i) c in_node in_cell),
  λ lies. at ∙ vector_is (slice_get p.source.template q) (sym cell_is ∙ lies.1),
)
  where
    less : suc q - 1 ≡ q
    less = omega arith

    cell_is : cell_at_position p i (suc q) ≡ option_and_then (cell_at p.start.sides (cell_of p i)) (slice_get p.source.template q)
    cell_is = ap (λ n. option_and_then (cell_at p.start.sides (cell_of p i)) (slice_get p.source.template n)) less

    at : slice_get t.vectors q ≡ slice_get p.source.template q
    at = ap (λ l. slice_get l q) same

    vector_is : (v : Option Vector) → option_and_then (cell_at p.start.sides (cell_of p i)) v ≡ Some c → v ≡ Some (vector_between p.start.sides (cell_of p i) c)
    vector_is None e = absurd (none_some c e)
    vector_is (Some v) e = ap (λ (x : Vector). Some x) (only_there p.start.sides shape (cell_of p i) c in_node in_cell v e)

-- r is the template position at which cell c lies
module _ (p : Plan) (o : Offer) (c : ℕ) (r : Option ℕ) (lies : (q : ℕ) → (r ≡ Some q) ↔ ((1 ≤ q) × (cell_at_position p o.index q ≡ Some c))) where
  not_missed : (q : ℕ) → 1 ≤ q → (r ≡ Some q → has_position o.event q ≡ false → ⊥) → is_missed p o.index o.event c q ≡ false
  not_missed q first never = go (is_missed p o.index o.event c q) refl
    where
      go : (b : Bool) → is_missed p o.index o.event c q ≡ b → b ≡ false
      go false e = refl
      go true e =
          let m = if_missed (cell_at_position p o.index q) c (has_position o.event q) e in
          absurd (never ((lies q).1 (first, m.0)) m.1)

  pub missed_nowhere : ((q : ℕ) → q ≤ o.retained.reach → r ≡ Some q → has_position o.event q ≡ false → ⊥) → missed_at p o c ≡ None
  missed_nowhere never = find_is_none (is_missed p o.index o.event c) 1 o.retained.reach (λ q low high. not_missed q low (never q (omega arith)))

  pub missed_here : (q : ℕ) → r ≡ Some q → q ≤ o.retained.reach → has_position o.event q ≡ false → missed_at p o c ≡ Some q
  missed_here q is within missing =
      let at = (lies q).0 is in
      find_is_some (is_missed p o.index o.event c) 1 o.retained.reach q
      (λ k low below. not_missed k low (λ found _. let same : k ≡ q = some_same k q (sym found ∙ is) in omega arith))
      at.0 (omega arith) (missed_if (cell_at_position p o.index q) c (has_position o.event q) at.1 missing)
