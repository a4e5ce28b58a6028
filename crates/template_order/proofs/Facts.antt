-- What the vectors of a template are like.
use Rattle.std.proofs.Common.{◌≡◌, ◌≢◌, ◌⊎◌, inl, inr, ℕ, zero, suc, ◌+◌, ◌*◌, ◌^◌, ◌<◌, ◌≤◌, nat_abs, true, false, nat_lt, nat_le, List, [], ◌∷◌, ◌++◌, map, length, get_or, refl, ap, sym, subst, ◌∙◌, arith}
use Rattle.std.specs.List.{All, AllPairs, flat_map, range_with_len}
use Rattle.std.proofs.lemmas.Bool.{false≢true, and_parts}
use Rattle.std.proofs.lemmas.Bool.Decides.{nat_tests}
use Rattle.std.proofs.lemmas.Int.{ints}
use Rattle.std.proofs.lemmas.List.{length-append, length-map, map-append, get_or_append_left}
use Rattle.std.proofs.lemmas.List.FromFn.{get_or-range_with_len, length-range_with_len}
use Rattle.std.proofs.Math.Nat.{zero-mul}
use Rattle.std.proofs.lemmas.List.Elements.{All-nil, All-append, All-head, All-tail, All-map, All-filter, All-weaker, filter_passes}
use Rattle.std.proofs.lemmas.List.Sorted.{All-permutation}
use Rattle.mp_base.specs.declared.cell.Vector.{Vector}
use Rattle.template_order.specs.Template.{Radii, IsSmall, IsWithin, IsTemplate, LeavesCell, vector, offset, offsets, box, half_axis, distance, is_candidate, candidates, is_before}
use Rattle.template_order.specs.Keys.{Key, key_of, vector_of, AreLeast}
use Rattle.template_order.proofs.Least.{all_sorted, all_same, rest}
use Rattle.template_order.proofs.Ranking.{IsStrict}
use Rattle.template_order.proofs.Strict.{strict}

All-flat_map : {X Y : Type 0} (Q : X → Type 0) (P : Y → Type 0) (f : X → List Y) → ((x : X) → Q x → All P (f x)) → (xs : List X) → All Q xs → All P (flat_map f xs)
All-flat_map Q P f each [] all = All-nil P
All-flat_map Q P f each (x ∷ xs) all = All-append P (f x) (flat_map f xs) (each x (All-head Q x xs all)) (All-flat_map Q P f each xs (All-tail Q x xs all))

in_range : (n : ℕ) → All (λ k. k < n) (range_with_len 0 n)
in_range n i d within =
    let below : i < n = omega (arith, within, length-range_with_len 0 n) in
    omega (arith, get_or-range_with_len 0 n i d below)

short : (r k : ℕ) → k < 2 * r + 1 → nat_abs (offset r k) ≤ r
short r k within = grind (arith, ints)

in_offsets : (r : ℕ) → All (λ d. nat_abs d ≤ r) (offsets r)
in_offsets r = All-map (λ d. nat_abs d ≤ r) (offset r) (range_with_len 0 (2 * r + 1)) (All-weaker (λ k. k < 2 * r + 1) (λ k. nat_abs (offset r k) ≤ r) (short r) (range_with_len 0 (2 * r + 1)) (in_range (2 * r + 1)))

in_box : (r : Radii) → IsSmall r → All (IsWithin 64) (box r)
in_box r small =
    All-flat_map (λ z. nat_abs z ≤ r.z) (IsWithin 64) (λ z. flat_map (λ y. map (λ x. vector x y z) (offsets r.x)) (offsets r.y)) (λ z in_z.
    All-flat_map (λ y. nat_abs y ≤ r.y) (IsWithin 64) (λ y. map (λ x. vector x y z) (offsets r.x)) (λ y in_y.
    All-map (IsWithin 64) (λ x. vector x y z) (offsets r.x) (
    All-weaker (λ x. nat_abs x ≤ r.x) (λ x. IsWithin 64 (vector x y z)) (λ x in_x. record { x = omega (arith, in_x, small.x); y = omega (arith, in_y, small.y); z = omega (arith, in_z, small.z) }) (offsets r.x) (in_offsets r.x)
    )) (offsets r.y) (in_offsets r.y)) (offsets r.z) (in_offsets r.z)

some_or_none : (n : ℕ) → (n ≡ 0) ⊎ (1 ≤ n)
some_or_none zero = inl refl
some_or_none (suc n) = inr (omega arith)

no_square : (a b c : ℕ) → a ≡ 0 → (a * b * c) ^ 2 ≡ 0
no_square a b c none = subst (λ m. (m * b * c) ^ 2 ≡ 0) (sym none) (ap (λ m. (m * c) ^ 2) (zero-mul b) ∙ ap (λ m. m ^ 2) (zero-mul c))

less : (n : ℕ) → nat_lt 0 n ≡ true → 1 ≤ n
less n e = grind (arith, nat_tests)

leaves : (r : Radii) (v : Vector) → is_candidate r v ≡ true → LeavesCell v
leaves r v is = go (some_or_none (nat_abs v.dx + nat_abs v.dy + nat_abs v.dz))
  where
    far : 1 ≤ distance r v
    far = less (distance r v) (and_parts (nat_lt 0 (distance r v)) (nat_le (distance r v) ((half_axis r.x * half_axis r.y * half_axis r.z) ^ 2)) is).0

    go : ((nat_abs v.dx + nat_abs v.dy + nat_abs v.dz ≡ 0) ⊎ (1 ≤ nat_abs v.dx + nat_abs v.dy + nat_abs v.dz)) → LeavesCell v
    go (inr some) = some
    go (inl none) = absurd (omega (
      arith,
      far,
      no_square (nat_abs v.dx) (half_axis r.y) (half_axis r.z) (omega (arith, none)),
      no_square (nat_abs v.dy) (half_axis r.x) (half_axis r.z) (omega (arith, none)),
      no_square (nat_abs v.dz) (half_axis r.x) (half_axis r.y) (omega (arith, none)),
    ))

module _ (r : Radii) (n : ℕ) (keys : List Key) (least : AreLeast n (map (key_of r) (candidates r)) keys) where
  -- what each candidate is, the template's vectors are
  each : (P : Vector → Type 0) → All P (candidates r) → All P (map vector_of keys)
  each P all = All-map P vector_of keys (λ i d within.
      let here = All-permutation (λ k. P (vector_of k)) (map (key_of r) (candidates r)) (keys ++ least.others) least.same (All-map (λ k. P (vector_of k)) (key_of r) (candidates r) all) i d (omega (arith, length-append keys least.others)) in
      subst (λ k. P (vector_of k)) (get_or_append_left keys least.others d i within) here)

  apart : AllPairs (λ v w. v ≢ w) (map vector_of keys)
  apart i j d before within same =
      let front = map vector_of keys in
      let back = map vector_of (rest r n keys least).0 in
      let in_order : IsStrict (is_before r) (front ++ back) =
      subst (IsStrict (is_before r)) (map-append vector_of keys (rest r n keys least).0) (strict r (keys ++ (rest r n keys least).0) (all_same r n keys least) (all_sorted r n keys least)) in
      let v = get_or (front ++ back) i d in
      let w = get_or (front ++ back) j d in
      let in_all : j < length (front ++ back) = omega (arith, within, length-append front back) in
      let equal : v ≡ w = get_or_append_left front back d i (omega arith) ∙ same ∙ sym (get_or_append_left front back d j within) in
      absurd (false≢true (sym (in_order.backwards j j d (omega arith) in_all) ∙ ap (λ u. is_before r u w) (sym equal) ∙ in_order.forwards i j d before in_all))

  pub template_facts : IsSmall r → n ≤ 64 → IsTemplate (record { vectors = map vector_of keys; stretched = false })
  unfolding candidates
  template_facts small few = record {
    few = omega (arith, few, least.order.few, length-map keys vector_of);
    near = each (IsWithin 64) (All-filter (is_candidate r) (IsWithin 64) (box r) (in_box r small));
    leave = each LeavesCell (All-weaker (λ v. is_candidate r v ≡ true) LeavesCell (leaves r) (candidates r) (filter_passes (is_candidate r) (box r)));
    apart = apart;
  }
