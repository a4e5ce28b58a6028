-- The keys of the candidates, one vector after another.
use Rattle.std.proofs.Common.{◌≡◌, ℕ, ◌+◌, ◌*◌, true, false, cond, List, [], ◌∷◌, ◌++◌, map, filter, refl, ap, sym, ◌∙◌, arith}
use Rattle.std.specs.List.{range_with_len, flat_map}
use Rattle.std.proofs.lemmas.List.{map-append, append_assoc, append-nil}
use Rattle.std.proofs.lemmas.List.FromFn.{map-range_with_len_more}
use Rattle.std.proofs.lemmas.List.Elements.{filter-append}
use Rattle.mp_base.specs.declared.cell.Vector.{Vector}
use Rattle.mp_base.proofs.Ranges.{range_more}
use Rattle.template_order.specs.Template.{Radii, vector, offset, offsets, box, is_candidate}
use Rattle.template_order.specs.Keys.{Key, row, plane, planes, key_of, keys_of}

module _ (r : Radii) where
  pub keys_of-append : (xs ys : List Vector) → keys_of r (xs ++ ys) ≡ keys_of r xs ++ keys_of r ys
  unfolding keys_of
  keys_of-append xs ys = ap (map (key_of r)) (filter-append (is_candidate r) xs ys) ∙ map-append (key_of r) (filter (is_candidate r) xs) (filter (is_candidate r) ys)

  pub keys_of_yes : (v : Vector) → is_candidate r v ≡ true → keys_of r (v ∷ []) ≡ key_of r v ∷ []
  unfolding keys_of
  keys_of_yes v is = ap (λ b. map (key_of r) (cond b (v ∷ []) [])) is

  pub keys_of_no : (v : Vector) → is_candidate r v ≡ false → keys_of r (v ∷ []) ≡ []
  unfolding keys_of
  keys_of_no v is = ap (λ b. map (key_of r) (cond b (v ∷ []) [])) is

  pub keys_of_none : keys_of r [] ≡ []
  unfolding keys_of
  keys_of_none = refl

  -- the keys so far, and those of one part more
  pub keys_next : (start : List Key) (so_far part whole : List Vector) → so_far ++ part ≡ whole → (start ++ keys_of r so_far) ++ keys_of r part ≡ start ++ keys_of r whole
  keys_next start so_far part whole is =
      append_assoc start (keys_of r so_far) (keys_of r part)
      ∙ ap (λ (l : List Key). start ++ l) (sym (keys_of-append so_far part) ∙ ap (keys_of r) is)

  pub row_more : (i j n : ℕ) → row r i j n ++ vector (offset r.x n) (offset r.y j) (offset r.z i) ∷ [] ≡ row r i j (n + 1)
  row_more i j n = sym (map-range_with_len_more (λ k. vector (offset r.x k) (offset r.y j) (offset r.z i)) 0 n n (omega arith))

  flat_map-push : (f : ℕ → List Vector) (xs : List ℕ) (x : ℕ) → flat_map f xs ++ f x ≡ flat_map f (xs ++ x ∷ [])
  flat_map-push f [] x = sym (append-nil (f x))
  flat_map-push f (w ∷ xs) x = append_assoc (f w) (flat_map f xs) (f x) ∙ ap (λ (l : List Vector). f w ++ l) (flat_map-push f xs x)

  pub plane_more : (i n : ℕ) → plane r i n ++ row r i n (2 * r.x + 1) ≡ plane r i (n + 1)
  plane_more i n = flat_map-push (λ j. row r i j (2 * r.x + 1)) (range_with_len 0 n) n ∙ ap (flat_map (λ j. row r i j (2 * r.x + 1))) (sym (range_more n))

  pub planes_more : (n : ℕ) → planes r n ++ plane r n (2 * r.y + 1) ≡ planes r (n + 1)
  planes_more n = flat_map-push (λ i. plane r i (2 * r.y + 1)) (range_with_len 0 n) n ∙ ap (flat_map (λ i. plane r i (2 * r.y + 1))) (sym (range_more n))

  flat_map-map : {X Y : Type 0} (f : Y → List Vector) (h : X → List Vector) (g : X → Y) → ((x : X) → f (g x) ≡ h x) → (xs : List X) → flat_map f (map g xs) ≡ flat_map h xs
  flat_map-map f h g same [] = refl
  flat_map-map f h g same (x ∷ xs) = ap (λ l. l ++ flat_map f (map g xs)) (same x) ∙ ap (λ l. h x ++ l) (flat_map-map f h g same xs)

  map-map : {X Y : Type 0} (f : Y → Vector) (g : X → Y) → (xs : List X) → map f (map g xs) ≡ map (λ x. f (g x)) xs
  map-map f g [] = refl
  map-map f g (x ∷ xs) = ap (λ l. f (g x) ∷ l) (map-map f g xs)

  -- the box is its planes
  pub box_is : box r ≡ planes r (2 * r.z + 1)
  box_is =
      flat_map-map
      (λ z. flat_map (λ y. map (λ x. vector x y z) (offsets r.x)) (offsets r.y))
      (λ i. plane r i (2 * r.y + 1))
      (offset r.z)
      (λ i. flat_map-map
      (λ y. map (λ x. vector x y (offset r.z i)) (offsets r.x))
      (λ j. row r i j (2 * r.x + 1))
      (offset r.y)
      (λ j. map-map (λ x. vector x (offset r.y j) (offset r.z i)) (offset r.x) (range_with_len 0 (2 * r.x + 1)))
      (range_with_len 0 (2 * r.y + 1)))
      (range_with_len 0 (2 * r.z + 1))
