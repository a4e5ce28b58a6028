-- Helpers keep their numbers.
use Rattle.std.proofs.Common.{arith, ◌≡◌, ◌<◌, ◌∷◌, [], ◌∙◌, List, ℕ, get_or, length, map, refl, sym}
use Rattle.std.proofs.lemmas.Grind.{same_number_lists}
use Rattle.std.proofs.lemmas.List.{get_or-map, length-map}

-- what has the same number at each place has the same numbers
pub numbers_by_place :
    {A : Type 0} (f : A → ℕ) (xs ys : List A)
    → length ys ≡ length xs
    → ((k : ℕ) (d : A) → k < length xs → f (get_or ys k d) ≡ f (get_or xs k d))
    → map f ys ≡ map f xs
numbers_by_place f [] [] same each = refl
numbers_by_place f [] (y ∷ ys) same each = absurd (omega (arith, same))
numbers_by_place f (x ∷ xs) ys same each =
    same_number_lists (map f ys) (map f (x ∷ xs)) (length-map ys f ∙ same ∙ sym (length-map (x ∷ xs) f)) at
  where
    at : (k : ℕ) → k < length (map f ys) → get_or (map f ys) k 0 ≡ get_or (map f (x ∷ xs)) k 0
    at k below =
        let less : k < length ys = omega (arith, below, length-map ys f) in
        let less_too : k < length (x ∷ xs) = omega (arith, less, same) in
        get_or-map f ys k x 0 less ∙ each k x less_too ∙ sym (get_or-map f (x ∷ xs) k x 0 less_too)
