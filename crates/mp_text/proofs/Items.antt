-- Items of a list, by what stands from a place on.
use Rattle.std.proofs.Common.{◌≡◌, ℕ, zero, suc, ◌≤◌, ltb, List, [], ◌∷◌, length, drop, Some, None, ap, sym, ◌∙◌, arith}
use Rattle.std.specs.List.{slice_get}
use Rattle.std.specs.Option.{is_some}
use Rattle.std.proofs.lemmas.Option.{slice_get_past}
use Rattle.std.proofs.lemmas.List.{length-drop}
use Rattle.std.proofs.lemmas.Bool.Decides.{nat_tests}

nil_cons : {X : Type 0} {x : X} {xs : List X} → [] ≡ x ∷ xs → ⊥
nil_cons e = cc e

-- where nothing stands from a place on, there is no item at it or behind it
pub slice_get_over : {X : Type 0} (xs : List X) (n k : ℕ) → drop n xs ≡ [] → n ≤ k → slice_get xs k ≡ None
slice_get_over xs n k over behind = slice_get_past xs k (omega (arith, length-drop n xs, ap length over))

-- the item at a place stands first from there on
pub slice_get_at : {X : Type 0} (xs : List X) (n : ℕ) (x : X) (rest : List X) → drop n xs ≡ x ∷ rest → slice_get xs n ≡ Some x
slice_get_at [] zero x rest at = absurd (nil_cons at)
slice_get_at [] (suc n) x rest at = absurd (nil_cons at)
slice_get_at (y ∷ xs) zero x rest at = ap (λ ys. slice_get ys 0) at
slice_get_at (y ∷ xs) (suc n) x rest at = slice_get_at xs n x rest at

-- what stands behind it
pub drop_next : {X : Type 0} (xs : List X) (n : ℕ) (x : X) (rest : List X) → drop n xs ≡ x ∷ rest → drop (suc n) xs ≡ rest
drop_next [] zero x rest at = absurd (nil_cons at)
drop_next [] (suc n) x rest at = absurd (nil_cons at)
drop_next (y ∷ xs) zero x rest at = ap (λ ys. drop 1 ys) at
drop_next (y ∷ xs) (suc n) x rest at = drop_next xs n x rest at

-- whether there is an item
pub is_some_slice_get : {X : Type 0} (xs : List X) (n : ℕ) → is_some (slice_get xs n) ≡ ltb n (length xs)
is_some_slice_get [] n = sym (grind (arith, nat_tests))
is_some_slice_get (x ∷ xs) zero = sym (grind (arith, nat_tests))
is_some_slice_get (x ∷ xs) (suc n) = is_some_slice_get xs n ∙ grind (arith, nat_tests)
