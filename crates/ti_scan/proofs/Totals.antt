-- The empty event has all eroded positions as its replicates.
use Rattle.std.proofs.Common.{◌≡◌, ℕ, ◌<◌, Bool, true, false, cond, ◌&&◌, List, [], ◌∷◌, length, filter, Option, Some, None, is_some, refl, ap, ◌∙◌}
use Rattle.std.specs.List.{range_with_len, sum}
use Rattle.std.proofs.lemmas.Bool.{false≢true}
use Rattle.mp_base.specs.Grid.{cat_of, IsBelow, cells_of}
use Rattle.mp_base.specs.Counts.{tally}
use Rattle.mp_base.proofs.Tallies.{Each, sum-tally_is, cat_of-below}
use Rattle.ti_scan.specs.Eroded.{positions_of, is_eroded}
use Rattle.ti_scan.specs.Event.{Source, IsSource, tallied, total_of}

all_pass : (xs : List ℕ) → filter (λ (c : ℕ). true) xs ≡ xs
all_pass [] = refl
all_pass (x ∷ xs) = ap (λ (l : List ℕ). x ∷ l) (all_pass xs)

first_true : (a b : Bool) → (a && b) ≡ true → a ≡ true
first_true true b e = refl
first_true false b e = absurd (false≢true e)

module _ (s : Source) (is : IsSource s) where
  some_below : (v : Option ℕ) → is_some v ≡ true → IsBelow s.cats v → (k : ℕ) × (v ≡ Some k) × (k < s.cats)
  some_below None e below = absurd (false≢true e)
  some_below (Some k) e below = (k, refl, below)

  each-step : (b : Bool) (x : ℕ) (xs : List ℕ) → (b ≡ true → (k : ℕ) × (cat_of s.image.cells x ≡ Some k) × (k < s.cats)) → Each (cat_of s.image.cells) s.cats xs → Each (cat_of s.image.cells) s.cats (cond b (x ∷ xs) xs)
  each-step true x xs here rest = (here refl, rest)
  each-step false x xs here rest = rest

  each : (cells : List ℕ) → Each (cat_of s.image.cells) s.cats (filter (is_eroded s.image s.template) cells)
  each [] = tt
  each (x ∷ cells) =
      each-step (is_eroded s.image s.template x) x (filter (is_eroded s.image s.template) cells)
      (λ e. some_below (cat_of s.image.cells x) (first_true (is_some (cat_of s.image.cells x)) _ e) (cat_of-below s.cats s.image.cells x is.below)) (each cells)

  pub total-empty : total_of s [] ≡ length (positions_of s.image s.template)
  unfolding tallied
  total-empty =
      ap (λ (l : List ℕ). sum (tally (cat_of s.image.cells) s.cats l)) (all_pass (positions_of s.image s.template))
      ∙ sum-tally_is (cat_of s.image.cells) s.cats (positions_of s.image s.template) (each (range_with_len 0 (cells_of s.image.sides)))
