-- Texts in a row, with single spaces.
use Rattle.std.specs.Prelude.{ℕ, List, [], ◌∷◌, ◌++◌, flat_map}

-- each behind a space
abbrev pub behind_spaces : {X : Type 0} → (X → List ℕ) → List X → List ℕ
behind_spaces text xs = flat_map (λ x. 32 ∷ text x) xs

-- with a space between each two
abbrev pub spaced : {X : Type 0} → (X → List ℕ) → List X → List ℕ
spaced text [] = []
spaced text (x ∷ xs) = text x ++ behind_spaces text xs
