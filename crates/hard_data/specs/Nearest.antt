-- The nearest of some items, by a distance of each.
use Rattle.std.specs.Prelude.{ℕ, nat_le, if◌then◌else◌, List, find, Option, Some, None}
use Rattle.std.specs.List.{list_all}

-- the first of these items, of which none has a smaller distance
unfoldable pub first_nearest : {X : Type 0} → (X → ℕ) → List X → Option X
first_nearest distance items = find (λ a. list_all (λ b. nat_le (distance a) (distance b)) items) items

-- of the one that is kept and the one that comes, the nearer one, and the kept one where they are equally near
abbrev pub nearer_of : {X : Type 0} → (X → ℕ) → Option X → X → X
nearer_of distance None b = b
nearer_of distance (Some a) b = if nat_le (distance a) (distance b) then a else b
