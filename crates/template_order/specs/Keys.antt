-- Candidates as the program sorts them, and the least of them.
use Rattle.std.specs.Prelude.{ℕ, ◌+◌, ◌*◌, ◌≤◌, ℤ, Bool, not, List, ◌++◌, length, map, filter, flat_map, count_by, All, IsPermutation, IsSorted}
use Rattle.std.specs.List.{range_with_len}
use Rattle.std.specs.declared.cmp.Ordering.{Ordering}
use Rattle.std.specs.Ordering.{is_lt, nat_cmp, int_cmp, ordering_then}
use Rattle.mp_base.specs.declared.cell.Vector.{Vector}
use Rattle.template_order.specs.Template.{Radii, vector, offset, distance, is_candidate}

-- the distance, z, y and x of a vector
abbrev pub Key : Type 0
Key = ℕ × ℤ × ℤ × ℤ

abbrev pub key_of : Radii → Vector → Key
key_of r v = (distance r v, v.dz, v.dy, v.dx)

abbrev pub vector_of : Key → Vector
vector_of k = vector k.3 k.2 k.1

abbrev pub key_cmp : Key → Key → Ordering
key_cmp a b = ordering_then (ordering_then (ordering_then (nat_cmp a.0 b.0) (int_cmp a.1 b.1)) (int_cmp a.2 b.2)) (int_cmp a.3 b.3)

-- the keys of the candidates among these vectors
unfoldable pub keys_of : Radii → List Vector → List Key
keys_of r vs = map (key_of r) (filter (is_candidate r) vs)

-- The vectors of the box, from the start: the first n of row j of plane i, the first n rows of plane i, and the first
-- n planes, all counted from 0.
abbrev pub row : Radii → ℕ → ℕ → ℕ → List Vector
row r i j n = map (λ k. vector (offset r.x k) (offset r.y j) (offset r.z i)) (range_with_len 0 n)

abbrev pub plane : Radii → ℕ → ℕ → List Vector
plane r i n = flat_map (λ j. row r i j (2 * r.x + 1)) (range_with_len 0 n)

abbrev pub planes : Radii → ℕ → List Vector
planes r n = flat_map (λ i. plane r i (2 * r.y + 1)) (range_with_len 0 n)

-- keys in order, and at most n
pub record IsShortOrder (n : ℕ) (keys : List Key) : Type 0 where
  pub sorted : IsSorted key_cmp keys
  pub few : length keys ≤ n

-- key k isn't after key r
abbrev pub is_up_to : Key → Key → Bool
is_up_to r k = not (is_lt (key_cmp r k))

-- the least n of all keys, in order: each of the others comes after n of them, or is equal
pub record AreLeast (n : ℕ) (all keys : List Key) : Type 0 where
  pub order : IsShortOrder n keys
  pub others : List Key
  pub same : IsPermutation all (keys ++ others)
  pub later : All (λ r. n ≤ count_by (is_up_to r) keys) others
