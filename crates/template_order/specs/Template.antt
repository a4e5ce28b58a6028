-- The template: the vectors in an ellipsoid of three radii, nearest first.
use Rattle.std.specs.Prelude.{◌≢◌, ℕ, ◌+◌, ◌*◌, ◌^◌, ◌≤◌, suc, zero, max, ℤ, pos, ◌-ℤ◌, ◌*ℤ◌, nat_abs, int_lt, Bool, ◌&&◌, ◌||◌, ◌==◌, nat_lt, nat_le, if◌then◌else◌, List, length, map, filter, filter_map, find, flat_map, count_by, Option, None, slice_get, All}
use Rattle.std.specs.List.{AllPairs, range_with_len}
use Rattle.std.specs.Ordering.{int_eq}
use Rattle.mp_base.specs.declared.cell.Vector.{Vector}

-- the half axes of the ellipsoid along x, y and z
pub record Radii : Type 0 where
  pub x : ℕ
  pub y : ℕ
  pub z : ℕ

-- a template's radii are at most 64
pub record IsSmall (r : Radii) : Type 0 where
  pub x : r.x ≤ 64
  pub y : r.y ≤ 64
  pub z : r.z ≤ 64

-- number k, counted from 0, of the offsets from -r to r
abbrev pub offset : ℕ → ℕ → ℤ
offset r k = pos k -ℤ pos r

-- the offsets from -r to r
abbrev pub offsets : ℕ → List ℤ
offsets r = map (offset r) (range_with_len 0 (2 * r + 1))

abbrev pub vector : ℤ → ℤ → ℤ → Vector
vector x y z = record { dx = x; dy = y; dz = z }

-- the vectors whose offsets are no longer than the radii
abbrev pub box : Radii → List Vector
box r = flat_map (λ z. flat_map (λ y. map (λ x. vector x y z) (offsets r.x)) (offsets r.y)) (offsets r.z)

-- half an axis of the ellipsoid: a radius of 0 counts as 1
abbrev pub half_axis : ℕ → ℕ
half_axis r = max r 1

-- the squared distance, in the unit in which the ellipsoid's points are at most (a b c)^2 away
abbrev pub distance : Radii → Vector → ℕ
distance r v =
    (nat_abs v.dx * half_axis r.y * half_axis r.z) ^ 2 + (nat_abs v.dy * half_axis r.x * half_axis r.z) ^ 2
    + (nat_abs v.dz * half_axis r.x * half_axis r.y) ^ 2

-- a distance that isn't zero, and within the ellipsoid
abbrev pub is_near_enough : Radii → ℕ → Bool
is_near_enough r d = nat_lt 0 d && nat_le d ((half_axis r.x * half_axis r.y * half_axis r.z) ^ 2)

-- a vector of the template, if there is room
abbrev pub is_candidate : Radii → Vector → Bool
is_candidate r v = is_near_enough r (distance r v)

unfoldable pub candidates : Radii → List Vector
candidates r = filter (is_candidate r) (box r)

-- the key of v is smaller: the distance, then z, y and x
abbrev pub is_before : Radii → Vector → Vector → Bool
is_before r v w =
    nat_lt (distance r v) (distance r w)
    || (distance r v == distance r w
    && (int_lt v.dz w.dz || (int_eq v.dz w.dz && (int_lt v.dy w.dy || (int_eq v.dy w.dy && int_lt v.dx w.dx)))))

-- how many candidates have a smaller key
abbrev pub rank_of : Radii → Vector → ℕ
rank_of r v = count_by (λ w. is_before r w v) (candidates r)

-- the candidates of the ranks 0, 1, .. below count, in this order
unfoldable pub template_of : Radii → ℕ → List Vector
template_of r count = filter_map (λ p. find (λ v. rank_of r v == p) (candidates r)) (range_with_len 0 count)

-- a vector, so many times as long
abbrev pub times : ℕ → Vector → Vector
times s v = record { dx = pos s *ℤ v.dx; dy = pos s *ℤ v.dy; dz = pos s *ℤ v.dz }

-- what contracts see of a template: its vectors in order, and whether they were stretched
pub record TemplateOf : Type 0 where
  pub vectors : List Vector
  pub stretched : Bool

-- the vector at a position: positions count from 1
abbrev pub vector_at : TemplateOf → ℕ → Option Vector
vector_at t zero = None
vector_at t (suc p) = slice_get t.vectors p

-- no offset is longer than limit
pub record IsWithin (limit : ℕ) (v : Vector) : Type 0 where
  pub x : nat_abs v.dx ≤ limit
  pub y : nat_abs v.dy ≤ limit
  pub z : nat_abs v.dz ≤ limit

-- not the vector from a cell to itself
abbrev pub LeavesCell : Vector → Type 0
LeavesCell v = 1 ≤ nat_abs v.dx + nat_abs v.dy + nat_abs v.dz

-- how long an offset may be: a template is stretched by 128 at most
abbrev pub longest_offset : Bool → ℕ
longest_offset stretched = if stretched then 64 * 128 else 64

-- what each template of the program keeps
pub record IsTemplate (t : TemplateOf) : Type 0 where
  pub few : length t.vectors ≤ 64
  pub near : All (IsWithin (longest_offset t.stretched)) t.vectors
  pub leave : All LeavesCell t.vectors
  pub apart : AllPairs (λ v w. v ≢ w) t.vectors
