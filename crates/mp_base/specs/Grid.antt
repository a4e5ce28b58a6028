-- Grids of cells: the sides, the number of a cell, and the cell at a vector from another.
use Rattle.std.specs.Prelude.{◌≡◌, ℕ, suc, ◌+◌, ◌-◌, ◌*◌, ◌/◌, ◌%◌, ◌^◌, ◌<◌, ◌≤◌, ℤ, pos, negsuc, List, length, Option, Some, None, if◌then◌else◌, nat_lt, option_and_then, option_map, slice_get, All, IfSome}
use Rattle.mp_base.specs.declared.cell.Vector.{Vector}

-- how many cells a grid has along x, y and z
pub record Sides : Type 0 where
  pub nx : ℕ
  pub ny : ℕ
  pub nz : ℕ

abbrev pub cells_of : Sides → ℕ
cells_of s = s.nx * (s.ny * s.nz)

-- sides that a grid may have
pub record IsShape (s : Sides) : Type 0 where
  pub x_some : 1 ≤ s.nx
  pub y_some : 1 ≤ s.ny
  pub z_some : 1 ≤ s.nz
  pub fits : cells_of s ≤ 2 ^ 20

-- the number of the cell at a place: x runs fastest, then y, then z
abbrev pub cell_number : Sides → ℕ → ℕ → ℕ → ℕ
cell_number s x y z = x + s.nx * (y + s.ny * z)

abbrev pub x_of : Sides → ℕ → ℕ
x_of s c = c % s.nx

abbrev pub y_of : Sides → ℕ → ℕ
y_of s c = c / s.nx % s.ny

abbrev pub z_of : Sides → ℕ → ℕ
z_of s c = c / s.nx / s.ny

-- the coordinate at an offset from x, where it is from 0 up to n
abbrev pub moved : ℕ → ℕ → ℤ → Option ℕ
moved n x (pos d) = if nat_lt (x + d) n then Some (x + d) else None
moved n x (negsuc d) = if nat_lt d x then Some (x - suc d) else None

-- the cell at a vector from a cell, where that is inside
unfoldable pub cell_at : Sides → ℕ → Vector → Option ℕ
cell_at s c v =
    option_and_then
    (λ x. option_and_then (λ y. option_map (λ z. cell_number s x y z) (moved s.nz (z_of s c) v.dz)) (moved s.ny (y_of s c) v.dy))
    (moved s.nx (x_of s c) v.dx)

-- a grid: each cell has a category or nothing
pub record Field : Type 0 where
  pub sides : Sides
  pub cells : List (Option ℕ)

abbrev pub field : Sides → List (Option ℕ) → Field
field s cells = record { sides = s; cells = cells }

-- the category of a cell, if it has one
abbrev pub cat_of : List (Option ℕ) → ℕ → Option ℕ
cat_of cells c = option_and_then (λ k. k) (slice_get cells c)

-- the category at a vector from a cell, if that is inside and has one
abbrev pub cat_at : Field → ℕ → Vector → Option ℕ
cat_at g c v = option_and_then (cat_of g.cells) (cell_at g.sides c v)

-- a category, if there is one, is below n
abbrev pub IsBelow : ℕ → Option ℕ → Type 0
IsBelow n value = IfSome value (λ k. k < n)

-- a grid of the program: as many cells as its sides say, each category at most 7
pub record IsGrid (g : Field) : Type 0 where
  pub shape : IsShape g.sides
  pub count : length g.cells ≡ cells_of g.sides
  pub cats : All (IsBelow 8) g.cells

-- the category that a byte of the program stands for: 8 and above is nothing
abbrev pub category_of : ℕ → Option ℕ
category_of b = if nat_lt b 8 then Some b else None

-- the bytes of a grid fit its sides
pub record FitsShape (s : Sides) (bytes : List ℕ) : Type 0 where
  pub shape : IsShape s
  pub count : length bytes ≡ cells_of s
