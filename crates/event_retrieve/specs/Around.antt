-- The cells around the nodes of a grid.
use Rattle.std.specs.Prelude.{◌≡◌, ℕ, ◌+◌, ◌<◌, pos, ◌-ℤ◌, List, length, map, slice_get, slice_index, slice_index_or, Option, Some, option_and_then}
use Rattle.mp_base.specs.declared.cell.Vector.{Vector}
use Rattle.mp_base.specs.Grid.{Sides, cell_at, x_of, y_of, z_of}

-- the sides of a grid, and the vectors to the cells that are looked at
pub record Around : Type 0 where
  pub sides : Sides
  pub template : List Vector

-- what is around one cell
pub record Centre : Type 0 where
  pub around : Around
  pub cell : ℕ

-- the cell at a vector from it, by the number of the vector, counted from 0, where that cell is inside
abbrev pub cell_from : Centre → ℕ → Option ℕ
cell_from c number = option_and_then (cell_at c.around.sides c.cell) (slice_get c.around.template number)

-- the cells at the vectors from a cell
pub record AreFrom (s : Sides) (template : List Vector) (c : ℕ) (cells : List ℕ) : Type 0 where
  pub count : length cells ≡ length template
  pub each : (i : ℕ) (v : Vector) → i < length template → cell_at s c (slice_index_or template i v) ≡ Some (slice_index cells i)

-- each cell so much further
abbrev pub moved_on : ℕ → List ℕ → List ℕ
moved_on further cells = map (λ c. c + further) cells

-- the vector from one cell to another
abbrev pub vector_between : Sides → ℕ → ℕ → Vector
vector_between s a b = record {
  dx = pos (x_of s b) -ℤ pos (x_of s a);
  dy = pos (y_of s b) -ℤ pos (y_of s a);
  dz = pos (z_of s b) -ℤ pos (z_of s a);
}
