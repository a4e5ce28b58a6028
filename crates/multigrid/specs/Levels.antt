-- The levels of a grid: their nodes, and their template. Level 1 is the finest.
use Rattle.std.specs.Prelude.{ℕ, ◌-◌, ◌%◌, ◌^◌, ◌≤◌, Bool, ◌&&◌, ◌==◌, List, map, filter}
use Rattle.std.specs.List.{range_with_len}
use Rattle.mp_base.specs.declared.cell.Vector.{Vector}
use Rattle.mp_base.specs.Grid.{Sides, cells_of, x_of, y_of, z_of}
use Rattle.template_order.specs.Template.{times}

-- a level that a simulation may have
pub record IsLevel (level : ℕ) : Type 0 where
  pub least : 1 ≤ level
  pub most : level ≤ 8

-- how far the nodes of a level are apart on each axis
abbrev pub spacing : ℕ → ℕ
spacing level = 2 ^ (level - 1)

abbrev pub is_multiple : ℕ → ℕ → Bool
is_multiple m n = n % m == 0

-- a cell is a node where its three coordinates are multiples of the spacing
abbrev pub is_node : Sides → ℕ → ℕ → Bool
is_node s level c =
    is_multiple (spacing level) (x_of s c) && (is_multiple (spacing level) (y_of s c) && is_multiple (spacing level) (z_of s c))

-- the nodes of a level, in rising cell number
unfoldable pub nodes_of : Sides → ℕ → List ℕ
nodes_of s level = filter (is_node s level) (range_with_len 0 (cells_of s))

-- the vectors of a template at a level
abbrev pub stretched : List Vector → ℕ → List Vector
stretched vectors level = map (times (spacing level)) vectors
