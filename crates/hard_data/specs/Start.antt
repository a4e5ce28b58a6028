-- The start of a level: what is known at its nodes, and which hard data are moved to them.
use Rattle.std.specs.Prelude.{ℕ, ◌+◌, ◌-◌, ◌*◌, ◌%◌, ◌==◌, nat_lt, Bool, not, ◌&&◌, if◌then◌else◌, List, map, filter, filter_map, fold, slice_set, Option, Some, None, is_some, option_map, option_and_then}
use Rattle.std.specs.Int.{abs_diff}
use Rattle.std.specs.List.{range_with_len}
use Rattle.std.specs.Option.{option_or}
use Rattle.mp_base.specs.declared.cell.Entry.{Entry}
use Rattle.mp_base.specs.Cells.{with_entries}
use Rattle.mp_base.specs.Grid.{Sides, Field, field, cells_of, cell_number, x_of, y_of, z_of, cat_of}
use Rattle.multigrid.specs.Levels.{spacing, is_node, nodes_of}
use Rattle.hard_data.specs.declared.moves.Move.{Move}
use Rattle.hard_data.specs.Nearest.{first_nearest}

-- the multiple of m nearest to x on an axis of n cells: a tie goes to the lower one, and one outside isn't used
abbrev pub nearest_multiple : ℕ → ℕ → ℕ → ℕ
nearest_multiple m n x =
    if nat_lt m (2 * (x % m)) && nat_lt (x - x % m + m) n then x - x % m + m else x - x % m

-- the node of a level that is nearest to a cell on each axis
abbrev pub nearest_node : Sides → ℕ → ℕ → ℕ
nearest_node s level c =
    cell_number s (nearest_multiple (spacing level) s.nx (x_of s c)) (nearest_multiple (spacing level) s.ny (y_of s c)) (nearest_multiple (spacing level) s.nz (z_of s c))

-- the squared distance of two cells, in cells
abbrev pub distance_in_cells : Sides → ℕ → ℕ → ℕ
distance_in_cells s c d =
    abs_diff (x_of s c) (x_of s d) * abs_diff (x_of s c) (x_of s d)
    + (abs_diff (y_of s c) (y_of s d) * abs_diff (y_of s c) (y_of s d) + abs_diff (z_of s c) (z_of s d) * abs_diff (z_of s c) (z_of s d))

-- a cell has a hard datum and is no node, so that its datum moves
abbrev pub is_off_nodes : Field → ℕ → ℕ → Bool
is_off_nodes hard level c = is_some (cat_of hard.cells c) && not (is_node hard.sides level c)

-- a cell's datum moves to this node, which is the nearest
abbrev pub moves_to : Field → ℕ → ℕ → ℕ → Bool
moves_to hard level node c = is_off_nodes hard level c && (nearest_node hard.sides level c == node)

-- of the cells whose data move to a node the nearest, and of equally near ones that of the smallest number
unfoldable pub nearest_cell : Field → ℕ → ℕ → Option ℕ
nearest_cell hard level node = first_nearest (distance_in_cells hard.sides node) (filter (moves_to hard level node) (range_with_len 0 (cells_of hard.sides)))

-- a cell's hard datum, or else its value
abbrev pub datum_or_value : Field → Field → ℕ → Option ℕ
datum_or_value hard values c = option_or (cat_of hard.cells c) (cat_of values.cells c)

-- the move of a cell's datum to a node
abbrev pub move_from : Field → ℕ → ℕ → Option Move
move_from hard node c = option_map (λ k. record { «from» = c; to = node; cat = k }) (cat_of hard.cells c)

-- the move to a node: only a node with neither a hard datum nor a value takes one
abbrev pub move_to : Field → Field → ℕ → ℕ → Option Move
move_to hard values level node =
    if is_some (datum_or_value hard values node) then None else option_and_then (move_from hard node) (nearest_cell hard level node)

-- what is known at a node: its hard datum, or else its value, or else the datum that is moved to it
abbrev pub node_start : Field → Field → ℕ → ℕ → Option ℕ
node_start hard values level node = option_or (datum_or_value hard values node) (option_map (λ m. m.cat) (move_to hard values level node))

-- the start of a level: every cell that is no node is unknown
unfoldable pub start_of : Field → Field → ℕ → Field
start_of hard values level =
    field hard.sides (map (λ c. if is_node hard.sides level c then node_start hard values level c else None) (range_with_len 0 (cells_of hard.sides)))

-- the moves of a level, in the order of the nodes
unfoldable pub moves_of : Field → Field → ℕ → List Move
moves_of hard values level = filter_map (move_to hard values level) (nodes_of hard.sides level)

-- the values after the entries of a log are set, the first of them first
abbrev pub values_after : Field → List Entry → Field
values_after values log = field values.sides (with_entries values.cells log)
