-- Nodes that stand m apart, row by row. Row number r has the cells nx r, nx r + 1, ..
use Rattle.std.specs.Prelude.{ℕ, ◌+◌, ◌*◌, List, map, flat_map}
use Rattle.std.specs.Int.{div_ceil}
use Rattle.std.specs.List.{range_with_len}
use Rattle.mp_base.specs.Grid.{Sides}

-- the first n nodes of row r
abbrev pub first_in_row : Sides → ℕ → ℕ → ℕ → List ℕ
first_in_row s m r n = map (λ i. i * m + s.nx * r) (range_with_len 0 n)

-- the numbers of the first n rows with nodes in plane z
abbrev pub first_rows : Sides → ℕ → ℕ → ℕ → List ℕ
first_rows s m z n = map (λ i. i * m + s.ny * z) (range_with_len 0 n)

-- the numbers of the rows with nodes in the first n planes with nodes
abbrev pub rows_of_planes : Sides → ℕ → ℕ → List ℕ
rows_of_planes s m n = flat_map (λ i. first_rows s m (i * m) (div_ceil s.ny m)) (range_with_len 0 n)

-- the nodes of these rows
abbrev pub nodes_of_rows : Sides → ℕ → List ℕ → List ℕ
nodes_of_rows s m rows = flat_map (λ r. first_in_row s m r (div_ceil s.nx m)) rows
