-- The nodes of a level.
use Rattle.std.proofs.Common.{◌≡◌, ℕ, ◌+◌, ◌*◌, ◌/◌, ◌%◌, ◌<◌, ◌≤◌, ◌^◌, Bool, ◌&&◌, List, [], ◌∷◌, ◌++◌, map, length, refl, ap, ◌∙◌, arith}
use Rattle.std.specs.Int.{div_ceil}
use Rattle.std.specs.List.{All, filter, flat_map, range_with_len}
use Rattle.std.specs.List.Sorted.{IsStrictlyIncreasing}
use Rattle.std.proofs.lemmas.List.{length-append}
use Rattle.std.proofs.lemmas.List.Elements.{All-filter}
use Rattle.std.proofs.lemmas.List.FromFn.{get_or-range_with_len, length-range_with_len, length-map-range_with_len}
use Rattle.std.proofs.lemmas.List.Kept.{IsStrictlyIncreasing-filter}
use Rattle.std.proofs.lemmas.Nat.{div-mul-add, mod-mul-add, mul-le, pow_pos}
use Rattle.std.proofs.Math.Nat.{mul_comm}
use Rattle.mp_base.specs.Grid.{Sides, IsShape, cells_of}
use Rattle.multigrid.specs.Levels.{spacing, is_multiple, is_node, nodes_of}
use Rattle.multigrid.specs.Rows.{first_in_row, first_rows, rows_of_planes, nodes_of_rows}
use Rattle.multigrid.proofs.Grids.{in_range, filter-rows}
use Rattle.multigrid.proofs.Multiples.{ceil-le, filter-multiples}

range-rises : (n : ℕ) → IsStrictlyIncreasing (range_with_len 0 n)
range-rises n k within = omega (
  arith,
  get_or-range_with_len 0 n k 0 (omega (arith, within, length-range_with_len 0 n)),
  get_or-range_with_len 0 n (k + 1) 0 (omega (arith, within, length-range_with_len 0 n)),
)

pub nodes-rise : (s : Sides) (level : ℕ) → IsStrictlyIncreasing (nodes_of s level)
unfolding nodes_of
nodes-rise s level = IsStrictlyIncreasing-filter (is_node s level) (range_with_len 0 (cells_of s)) (range-rises (cells_of s))

pub nodes-inside : (s : Sides) (level : ℕ) → All (λ c. c < cells_of s) (nodes_of s level)
unfolding nodes_of
nodes-inside s level = All-filter (is_node s level) (λ c. c < cells_of s) (range_with_len 0 (cells_of s)) (in_range (cells_of s))

flat_map-map : {X Y : Type 0} (f : Y → List ℕ) (h : X → List ℕ) (g : X → Y) → ((x : X) → f (g x) ≡ h x) → (xs : List X) → flat_map f (map g xs) ≡ flat_map h xs
flat_map-map f h g same [] = refl
flat_map-map f h g same (x ∷ xs) = ap (λ l. l ++ flat_map f (map g xs)) (same x) ∙ ap (λ l. h x ++ l) (flat_map-map f h g same xs)

flat_map-same : {X : Type 0} (f h : X → List ℕ) → ((x : X) → f x ≡ h x) → (xs : List X) → flat_map f xs ≡ flat_map h xs
flat_map-same f h same [] = refl
flat_map-same f h same (x ∷ xs) = ap (λ l. l ++ flat_map f xs) (same x) ∙ ap (λ l. h x ++ l) (flat_map-same f h same xs)

map-map : (f g : ℕ → ℕ) → (xs : List ℕ) → map f (map g xs) ≡ map (λ x. f (g x)) xs
map-map f g [] = refl
map-map f g (x ∷ xs) = ap (λ l. f (g x) ∷ l) (map-map f g xs)

-- the column and the row of a cell
column_is : (n x r : ℕ) → x < n → (x + n * r) % n ≡ x
column_is n x r below =
    let turned : x + n * r ≡ r * n + x = omega arith in
    ap (λ c. c % n) turned ∙ mod-mul-add r n x below

row_is : (n x r : ℕ) → x < n → (x + n * r) / n ≡ r
row_is n x r below =
    let turned : x + n * r ≡ r * n + x = omega arith in
    ap (λ c. c / n) turned ∙ div-mul-add r n x below

module _ (s : Sides) (level : ℕ) where
  abbrev m : ℕ
  m = spacing level

  pub some : 1 ≤ spacing level
  some = pow_pos _

  -- the rows with nodes
  abbrev has_nodes : ℕ → Bool
  has_nodes r = is_multiple m (r % s.ny) && is_multiple m (r / s.ny)

  node_is : (x r : ℕ) → x < s.nx → is_node s level (x + s.nx * r) ≡ (is_multiple m x && has_nodes r)
  node_is x r below =
      ap (λ k. is_multiple m k && has_nodes ((x + s.nx * r) / s.nx)) (column_is s.nx x r below)
      ∙ ap (λ k. is_multiple m x && has_nodes k) (row_is s.nx x r below)

  has_nodes_is : (y z : ℕ) → y < s.ny → has_nodes (y + s.ny * z) ≡ (is_multiple m y && is_multiple m z)
  has_nodes_is y z below =
      ap (λ k. is_multiple m k && is_multiple m ((y + s.ny * z) / s.ny)) (column_is s.ny y z below)
      ∙ ap (λ k. is_multiple m y && is_multiple m k) (row_is s.ny y z below)

  row-nodes : (r : ℕ) → map (λ x. x + s.nx * r) (filter (is_multiple m) (range_with_len 0 s.nx)) ≡ first_in_row s m r (div_ceil s.nx m)
  row-nodes r = ap (map (λ x. x + s.nx * r)) (filter-multiples m some s.nx) ∙ map-map (λ x. x + s.nx * r) (λ i. i * m) (range_with_len 0 (div_ceil s.nx m))

  plane-rows : (z : ℕ) → map (λ y. y + s.ny * z) (filter (is_multiple m) (range_with_len 0 s.ny)) ≡ first_rows s m z (div_ceil s.ny m)
  plane-rows z = ap (map (λ y. y + s.ny * z)) (filter-multiples m some s.ny) ∙ map-map (λ y. y + s.ny * z) (λ i. i * m) (range_with_len 0 (div_ceil s.ny m))

  rows_are : filter has_nodes (range_with_len 0 (s.ny * s.nz)) ≡ rows_of_planes s m (div_ceil s.nz m)
  rows_are =
      filter-rows s.ny has_nodes (is_multiple m) (is_multiple m) has_nodes_is s.nz
      ∙ ap (flat_map (λ z. map (λ y. y + s.ny * z) (filter (is_multiple m) (range_with_len 0 s.ny)))) (filter-multiples m some s.nz)
      ∙ flat_map-map
      (λ z. map (λ y. y + s.ny * z) (filter (is_multiple m) (range_with_len 0 s.ny)))
      (λ i. first_rows s m (i * m) (div_ceil s.ny m))
      (λ i. i * m)
      (λ i. plane-rows (i * m))
      (range_with_len 0 (div_ceil s.nz m))

  -- the nodes, by steps along each axis
  pub nodes_are : nodes_of s level ≡ nodes_of_rows s (spacing level) (rows_of_planes s (spacing level) (div_ceil s.nz (spacing level)))
  unfolding nodes_of
  nodes_are =
      filter-rows s.nx (is_node s level) (is_multiple m) has_nodes node_is (s.ny * s.nz)
      ∙ flat_map-same (λ r. map (λ x. x + s.nx * r) (filter (is_multiple m) (range_with_len 0 s.nx))) (λ r. first_in_row s m r (div_ceil s.nx m)) row-nodes (filter has_nodes (range_with_len 0 (s.ny * s.nz)))
      ∙ ap (nodes_of_rows s m) rows_are

  length-flat_map : (f : ℕ → List ℕ) (n : ℕ) → ((x : ℕ) → length (f x) ≡ n) → (xs : List ℕ) → length (flat_map f xs) ≡ length xs * n
  length-flat_map f n each [] = omega arith
  length-flat_map f n each (x ∷ xs) = omega (arith, length-append (f x) (flat_map f xs), each x, length-flat_map f n each xs)

  pub length-nodes : length (nodes_of s level) ≡ div_ceil s.nx (spacing level) * (div_ceil s.ny (spacing level) * div_ceil s.nz (spacing level))
  length-nodes =
      ap length nodes_are
      ∙ length-flat_map (λ r. first_in_row s m r (div_ceil s.nx m)) (div_ceil s.nx m) (λ r. length-map-range_with_len (λ i. i * m + s.nx * r) 0 (div_ceil s.nx m)) (rows_of_planes s m (div_ceil s.nz m))
      ∙ ap (λ k. k * div_ceil s.nx m) (
      length-flat_map (λ i. first_rows s m (i * m) (div_ceil s.ny m)) (div_ceil s.ny m) (λ i. length-map-range_with_len (λ j. j * m + s.ny * (i * m)) 0 (div_ceil s.ny m)) (range_with_len 0 (div_ceil s.nz m))
      ∙ ap (λ k. k * div_ceil s.ny m) (length-range_with_len 0 (div_ceil s.nz m)) ∙ mul_comm (div_ceil s.nz m) (div_ceil s.ny m)
      )
      ∙ mul_comm (div_ceil s.ny m * div_ceil s.nz m) (div_ceil s.nx m)

-- there are no more nodes than cells, of one row, one plane and all
pub count_fits : (s : Sides) (m : ℕ) → 1 ≤ m → IsShape s → div_ceil s.nx m * (div_ceil s.ny m * div_ceil s.nz m) ≤ 2 ^ 20
count_fits s m some shape =
    let plane = mul-le (div_ceil s.ny m) (div_ceil s.nz m) s.ny s.nz (ceil-le m some s.ny) (ceil-le m some s.nz) in
    omega (arith, shape.fits, mul-le (div_ceil s.nx m) (div_ceil s.ny m * div_ceil s.nz m) s.nx (s.ny * s.nz) (ceil-le m some s.nx) plane)
