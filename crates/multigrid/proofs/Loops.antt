-- The nodes so far, one step on.
use Rattle.std.proofs.Common.{◌≡◌, ℕ, ◌+◌, ◌*◌, ◌^◌, ◌<◌, ◌≤◌, List, [], ◌∷◌, ◌++◌, length, sym, subst, ◌∙◌, ap, arith}
use Rattle.std.specs.Int.{div_ceil}
use Rattle.std.specs.List.{flat_map, range_with_len}
use Rattle.std.proofs.lemmas.List.{append-nil, append_assoc}
use Rattle.std.proofs.lemmas.List.Concat.{flat_map-append}
use Rattle.std.proofs.lemmas.List.FromFn.{map-range_with_len_more}
use Rattle.std.proofs.lemmas.Nat.{mul-le}
use Rattle.mp_base.specs.Grid.{Sides, IsShape}
use Rattle.mp_base.proofs.Ranges.{range_more}
use Rattle.multigrid.specs.Levels.{spacing, nodes_of}
use Rattle.multigrid.specs.Rows.{first_in_row, first_rows, rows_of_planes, nodes_of_rows}
use Rattle.multigrid.proofs.Multiples.{ceil-le, step_below}
use Rattle.multigrid.proofs.Stepping.{length-nodes}

pub next : (start mid now so_far part whole : List ℕ) → now ≡ mid ++ part → mid ≡ start ++ so_far → so_far ++ part ≡ whole → now ≡ start ++ whole
next start mid now so_far part whole step before is = step ∙ ap (λ (l : List ℕ). l ++ part) before ∙ append_assoc start so_far part ∙ ap (λ (l : List ℕ). start ++ l) is

module _ (s : Sides) (m : ℕ) where
  pub row_next : (r n : ℕ) → first_in_row s m r n ++ (n * m + s.nx * r) ∷ [] ≡ first_in_row s m r (n + 1)
  row_next r n = sym (map-range_with_len_more (λ i. i * m + s.nx * r) 0 n n (omega arith))

  abbrev row : ℕ → List ℕ
  row r = first_in_row s m r (div_ceil s.nx m)

  pub rows_next : (z n : ℕ) → nodes_of_rows s m (first_rows s m z n) ++ first_in_row s m (n * m + s.ny * z) (div_ceil s.nx m) ≡ nodes_of_rows s m (first_rows s m z (n + 1))
  rows_next z n =
      ap (λ l. nodes_of_rows s m (first_rows s m z n) ++ l) (sym (append-nil (row (n * m + s.ny * z))))
      ∙ sym (flat_map-append row (first_rows s m z n) ((n * m + s.ny * z) ∷ []))
      ∙ ap (nodes_of_rows s m) (sym (map-range_with_len_more (λ i. i * m + s.ny * z) 0 n n (omega arith)))

  abbrev plane : ℕ → List ℕ
  plane i = first_rows s m (i * m) (div_ceil s.ny m)

  pub planes_next : (n : ℕ) → nodes_of_rows s m (rows_of_planes s m n) ++ nodes_of_rows s m (first_rows s m (n * m) (div_ceil s.ny m)) ≡ nodes_of_rows s m (rows_of_planes s m (n + 1))
  planes_next n =
      sym (flat_map-append row (rows_of_planes s m n) (plane n))
      ∙ ap (λ l. nodes_of_rows s m (rows_of_planes s m n ++ l)) (sym (append-nil (plane n)))
      ∙ ap (nodes_of_rows s m) (sym (flat_map-append plane (range_with_len 0 n) (n ∷ [])) ∙ ap (flat_map plane) (sym (range_more n)))

-- what the program computes from the sides that it reads
module _ (read s : Sides) (same : read ≡ s) (m : ℕ) (some : 1 ≤ m) where
  pub x_below : (i : ℕ) → i < div_ceil read.nx m → i * m < s.nx
  x_below i within = subst (λ (t : Sides). i * m < t.nx) same (step_below m some read.nx i within)

  pub y_below : (i : ℕ) → i < div_ceil read.ny m → i * m < s.ny
  y_below i within = subst (λ (t : Sides). i * m < t.ny) same (step_below m some read.ny i within)

  pub z_below : (i : ℕ) → i < div_ceil read.nz m → i * m < s.nz
  z_below i within = subst (λ (t : Sides). i * m < t.nz) same (step_below m some read.nz i within)

pub plane_fits : (s : Sides) (m : ℕ) → 1 ≤ m → IsShape s → div_ceil s.ny m * div_ceil s.nz m ≤ 2 ^ 20
plane_fits s m some shape = omega (
  arith,
  shape.fits,
  mul-le (div_ceil s.ny m) (div_ceil s.nz m) s.ny s.nz (ceil-le m some s.ny) (ceil-le m some s.nz),
  mul-le 1 (s.ny * s.nz) s.nx (s.ny * s.nz) shape.x_some (omega arith),
)

pub count_is : (read s : Sides) (level m : ℕ) → read ≡ s → m ≡ spacing level → div_ceil read.nx m * (div_ceil read.ny m * div_ceil read.nz m) ≡ length (nodes_of s level)
count_is read s level m same is =
    ap (λ (t : Sides). div_ceil t.nx m * (div_ceil t.ny m * div_ceil t.nz m)) same ∙ ap (λ n. div_ceil s.nx n * (div_ceil s.ny n * div_ceil s.nz n)) is ∙ sym (length-nodes s level)
