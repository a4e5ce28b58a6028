-- The number of a cell.
use Rattle.std.proofs.Common.{◌≡◌, ℕ, ◌+◌, ◌*◌, ◌^◌, ◌<◌, ◌≤◌, arith}
use Rattle.std.proofs.lemmas.Nat.{mul-add-lt}
use Rattle.mp_base.specs.Grid.{Sides, IsShape, cell_number, cells_of}

pub row_below : (n m x y : ℕ) → x < n → y < m → x + n * y < n * m
row_below n m x y in_row in_rows = omega (arith, mul-add-lt y n x m in_rows in_row)

pub cell_number-below : (s : Sides) (x y z : ℕ) → x < s.nx → y < s.ny → z < s.nz → cell_number s x y z < cells_of s
cell_number-below s x y z in_x in_y in_z = row_below s.nx (s.ny * s.nz) x (y + s.ny * z) in_x (row_below s.ny s.nz y z in_y in_z)

-- the same where the fields were read
pub read_number-below : (read s : Sides) (x y z : ℕ) → read ≡ s → x < s.nx → y < s.ny → z < s.nz → read.nx * (y + read.ny * z) + x < cells_of s
read_number-below read s x y z e in_x in_y in_z = rw e (omega (arith, cell_number-below s x y z in_x in_y in_z))

pub cells-fit : (read s : Sides) → read ≡ s → IsShape read → cells_of s ≤ 2 ^ 20
cells-fit read s e shape = rw (← e) shape.fits
