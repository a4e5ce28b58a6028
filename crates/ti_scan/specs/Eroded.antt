-- The eroded positions of a training image.
use Rattle.std.specs.Prelude.{ℕ, Bool, ◌&&◌, is_some, List, filter}
use Rattle.std.specs.List.{list_all, range_with_len}
use Rattle.mp_base.specs.declared.cell.Vector.{Vector}
use Rattle.mp_base.specs.Grid.{Field, cells_of, cat_of, cat_at}

-- the cell is known, and each of its template cells is inside and known
abbrev pub is_eroded : Field → List Vector → ℕ → Bool
is_eroded image template c = is_some (cat_of image.cells c) && list_all (λ v. is_some (cat_at image c v)) template

-- the eroded positions, in rising number
abbrev pub positions_of : Field → List Vector → List ℕ
positions_of image template = filter (is_eroded image template) (range_with_len 0 (cells_of image.sides))
