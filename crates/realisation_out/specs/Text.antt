-- The text of a realisation file.
use Rattle.std.specs.Prelude.{ℕ, ◌++◌, ℤ, pos, List, [], flat_map, Option, Some, None, codes, slice_index_or}
use Rattle.std.specs.Fmt.{decimal, signed_decimal}
use Rattle.mp_base.specs.Grid.{Sides}

-- the opening of a file: the sides, how many realisations follow and the seed, then one column and its name
abbrev pub head_text : Sides → ℕ → ℕ → List ℕ
head_text sides realisations seed =
    codes "mpsim " ++ (decimal sides.nx ++ (codes " " ++ (decimal sides.ny ++ (codes " " ++ (decimal sides.nz
    ++ (codes " realisations " ++ (decimal realisations ++ (codes " seed " ++ (decimal seed ++ codes "\n1\ncategory\n")))))))))

-- the line of a cell: the code of its category
abbrev pub cell_line : List ℤ → Option ℕ → List ℕ
cell_line categories None = []
cell_line categories (Some k) = signed_decimal (slice_index_or categories k (pos 0)) ++ codes "\n"

-- the lines of a realisation, in rising cell number
abbrev pub rows_text : List ℤ → List (Option ℕ) → List ℕ
rows_text categories cells = flat_map (cell_line categories) cells
