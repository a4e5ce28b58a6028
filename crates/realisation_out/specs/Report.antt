-- The text of the report of a run, line by line.
use Rattle.std.specs.Prelude.{ℕ, ◌++◌, ℤ, List, length, flat_map, reverse, codes}
use Rattle.std.specs.Fmt.{decimal, signed_decimal}
use Rattle.std.specs.List.{enumerate_from}
use Rattle.mp_base.specs.Grid.{Sides}
use Rattle.mp_base.specs.Spaced.{behind_spaces}
use Rattle.multigrid.specs.Levels.{nodes_of}
use Rattle.realisation_out.specs.declared.report.Report.{Report}

-- the codes of the categories, in the order of their indices
abbrev pub categories_line : List ℤ → List ℕ
categories_line categories = codes "categories" ++ (behind_spaces signed_decimal categories ++ codes "\n")

-- the sides of the grid
abbrev pub grid_line : Sides → List ℕ
grid_line sides = codes "grid " ++ (decimal sides.nx ++ (codes " " ++ (decimal sides.ny ++ (codes " " ++ (decimal sides.nz ++ codes "\n")))))

-- the points that there are, the cells that got a datum, and the points that were skipped
abbrev pub points_line : ℕ → ℕ → ℕ → List ℕ
points_line rows used skipped = codes "points " ++ (decimal rows ++ (codes " used " ++ (decimal used ++ (codes " skipped " ++ (decimal skipped ++ codes "\n")))))

-- the parts of the target
abbrev pub target_line : List ℕ → List ℕ
target_line parts = codes "target" ++ (behind_spaces decimal parts ++ codes "\n")

-- a level with its numbers of nodes and of eroded positions
abbrev pub numbers_line : ℕ → ℕ → ℕ → List ℕ
numbers_line level nodes positions = codes "level " ++ (decimal level ++ (codes " nodes " ++ (decimal nodes ++ (codes " positions " ++ (decimal positions ++ codes "\n")))))

-- the same of a level of a grid
abbrev pub level_line : Sides → ℕ × ℕ → List ℕ
level_line sides level = numbers_line level.0 (length (nodes_of sides level.0)) level.1

-- the line of each level, from the coarsest to the finest: the positions are by level, the finest first
unfoldable pub level_lines : Sides → List ℕ → List ℕ
level_lines sides positions = flat_map (level_line sides) (reverse (enumerate_from 1 positions))

-- how many cells of a realisation have each category
abbrev pub realisation_line : ℕ × List ℕ → List ℕ
realisation_line realisation = codes "realisation " ++ (decimal realisation.0 ++ (codes " counts" ++ (behind_spaces decimal realisation.1 ++ codes "\n")))

-- the line of each realisation, from 0
unfoldable pub realisation_lines : List (List ℕ) → List ℕ
realisation_lines counts = flat_map realisation_line (enumerate_from 0 counts)

-- the whole report
unfoldable pub report_text : Report → List ℕ
report_text report =
    categories_line report.codes.categories ++ (grid_line report.shape ++ (points_line report.rows report.used report.skipped ++ (target_line report.target
    ++ (level_lines report.shape report.positions ++ (realisation_lines report.counts ++ codes "done\n")))))
