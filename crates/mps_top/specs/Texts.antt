-- What `check` tells.
use Rattle.std.specs.Prelude.{ℕ, List, ◌++◌, length, count_by, is_some, codes}
use Rattle.std.specs.Fmt.{decimal}
use Rattle.mp_base.specs.Grid.{Field}
use Rattle.mp_params.specs.Printing.{print_text}
use Rattle.realisation_out.specs.Report.{level_lines, points_line}
use Rattle.mps_inputs.specs.declared.inputs.Inputs.{Inputs}

-- the image's cells, and how many of them have a category
abbrev pub image_line : Field → List ℕ
image_line image = codes "image cells " ++ (decimal (length image.cells) ++ (codes " known " ++ (decimal (count_by is_some image.cells) ++ codes "\n")))

-- the parameters, the image, the points, and the levels with their positions
unfoldable pub check_text : Inputs → List ℕ → List ℕ
check_text inputs positions =
    print_text inputs.parameters
    ++ (image_line inputs.image
    ++ (points_line inputs.points.rows inputs.points.used inputs.points.skipped ++ (level_lines inputs.parameters.grid positions ++ codes "ok\n")))
