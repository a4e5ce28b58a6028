-- What a command reads, in the order in which it is read and judged.
use Rattle.std.specs.Prelude.{◌≡◌, ℕ, List, length, map, replicate, Option, Some, None, Result, Ok, Err, ok_or, All}
use Rattle.mp_base.specs.Grid.{Field, IsBelow, cells_of, field}
use Rattle.mp_base.specs.declared.codes.Codes.{Codes}
use Rattle.mp_base.specs.declared.frame.Frame.{Frame}
use Rattle.gslib_grid.specs.Table.{table_of}
use Rattle.gslib_grid.specs.declared.row.Table.{Table}
use Rattle.gslib_grid.specs.declared.want.Want.{Want}
use Rattle.gslib_grid.specs.declared.want.Want.TheVariants as want
use Rattle.hard_data.specs.Points.{placed_of}
use Rattle.hard_data.specs.declared.points.Placed.{Placed}
use Rattle.mp_params.specs.Params.{ParamsValue}
use Rattle.mp_params.specs.declared.fault.ParamsError.{ParamsError}
use Rattle.mp_params.specs.declared.fault.ParamsError.TheVariants as error
use Rattle.mp_params.specs.Reading.{params_of}
use Rattle.mp_outside.specs.Contents.{Held}
use Rattle.mp_text.specs.Chain.{◌>>=◌}
use Rattle.mps_inputs.specs.declared.fault.Fault.{Fault}
use Rattle.mps_inputs.specs.declared.fault.Fault.TheVariants.{Parameters, CannotRead, Image, Points, OutOfMemory}
use Rattle.mps_inputs.specs.declared.inputs.Inputs.{Inputs}

-- a refusal of another kind as a fault
abbrev pub judged : {A E : Type 0} → (E → Fault) → Result A E → Result A Fault
judged fault (Ok a) = Ok a
judged fault (Err e) = Err (fault e)

-- what is made of a file's bytes: a file that isn't held can't be read
abbrev pub read_as : {A : Type 0} → (List ℕ → Result A Fault) → List ℕ → Held → Result A Fault
read_as made name held = ok_or (held name) (CannotRead name) >>= made

-- why parameters aren't accepted, as a fault
abbrev pub params_fault : ParamsError → Fault
params_fault (error.Fault fault) = Parameters fault
params_fault error.NoMemory = OutOfMemory

-- the parameters that a file gives
unfoldable pub parameters_in : List ℕ → Result ParamsValue Fault
parameters_in file = judged Parameters (params_of file)

-- the codes of the categories, and of a missing value
abbrev pub codes_in : ParamsValue → Codes
codes_in p = record { categories = p.categories; missing = p.missing }

-- a column of categories, in as many rows as the image has cells
abbrev pub wanted_image : ParamsValue → Want
wanted_image p = want.Image p.image_column (cells_of p.image_shape)

-- the rows as cells, in rising number
abbrev pub image_with : ParamsValue → Table → Result Field Fault
image_with p table = Ok (field p.image_shape (map (λ row. row.cat) table.rows))

-- the training image that a file gives
unfoldable pub image_in : ParamsValue → List ℕ → Result Field Fault
image_in p file = judged Image (table_of (wanted_image p) (codes_in p) file) >>= image_with p

-- the columns of a point file
abbrev pub wanted_points : ParamsValue → Want
wanted_points p = want.Points p.point_columns

-- where the grid lies
abbrev pub frame_of : ParamsValue → Frame
frame_of p = record { shape = p.grid; origin = p.origin; size = p.size }

-- the cells that the rows give a datum
abbrev pub points_with : ParamsValue → Table → Result Placed Fault
points_with p table = Ok (placed_of (frame_of p) table.rows)

-- the hard data that a file gives
unfoldable pub points_in : ParamsValue → List ℕ → Result Placed Fault
points_in p file = judged Points (table_of (wanted_points p) (codes_in p) file) >>= points_with p

-- without points no cell has a datum
abbrev pub no_points : ParamsValue → Placed
no_points p = record { cells = field p.grid (replicate (cells_of p.grid) None); rows = 0; used = 0; skipped = 0 }

-- the hard data of the point file, where there is one
abbrev pub points_of : ParamsValue → Option (List ℕ) → Held → Result Placed Fault
points_of p None held = Ok (no_points p)
points_of p (Some name) held = read_as (points_in p) name held

abbrev pub with_points : ParamsValue → Field → Placed → Result Inputs Fault
with_points p image points = Ok (record { parameters = p; codes = codes_in p; image = image; points = points })

-- the inputs with an image: its points are read behind it
abbrev pub inputs_with : ParamsValue → Field → Held → Result Inputs Fault
inputs_with p image held = points_of p p.points held >>= with_points p image

-- the image that parameters name, and then the points
abbrev pub tables_of : ParamsValue → Held → Result Inputs Fault
tables_of p held = do
  image ← read_as (image_in p) p.image held
  inputs_with p image held

-- the inputs of a command that takes a parameter file
abbrev pub inputs_of : List ℕ → Held → Result Inputs Fault
inputs_of name held = do
  parameters ← read_as parameters_in name held
  tables_of parameters held

-- what holds of all inputs that were accepted
pub record IsInputs (inputs : Inputs) : Type 0 where
  pub codes : inputs.codes ≡ codes_in inputs.parameters
  pub sides : inputs.image.sides ≡ inputs.parameters.image_shape
  pub below : All (IsBelow (length inputs.parameters.categories)) inputs.image.cells
  pub points_sides : inputs.points.cells.sides ≡ inputs.parameters.grid
  pub points_below : All (IsBelow (length inputs.parameters.categories)) inputs.points.cells.cells
