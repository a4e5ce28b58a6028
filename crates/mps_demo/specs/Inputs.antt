-- What is simulated: parameters, the image, and the wells as hard data.
use Rattle.std.specs.Prelude.{ℕ, List, [], ◌∷◌, pos, negsuc, None, codes}
use Rattle.mp_base.specs.Grid.{Field, Sides}
use Rattle.hard_data.specs.Points.{placed_of}
use Rattle.mp_params.specs.Params.{ParamsValue}
use Rattle.mp_values.specs.declared.choice.StoreChoice.TheVariants.{Tree}
use Rattle.mps_inputs.specs.Inputs.{codes_in, frame_of}
use Rattle.mps_inputs.specs.declared.inputs.Inputs.{Inputs}
use Rattle.mps_demo.specs.Image.{channels_of, image_of, image_sides}
use Rattle.mps_demo.specs.Wells.{wells_of}

-- the grid is a flat square too
abbrev pub grid_sides : Sides
grid_sides = record { nx = 100; ny = 100; nz = 1 }

-- the name where parameters name a file: none is read or written
abbrev pub no_file : List ℕ
no_file = codes "none"

-- the parameters by a seed; what isn't told of them has its default
abbrev pub demo_parameters : ℕ → ParamsValue
demo_parameters seed = record {
  version = 1;
  image = no_file;
  image_shape = image_sides;
  image_column = 1;
  categories = pos 0 ∷ pos 1 ∷ [];
  missing = negsuc 9966698;
  grid = grid_sides;
  origin = pos 0 ∷ pos 0 ∷ pos 0 ∷ [];
  size = pos 1000000 ∷ pos 1000000 ∷ pos 1000000 ∷ [];
  points = None;
  point_columns = 1 ∷ 2 ∷ 3 ∷ 4 ∷ [];
  radii = 10 ∷ 10 ∷ 0 ∷ [];
  template = 40;
  max_data = 64;
  min_replicates = 10;
  levels = 3;
  servo = 500;
  targets = None;
  seed = seed;
  realisations = 1;
  store = Tree;
  window = 64;
  output = no_file;
}

-- the training image of a seed
abbrev pub demo_image : ℕ → Field
demo_image seed = image_of (channels_of seed)

-- what a seed gives to simulate
unfoldable pub demo_inputs : ℕ → Inputs
demo_inputs seed =
    let p = demo_parameters seed in
    let image = demo_image seed in
    record { parameters = p; codes = codes_in p; image = image; points = placed_of (frame_of p) (wells_of seed image) }
