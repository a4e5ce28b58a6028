-- What a seed gives to simulate is as inputs that are accepted.
use Rattle.std.proofs.Common.{refl, ℕ, ◌<◌, Bool, true, false, cond, List, arith}
use Rattle.std.specs.List.{All, range_with_len}
use Rattle.std.proofs.lemmas.List.Elements.{All-map}
use Rattle.mp_base.proofs.Tallies.{cat_of-below}
use Rattle.mp_base.specs.Grid.{Field, IsBelow, cells_of}
use Rattle.gslib_grid.specs.declared.row.Row.{Row}
use Rattle.mps_inputs.specs.Inputs.{IsInputs, frame_of}
use Rattle.mps_inputs.proofs.Points.{placed_below, placed_sides}
use Rattle.mps_demo.specs.Image.{channels_of, image_of, image_sides}
use Rattle.mps_demo.specs.Inputs.{demo_image, demo_inputs, demo_parameters}
use Rattle.mps_demo.specs.Wells.{well_of, wells_of}
use Rattle.mps_demo.specs.declared.channels.Channel.{Channel}
use Rattle.mps_demo.proofs.Sides.{sides_of_image}

either_below : (b : Bool) → cond b 1 0 < 2
either_below true = omega arith
either_below false = omega arith

-- the image has two categories
pub image_below : (channels : List Channel) → All (IsBelow 2) (image_of channels).cells
unfolding image_of
image_below channels = All-map (IsBelow 2) _ (range_with_len 0 (cells_of image_sides)) (λ i d within. either_below _)

-- and so have the wells
pub wells_below : (n seed : ℕ) (image : Field) → All (IsBelow n) image.cells → All (λ (row : Row). IsBelow n row.cat) (wells_of seed image)
unfolding wells_of
wells_below n seed image below = All-map (λ (row : Row). IsBelow n row.cat) (well_of seed image) (range_with_len 0 30) (λ i d within. cat_of-below n image.cells _ below)

pub accepted : (seed : ℕ) → IsInputs (demo_inputs seed)
unfolding demo_inputs
accepted seed =
    let frame = frame_of (demo_parameters seed) in
    let image = demo_image seed in
    record {
      codes = refl;
      sides = sides_of_image (channels_of seed);
      below = image_below (channels_of seed);
      points_sides = placed_sides frame (wells_of seed image);
      points_below = placed_below 2 frame (wells_of seed image) (wells_below 2 seed image (image_below (channels_of seed)));
    }
