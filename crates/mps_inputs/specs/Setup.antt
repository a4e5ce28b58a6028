-- The simulation that parameters, an image and hard data ask for.
use Rattle.std.specs.Prelude.{ℕ, false, nat_lt, List, length, sum, replicate, Option, Some, None, Result, Ok, Err, if◌then◌else◌}
use Rattle.std.specs.Option.{option_map_or}
use Rattle.mp_base.specs.Cells.{category_counts}
use Rattle.mp_base.specs.Grid.{Field}
use Rattle.mp_params.specs.Params.{ParamsValue}
use Rattle.template_order.specs.Radii.{radii_in}
use Rattle.template_order.specs.Template.{template_of}
use Rattle.seq_engine.specs.Realisation.{positions_by_level, too_few}
use Rattle.seq_engine.specs.declared.setup.RunError.{RunError}
use Rattle.seq_engine.specs.declared.setup.RunError.TheVariants as run
use Rattle.seq_engine.specs.declared.setup.Setup.{Setup}
use Rattle.mps_inputs.specs.declared.fault.Fault.{Fault}
use Rattle.mps_inputs.specs.declared.fault.Fault.TheVariants.{TooFewPositions, OutOfMemory}
use Rattle.mps_inputs.specs.declared.inputs.Inputs.{Inputs}

-- the counts as shares; an image without a known cell is never simulated, so any shares serve it
abbrev pub shares_of : ℕ → List ℕ → List ℕ
shares_of cats counts = if nat_lt 0 (sum counts) then counts else replicate cats 1

-- the wanted shares of the categories: those that are given, or else those of the image
abbrev pub target_of : Option (List ℕ) → ℕ → Field → List ℕ
target_of (Some parts) cats image = parts
target_of None cats image = shares_of cats (category_counts cats image.cells)

unfoldable pub setup_of : ParamsValue → Field → Field → Setup
setup_of p image hard = record {
  image = image;
  template = record { vectors = template_of (radii_in p.radii) p.template; stretched = false };
  shape = p.grid;
  hard = hard;
  cats = length p.categories;
  target = target_of p.targets (length p.categories) image;
  levels = p.levels;
  servo = p.servo;
  max_data = p.max_data;
  min_replicates = p.min_replicates;
  seed = p.seed;
}

-- the simulation that inputs ask for
abbrev pub setup_for : Inputs → Setup
setup_for inputs = setup_of inputs.parameters inputs.image inputs.points.cells

-- why there is no realisation, as a fault
abbrev pub run_fault : RunError → Fault
run_fault (run.TooFewPositions level have want) = TooFewPositions level have want
run_fault run.NoMemory = OutOfMemory

-- the number of eroded positions by level, where each level has as many as the replicates that are wanted
abbrev pub positions_of : Setup → Result (List ℕ) Fault
positions_of s = option_map_or (λ error. Err (run_fault error)) (too_few s) (Ok (positions_by_level s))
