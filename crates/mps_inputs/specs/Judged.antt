-- Inputs that were judged.
use Rattle.std.specs.Prelude.{◌≡◌, Ok}
use Rattle.mps_inputs.specs.Inputs.{codes_in}
use Rattle.mps_inputs.specs.Setup.{positions_of, setup_for}
use Rattle.mps_inputs.specs.declared.inputs.Inputs.{Inputs}
use Rattle.mps_inputs.specs.declared.judging.Judged.{Judged}

-- the simulation that inputs ask for, with its eroded positions and the numbers of its points
pub record IsJudged (inputs : Inputs) (judged : Judged) : Type 0 where
  pub parameters : judged.parameters ≡ inputs.parameters
  pub codes : judged.codes ≡ codes_in inputs.parameters
  pub setup : judged.setup ≡ setup_for inputs
  pub positions : positions_of judged.setup ≡ Ok judged.positions.items
  pub rows : judged.rows ≡ inputs.points.rows
  pub used : judged.used ≡ inputs.points.used
  pub skipped : judged.skipped ≡ inputs.points.skipped
