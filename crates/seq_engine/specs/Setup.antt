-- A setup: all that a simulation is made of.
use Rattle.std.specs.Prelude.{◌≡◌, ◌≤◌, false, length, All}
use Rattle.mp_base.specs.Grid.{IsBelow}
use Rattle.seq_engine.specs.declared.setup.Setup.{Setup}

-- a setup that can be simulated, whatever its target
pub record IsSetupButTarget (s : Setup) : Type 0 where
  pub hard_sides : s.hard.sides ≡ s.shape
  pub cats_some : 1 ≤ s.cats
  pub cats_few : s.cats ≤ 8
  pub image_below : All (IsBelow s.cats) s.image.cells
  pub hard_below : All (IsBelow s.cats) s.hard.cells
  pub whole : s.template.stretched ≡ false
  pub levels_some : 1 ≤ s.levels
  pub levels_few : s.levels ≤ 8
  pub servo_low : s.servo ≤ 999
  pub data_some : 1 ≤ s.max_data
  pub data_few : s.max_data ≤ 64
  pub replicates_some : 1 ≤ s.min_replicates
  pub replicates_few : s.min_replicates ≤ 1000000

-- a setup that can be simulated: the target has a part for each category
pub record IsSetup (s : Setup) : Type 0 where
  pub setup : IsSetupButTarget s
  pub target_parts : length s.target ≡ s.cats
