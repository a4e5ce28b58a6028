use Rattle.std.proofs.Common.{rules, ◌≡◌, sym, subst, length}
use Rattle.mp_params.specs.Params.{IsParams}
use Rattle.seq_engine.specs.Setup.{IsSetup}
use Rattle.seq_engine.specs.declared.setup.Setup.{Setup}
use Rattle.mps_inputs.specs.Setup.{setup_of}
use Rattle.mps_inputs.proofs.Setups.{is_setup, small_radii}
use Rattle.mps_inputs.proofs.setup.setup_of.Goals as goal

pub new-requires-clause-radii : goal.new-requires-clause-radii
new-requires-clause-radii c = small_radii c.parameters.inside.radii c.parameters.invariant.radii

pub returns-clause-valid : goal.returns-clause-valid
unfolding setup_of
returns-clause-valid c =
    let made : Setup =
    record {
      image = c.args.image;
      template = c.in_ok-new.field-0;
      shape = c.parameters.inside.grid;
      hard = c.args.hard;
      cats = length c.as_slice.result.now;
      target = c.target_of-target.result;
      levels = c.parameters.inside.levels;
      servo = c.parameters.inside.servo;
      max_data = c.parameters.inside.max_data;
      min_replicates = c.parameters.inside.min_replicates;
      seed = c.parameters.inside.seed;
    } in
    let same : made ≡ setup_of c.args.parameters.now c.args.image c.args.hard = search rules in
    subst IsSetup (sym same) (is_setup c.args.parameters.now c.args.image c.args.hard (subst IsParams c.parameters.view_is c.parameters.invariant) c.requires.below c.requires.hard_sides c.requires.hard_below)
