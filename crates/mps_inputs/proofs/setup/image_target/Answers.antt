use Rattle.mps_inputs.proofs.Shares.{shares_few}
use Rattle.mps_inputs.proofs.setup.image_target.Goals as goal

pub new-requires-clause-few : goal.new-requires-clause-few
new-requires-clause-few c = shares_few _ c.args.image.now c.args.cats c.shape.ensures.grid c.counts-counts.ensures
