use Rattle.mps_inputs.proofs.Points.{has_sizes}
use Rattle.mps_inputs.proofs.inputs.frame_of.Goals as goal

pub returns-clause-sizes : goal.returns-clause-sizes
returns-clause-sizes c = has_sizes c.parameters.inside.size c.parameters.invariant.size
