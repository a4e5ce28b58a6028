use Rattle.std.proofs.Common.{subst}
use Rattle.mp_params.specs.Params.{IsParams}
use Rattle.mps_inputs.proofs.Setups.{small_radii}
use Rattle.mps_scan.proofs.command.event_asked.Goals as goal

pub new-requires-clause-radii : goal.new-requires-clause-radii
new-requires-clause-radii c = small_radii c.parameters.inside.radii c.parameters.invariant.radii

pub returns-in-Some-clause-params : goal.returns-in-Some-clause-params
returns-in-Some-clause-params c = subst IsParams c.parameters.view_is c.parameters.invariant
