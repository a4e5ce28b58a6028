use Rattle.std.proofs.Common.{◌-◌}
use Rattle.seq_engine.proofs.building.keep_levels.Given as goal

abbrev pub decreases-loop-done : goal.decreases-loop-done
decreases-loop-done g l = l.setup.levels - l.done
