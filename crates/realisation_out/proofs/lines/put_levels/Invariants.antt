use Rattle.std.proofs.Common.{◌≡◌, ◌++◌, take, flat_map, reverse}
use Rattle.std.specs.List.{enumerate_from}
use Rattle.realisation_out.specs.Report.{level_line}
use Rattle.realisation_out.proofs.lines.put_levels.Given as goal

abbrev pub invariant-loop-done : goal.invariant-loop-done
invariant-loop-done l = l.to.items ≡ l.initial.to.items ++ flat_map (level_line l.shape) (take l.done (reverse (enumerate_from 1 l.positions)))
