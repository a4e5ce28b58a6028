use Rattle.std.proofs.Common.{◌≡◌, ◌++◌, take, flat_map}
use Rattle.std.specs.List.{enumerate_from}
use Rattle.realisation_out.specs.Report.{realisation_line}
use Rattle.realisation_out.proofs.lines.put_realisations.Given as goal

abbrev pub invariant-loop-number : goal.invariant-loop-number
invariant-loop-number l = l.to.items ≡ l.initial.to.items ++ flat_map realisation_line (take l.number (enumerate_from 0 l.realisations))
