use Rattle.std.proofs.Common.{length}
use Rattle.gslib_grid.specs.Table.{wanted_of}
use Rattle.gslib_grid.proofs.Fronts.{HasRead}
use Rattle.gslib_grid.proofs.read.read_table.Given as goal

abbrev pub invariant-loop-line : goal.invariant-loop-line
invariant-loop-line l = HasRead (wanted_of l.want) l.codes l.bytes l.progress l.rest

abbrev pub decreases-loop-line : goal.decreases-loop-line
decreases-loop-line l = length l.rest
