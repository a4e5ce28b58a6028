use Rattle.pattern_blocks.specs.Tally.{Adds}
use Rattle.impala_list.proofs.BlockSums.{gained}
use Rattle.impala_list.proofs.tally.tally_group.Given as goal

abbrev pub invariant-loop-item : goal.invariant-loop-item
invariant-loop-item l = Adds l.blocks.shown.cats l.least (gained l.blocks.shown l.blocks.counts l.group l.event l.item) l.initial.tally l.tally
