use Rattle.pattern_blocks.specs.Tally.{Adds}
use Rattle.pattern_store.proofs.StoreSums.{gain}
use Rattle.impala_list.proofs.tally.tally_list.Given as goal

abbrev pub invariant-loop-group : goal.invariant-loop-group
invariant-loop-group l = Adds l.blocks.shown.cats l.least (gain l.blocks.shown l.blocks.counts l.event l.group) l.initial.tally l.tally
