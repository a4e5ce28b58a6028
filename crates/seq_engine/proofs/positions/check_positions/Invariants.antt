use Rattle.std.proofs.Common.{◌≡◌}
use Rattle.seq_engine.proofs.Short.{Enough, counted}
use Rattle.seq_engine.proofs.positions.check_positions.Given as goal

abbrev pub invariant-loop-coarser : goal.invariant-loop-coarser
invariant-loop-coarser l = record {
  counts : l.counts.items ≡ counted l.setup l.coarser;
  enough : Enough l.setup l.coarser;
}
