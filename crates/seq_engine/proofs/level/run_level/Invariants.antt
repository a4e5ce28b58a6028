use Rattle.std.proofs.Common.{◌≡◌, ◌<◌, ◌+◌, length}
use Rattle.std.specs.List.{All}
use Rattle.mp_base.specs.Cells.{category_counts}
use Rattle.event_retrieve.specs.Plan.{grid_at}
use Rattle.event_retrieve.specs.Sequential.{log_of}
use Rattle.seq_engine.proofs.level.run_level.Given as goal

abbrev pub invariant-loop-i : goal.invariant-loop-i
invariant-loop-i g l = record {
  log : l.log.items ≡ log_of l.plan l.i;
  now : l.now ≡ grid_at l.plan l.log.items l.i;
  cats : All (λ e. e.cat < l.plan.source.cats) l.log.items;
  words : l.words ≡ record { seed = l.plan.seed; number = l.plan.stream; place = length l.plan.path + l.i };
  known : l.known ≡ category_counts l.plan.source.cats l.now.cells;
}
