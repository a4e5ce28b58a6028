use Rattle.std.proofs.Common.{◌≡◌}
use Rattle.std.specs.List.{All}
use Rattle.mp_base.specs.Grid.{IsBelow}
use Rattle.seq_engine.specs.Realisation.{values_at}
use Rattle.seq_engine.specs.Runs.{RanThrough}
use Rattle.seq_engine.proofs.Levels.{plans_until}
use Rattle.seq_engine.proofs.Short.{Enough}
use Rattle.seq_engine.proofs.realisation.run_realisation.Given as goal

abbrev pub invariant-loop-coarser : goal.invariant-loop-coarser
invariant-loop-coarser g l = record {
  values : l.values ≡ values_at l.setup l.realisation l.coarser;
  sides : l.values.sides ≡ l.setup.shape;
  below : All (IsBelow l.setup.cats) l.values.cells;
  ready : g.R.LevelRunner.ready l.runner;
  ran : RanThrough g.R.LevelRunner.ran l.initial.runner (plans_until l.setup l.realisation l.coarser) l.runner;
  enough : Enough l.setup l.coarser;
}
