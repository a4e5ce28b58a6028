use Rattle.std.proofs.Common.{◌≡◌, length}
use Rattle.mp_base.specs.Grid.{cells_of}
use Rattle.seq_engine.proofs.Cover.{CoveredTo}
use Rattle.seq_engine.proofs.realisation.with_hard_data.Given as goal

abbrev pub invariant-loop-number : goal.invariant-loop-number
invariant-loop-number l = record {
  sides : l.values.sides ≡ l.hard.sides;
  count : length l.values.cells ≡ cells_of l.hard.sides;
  covered : CoveredTo l.hard l.fn.values l.number l.values.cells;
}
