use Rattle.std.proofs.Common.{◌≡◌, take}
use Rattle.std.specs.List.{count_by}
use Rattle.hard_data.specs.Kept.{RowsAreKept}
use Rattle.hard_data.specs.Points.{is_skipped}
use Rattle.hard_data.proofs.points.keep_nearest.Given as goal

-- what is kept and counted so far
abbrev pub invariant-loop-number : goal.invariant-loop-number
invariant-loop-number l = record {
  kept : RowsAreKept l.frame l.rows l.number l.numbers.items;
  skipped : l.skipped ≡ count_by (is_skipped l.frame) (take l.number l.rows);
}
