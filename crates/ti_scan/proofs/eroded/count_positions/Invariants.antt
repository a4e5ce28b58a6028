use Rattle.std.proofs.Common.{◌≡◌, ◌≤◌, ◌-◌}
use Rattle.std.specs.List.{count_by, range_with_len}
use Rattle.ti_scan.specs.Eroded.{is_eroded}
use Rattle.ti_scan.proofs.eroded.count_positions.Given as goal

abbrev pub invariant-loop-start : goal.invariant-loop-start
invariant-loop-start l = record {
  within : l.start ≤ l.cells;
  count : l.count ≡ count_by (is_eroded l.ground.image.now l.ground.vectors.now) (range_with_len l.ground.span.first l.start);
}

abbrev pub decreases-loop-start : goal.decreases-loop-start
decreases-loop-start l = l.cells - l.start
