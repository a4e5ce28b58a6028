use Rattle.std.proofs.Common.{◌≡◌, ◌≤◌, ◌-◌, map}
use Rattle.std.specs.List.{filter, range_with_len}
use Rattle.mp_base.specs.Grid.{category_of}
use Rattle.ti_scan.specs.Eroded.{is_eroded}
use Rattle.ti_scan.specs.Window.{centre_in}
use Rattle.ti_scan.proofs.eroded.Eroded.new.Given as goal

abbrev pub invariant-loop-start : goal.invariant-loop-start
invariant-loop-start l = record {
  within : l.start ≤ l.cells;
  positions : l.positions.items ≡ filter (is_eroded l.ground.image.now l.ground.vectors.now) (range_with_len l.ground.span.first l.start);
  centres : map category_of l.centres.items ≡ map (centre_in l.ground.image.now l.ground.vectors.now) (range_with_len l.ground.span.first l.start);
}

abbrev pub decreases-loop-start : goal.decreases-loop-start
decreases-loop-start l = l.cells - l.start
