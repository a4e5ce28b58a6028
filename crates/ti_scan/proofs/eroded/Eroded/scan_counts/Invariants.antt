use Rattle.std.proofs.Common.{◌≡◌, ◌≤◌, ◌<◌, ◌-◌, ℕ, length, slice_index}
use Rattle.ti_scan.specs.Window.{found_in}
use Rattle.ti_scan.proofs.eroded.Eroded.scan_counts.Given as goal

abbrev pub invariant-loop-start : goal.invariant-loop-start
invariant-loop-start l = record {
  within : l.start ≤ l.span.cells;
  eight : length l.parts ≡ 8;
  parts : (k : ℕ) → k < l.self.cats → slice_index l.parts k ≡ found_in l.self l.event k l.span.first l.start;
}

abbrev pub decreases-loop-start : goal.decreases-loop-start
decreases-loop-start l = l.span.cells - l.start
