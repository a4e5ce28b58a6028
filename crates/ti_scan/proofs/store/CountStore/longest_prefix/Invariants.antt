use Rattle.std.proofs.Common.{◌≡◌, ◌⊎◌, ℕ, ◌-◌, ◌<◌, ◌≤◌, true, false}
use Rattle.ti_scan.specs.Prefix.{has_enough}
use Rattle.ti_scan.proofs.store.CountStore.longest_prefix.Given as goal

abbrev pub invariant-loop-low : goal.invariant-loop-low
invariant-loop-low g l = record {
  order : l.low ≤ l.high;
  top : l.high ≤ l.most;
  low_enough : (has_enough (g.Self.CountStore.gives l.self) l.min l.event l.low ≡ true) ⊎ (l.low ≡ 0);
  above : (k : ℕ) → l.high < k → k ≤ l.most → has_enough (g.Self.CountStore.gives l.self) l.min l.event k ≡ false;
}

abbrev pub decreases-loop-low : goal.decreases-loop-low
decreases-loop-low g l = l.high - l.low
