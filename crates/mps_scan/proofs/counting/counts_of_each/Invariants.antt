use Rattle.std.proofs.Common.{◌≡◌, map, take}
use Rattle.mps_scan.proofs.counting.counts_of_each.Given as goal

abbrev pub invariant-loop-i : goal.invariant-loop-i
invariant-loop-i g l = l.counts.items ≡ map (g.S.CountStore.gives l.store) (take l.i l.events)
