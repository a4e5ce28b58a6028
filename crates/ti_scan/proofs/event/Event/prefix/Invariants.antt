use Rattle.std.proofs.Common.{◌≡◌, take}
use Rattle.ti_scan.specs.Rising.{RisesFrom}
use Rattle.ti_scan.proofs.event.Event.prefix.Given as goal

abbrev pub invariant-loop-datum : goal.invariant-loop-datum
invariant-loop-datum l = record {
  first : l.first ≡ take l.datum-index l.datum-items;
  items : l.datum-items ≡ take l.len l.self;
  rising : RisesFrom 1 64 l.datum-items;
}
