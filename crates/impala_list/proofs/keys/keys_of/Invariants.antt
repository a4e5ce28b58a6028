use Rattle.std.proofs.Common.{◌≡◌, length}
use Rattle.impala_list.specs.Keys.{AreKeys}
use Rattle.impala_list.proofs.keys.keys_of.Given as goal

abbrev pub invariant-loop-depth : goal.invariant-loop-depth
invariant-loop-depth g l = record {
  shown : length l.shown.items ≡ l.count;
  keys : AreKeys l.eroded l.depth l.keys.keys.items l.keys.bound;
}
