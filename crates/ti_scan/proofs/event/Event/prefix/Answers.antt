use Rattle.std.proofs.Common.{ap, take}
use Rattle.ti_scan.proofs.RisingLemmas.{RisesFrom-at, next_from-take, RisesFrom-take}
use Rattle.ti_scan.proofs.event.Event.prefix.Goals as goal

pub push-requires-clause-after : goal.push-requires-clause-after
push-requires-clause-after c =
    let i = c.loop-datum.datum-index in
    let xs = take c.args.len c.items.result.now in
    rw (c.loop-datum.invariant.first, c.datum-item.is)
    (next_from-take 1 64 i xs c.datum-item.result c.loop-datum.invariant.rising c.loop-datum-test.true)

pub push-requires-clause-last : goal.push-requires-clause-last
push-requires-clause-last c =
    rw c.datum-item.is
    (RisesFrom-at 1 64 c.loop-datum.datum-index (take c.args.len c.items.result.now) c.datum-item.result c.loop-datum.invariant.rising c.loop-datum-test.true).1

pub loop-datum-init : goal.loop-datum-init
loop-datum-init c = record {
  first = c.empty-first.ensures;
  items = ap (take c.args.len) c.items.ensures.items;
  rising = rw c.items.ensures.items (RisesFrom-take 1 64 c.args.len c.args.self.now c.items.ensures.rising);
}
