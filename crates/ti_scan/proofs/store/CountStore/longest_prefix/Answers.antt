use Rattle.std.proofs.Common.{arith, sym}
use Rattle.ti_scan.proofs.RisingLemmas.{RisesFrom-take}
use Rattle.ti_scan.proofs.Greatest.{greatest_is}
use Rattle.ti_scan.specs.Prefix.{longest, has_enough}
use Rattle.ti_scan.proofs.store.CountStore.longest_prefix.Goals as goal

pub counts-requires : goal.counts-requires
counts-requires g c = rw c.prefix.ensures (RisesFrom-take 1 (g.Self.CountStore.reaches c.args.self.now) _ c.args.event.now c.requires.event)

pub counts-requires-2 : goal.counts-requires-2
counts-requires-2 g c = rw c.prefix-2.ensures (RisesFrom-take 1 (g.Self.CountStore.reaches c.args.self.now) _ c.args.event.now c.requires.event)

pub returns-clause-len : goal.returns-clause-len
unfolding longest
returns-clause-len g c =
    sym (greatest_is (has_enough (g.Self.CountStore.gives c.args.self.now) c.args.min c.args.event.now) c.args.most c.loop-low.low (omega arith) c.loop-low.invariant.low_enough (λ k above within. c.loop-low.invariant.above k (omega arith) within))
