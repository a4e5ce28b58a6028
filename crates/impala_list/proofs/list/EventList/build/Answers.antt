use Rattle.std.proofs.Common.{◌≤◌, ◌^◌, length, ap, arith}
use Rattle.pattern_store.specs.Levels.{many}
use Rattle.impala_list.proofs.Ranks.{classes_few}
use Rattle.impala_list.proofs.list.EventList.build.Goals as goal

pub blocks_of-requires-clause-groups : goal.blocks_of-requires-clause-groups
blocks_of-requires-clause-groups g c =
    let few : many c.args.eroded.now ≤ 2 ^ 20 = omega (arith, ap length c.positions.ensures.positions, c.positions.ensures.few) in
    omega (arith, few, c.in_ok-keys.ensures.count, ap length c.deref.ensures.value, classes_few c.deref.result.now c.in_ok-ranking.ranking.places.items c.in_ok-ranking.ranking.classes c.in_ok-ranking.ensures)

pub listed-requires-clause-few : goal.listed-requires-clause-few
listed-requires-clause-few g c =
    let few : many c.args.eroded.now ≤ 2 ^ 20 = omega (arith, ap length c.positions.ensures.positions, c.positions.ensures.few) in
    omega (arith, few, c.in_ok-keys.ensures.count, ap length c.deref.ensures.value, classes_few c.deref.result.now c.in_ok-ranking.ranking.places.items c.in_ok-ranking.ranking.classes c.in_ok-ranking.ensures)
