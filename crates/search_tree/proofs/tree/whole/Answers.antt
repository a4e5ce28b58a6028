use Rattle.std.proofs.Common.{◌≤◌, ◌^◌, ap, length, arith}
use Rattle.pattern_store.specs.Levels.{many}
use Rattle.pattern_store.proofs.Standing.{built-is-store, built-stands}
use Rattle.search_tree.proofs.tree.whole.Goals as goal

pub invariant_of-result : goal.invariant_of-result
invariant_of-result c =
    let s = c.args.eroded.now in
    let ranks = c.args.ranks in
    let few : many s ≤ 2 ^ 20 = omega (arith, ap length c.positions.ensures.positions, c.positions.ensures.few) in
    record {
      store = built-is-store s c.positions.ensures.source few ranks.places.items ranks.classes c.args.groups.count c.requires.ranked.alike c.requires.ranked.below c.requires.room c.requires.few c.args.blocks.shown c.args.blocks.counts c.requires.built;
      sums = c.requires.sums;
    }

pub returns-clause-stands : goal.returns-clause-stands
returns-clause-stands c =
    let s = c.args.eroded.now in
    let ranks = c.args.ranks in
    let few : many s ≤ 2 ^ 20 = omega (arith, ap length c.positions.ensures.positions, c.positions.ensures.few) in
    let stands = built-stands s c.positions.ensures.source few ranks.places.items ranks.classes c.args.groups.count c.requires.ranked.alike c.requires.ranked.below c.requires.room c.requires.few c.args.blocks.shown c.args.blocks.counts c.requires.built in
    record {
      reach = stands.reach;
      counts = stands.counts;
    }
