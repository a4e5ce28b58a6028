use Rattle.std.proofs.Common.{ℕ, ◌+◌, ◌/◌, ◌≤◌, ◌^◌, List, ap, length, subst, arith}
use Rattle.pattern_store.specs.Building.{IsBuilt}
use Rattle.pattern_store.specs.Levels.{many}
use Rattle.search_tree.proofs.BlockSums.{block_sums}
use Rattle.search_tree.proofs.tree.SearchTree.build.Goals as goal

pub groups_of-requires-clause-sums : goal.groups_of-requires-clause-sums
groups_of-requires-clause-sums c =
    let s = c.args.eroded.now in
    let ranks = c.in_ok-ranks.ranks in
    let blocks = c.in_ok-blocks.blocks in
    let count = ranks.classes / 4096 + 1 in
    let few : many s ≤ 2 ^ 20 = omega (arith, ap length c.positions.ensures.positions, c.positions.ensures.few) in
    let built = subst (λ (p : List ℕ). IsBuilt s p count blocks.shown blocks.counts) c.deref.ensures.value c.in_ok-blocks.ensures in
    block_sums s c.positions.ensures.source few ranks.places.items count blocks.shown blocks.counts built
