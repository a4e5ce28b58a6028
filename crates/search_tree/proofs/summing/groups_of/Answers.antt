use Rattle.search_tree.proofs.Uniform.{groups_sum}
use Rattle.search_tree.proofs.summing.groups_of.Goals as goal

pub returns-clause-sums : goal.returns-clause-sums
returns-clause-sums c =
    groups_sum c.args.blocks.now.shown c.args.blocks.now.counts c.in_ok-totals.totals c.words.result.now c.words-2.result.now c.in_ok-some.some.items c.in_ok-every.every.items c.in_ok-sums.sums.items c.deref.result.now c.args.count c.reach-reach.result c.cats-cats.result c.max-step.result c.of-2.result c.of-3.result
    c.requires.cats_some c.reach-reach.ensures c.cats-cats.ensures c.max-step.ensures c.words.ensures c.words-2.ensures c.in_ok-some.ensures c.in_ok-every.ensures c.in_ok-totals.ensures c.deref.ensures.value c.in_ok-sums.ensures.each c.of-2.ensures c.of-3.ensures
