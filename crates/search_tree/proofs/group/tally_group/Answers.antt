use Rattle.search_tree.proofs.Possible.{holds_rest, none_possible}
use Rattle.search_tree.proofs.group.tally_group.Goals as goal

pub tally_blocks-requires-clause-possible : goal.tally_blocks-requires-clause-possible
tally_blocks-requires-clause-possible c =
    holds_rest c.args.blocks.now.shown c.args.blocks.now.counts c.args.groups.now.any c.args.groups.now.all c.args.groups.now.totals c.args.group c.args.event.now c.requires.sums c.args.least c.items_with-possible.result c.items_with-possible.ensures

pub returns-else-possible-ne0 : goal.returns-else-possible-ne0
returns-else-possible-ne0 c =
    none_possible c.args.blocks.now.shown c.args.blocks.now.counts c.args.group c.args.event.now c.args.least c.items_with-possible.result
    (holds_rest c.args.blocks.now.shown c.args.blocks.now.counts c.args.groups.now.any c.args.groups.now.all c.args.groups.now.totals c.args.group c.args.event.now c.requires.sums c.args.least c.items_with-possible.result c.items_with-possible.ensures)
    c.args.blocks.now.shown.cats c.args.tally.now c.if-possible-ne0.false
