use Rattle.std.proofs.Common.{◌≡◌, arith}
use Rattle.impala_list.proofs.BlockSums.{all_gained, block_added, block_room, none_gained}
use Rattle.impala_list.proofs.tally.tally_group.Goals as goal

pub loop-item-init : goal.loop-item-init
loop-item-init c = none_gained c.args.blocks.now.shown c.args.blocks.now.counts c.args.group c.args.event.now c.args.blocks.now.shown.cats c.args.least c.args.tally.now

pub tally_block-requires-clause-room : goal.tally_block-requires-clause-room
tally_block-requires-clause-room c = block_room c.args.blocks.now.shown c.args.blocks.now.counts c.args.group c.args.event.now c.args.blocks.now.shown.cats c.args.least c.loop-item.item c.args.tally.now c.loop-item.tally c.loop-item.invariant c.loop-item-test.true c.requires.room

pub loop-item-preserved : goal.loop-item-preserved
loop-item-preserved c = block_added c.args.blocks.now.shown c.args.blocks.now.counts c.args.group c.args.event.now c.args.blocks.now.shown.cats c.args.least c.loop-item.item c.args.tally.now c.loop-item.tally c.loop-item.invariant c.tally_block.new.tally c.tally_block.ensures

pub returns : goal.returns
returns c =
    let end : c.loop-item.item ≡ 64 = omega (arith, c.loop-item.auto.item-end, c.loop-item-test.false) in
    all_gained c.args.blocks.now.shown c.args.blocks.now.counts c.args.group c.args.event.now c.args.blocks.now.shown.cats c.args.least c.loop-item.item c.args.tally.now c.loop-item.tally c.loop-item.invariant end
