use Rattle.std.proofs.Common.{refl, arith}
use Rattle.std.specs.Int.{trailing_zeros, w64}
use Rattle.search_tree.proofs.Opening.{all_opened, block_added, block_room, lowest_item, lowest_taken, none_opened, within_rest}
use Rattle.search_tree.proofs.group.tally_open.Goals as goal

pub loop-left-init : goal.loop-left-init
loop-left-init c = record {
  within = λ s below set. set;
  added = none_opened c.args.blocks.now.shown c.args.blocks.now.counts c.args.group c.args.event.now c.args.blocks.now.shown.cats c.args.least c.args.entered c.args.tally.now;
}

pub tally_block-requires-clause-shown : goal.tally_block-requires-clause-shown
tally_block-requires-clause-shown c =
    let left = c.loop-left.left in
    let item = trailing_zeros w64 left in
    let found = lowest_item left item (omega arith) c.loop-left-test.true refl in
    λ s below. c.requires.shown item found.0 (c.loop-left.invariant.within item found.0 found.1) s below

pub tally_block-requires-clause-room : goal.tally_block-requires-clause-room
tally_block-requires-clause-room c =
    let left = c.loop-left.left in
    let item = trailing_zeros w64 left in
    let lowest = lowest_taken left item (omega arith) c.loop-left-test.true refl in
    block_room c.args.blocks.now.shown c.args.blocks.now.counts c.args.group c.args.event.now c.args.blocks.now.shown.cats c.args.least c.args.entered left item _ c.args.tally.now c.loop-left.tally lowest
    (c.loop-left.invariant.within item lowest.below lowest.set) c.loop-left.invariant.added c.requires.room

pub loop-left-smaller : goal.loop-left-smaller
loop-left-smaller c =
    let lowest = lowest_taken c.loop-left.left (trailing_zeros w64 c.loop-left.left) (omega arith) c.loop-left-test.true refl in
    lowest.less

pub loop-left-preserved : goal.loop-left-preserved
loop-left-preserved c =
    let left = c.loop-left.left in
    let item = trailing_zeros w64 left in
    let lowest = lowest_taken left item (omega arith) c.loop-left-test.true refl in
    record {
      within = within_rest c.args.entered left item _ lowest c.loop-left.invariant.within;
      added = block_added c.args.blocks.now.shown c.args.blocks.now.counts c.args.group c.args.event.now c.args.blocks.now.shown.cats c.args.least c.args.entered left item _ c.args.tally.now c.loop-left.tally lowest
          (c.loop-left.invariant.within item lowest.below lowest.set) c.loop-left.invariant.added c.tally_block.new.tally c.tally_block.ensures;
    }

pub returns : goal.returns
returns c = all_opened c.args.blocks.now.shown c.args.blocks.now.counts c.args.group c.args.event.now c.args.blocks.now.shown.cats c.args.least c.args.entered c.loop-left.left c.args.tally.now c.loop-left.tally c.loop-left-test.false c.loop-left.invariant.added
