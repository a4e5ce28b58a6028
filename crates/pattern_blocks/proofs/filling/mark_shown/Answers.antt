use Rattle.std.proofs.Common.{◌%◌, slice_index, refl}
use Rattle.pattern_blocks.specs.Drawn.{word_place}
use Rattle.pattern_blocks.proofs.Drawing.{one_more_shown}
use Rattle.pattern_blocks.proofs.filling.mark_shown.Goals as goal

pub loop-i-preserved : goal.loop-i-preserved
loop-i-preserved c =
    let places = slice_index c.args.places.now in
    let shown = slice_index c.args.shown.now in
    let i = c.loop-i.i in
    one_more_shown places shown c.args.reach c.args.cats c.args.position i (word_place c.args.reach c.args.cats (places i) c.args.position (shown i)) (places i % 64) c.args.words.now c.loop-i.words c.mark_item.new.words
    c.requires.position (c.requires.shown i c.loop-i-test.true) refl refl c.loop-i.invariant c.mark_item.ensures
