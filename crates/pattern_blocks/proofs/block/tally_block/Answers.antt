use Rattle.std.proofs.Common.{◌≡◌, ℕ, ◌+◌, ◌-◌, length, subst, sym, arith}
use Rattle.std.proofs.lemmas.Nat.{and_le_l}
use Rattle.std.specs.Int.RustNames.{bit_and}
use Rattle.pattern_blocks.specs.Tally.{Adds, HasRoom, row_gain}
use Rattle.pattern_blocks.proofs.Matching.{all_added, gain_after, gain_ended, kept_marks, last_marks, lost_marks, nothing_added, row_added, row_room}
use Rattle.pattern_blocks.proofs.block.tally_block.Goals as goal

pub loop-i-init : goal.loop-i-init
loop-i-init c = record {
  marks = c.items_with-alive.ensures;
  added = nothing_added c.args.blocks.now.shown c.args.block c.args.event.now c.args.blocks.now.counts c.args.from c.args.least c.max-start.result c.args.tally.now (omega arith) c.requires.shown;
}

pub add_marked-requires-clause-room : goal.add_marked-requires-clause-room
add_marked-requires-clause-room c =
    row_room c.args.blocks.now.shown c.args.block c.args.event.now c.args.blocks.now.counts c.loop-i.i c.cats-cats.result c.args.least (bit_and c.loop-i.alive (18446744073709551615 - c.word-word.result)) c.args.tally.now c.loop-i.tally c.cats-cats.ensures
    (omega (arith, and_le_l c.loop-i.alive (18446744073709551615 - c.word-word.result)))
    (lost_marks c.args.blocks.now.shown c.args.block c.args.event.now c.loop-i.i c.index-event-i.result c.index-event-i.is c.loop-i-test.true c.loop-i.alive c.loop-i.invariant.marks c.word-word.result c.word-word.ensures (omega arith))
    c.loop-i.invariant.added c.requires.room

pub loop-i-preserved : goal.loop-i-preserved
loop-i-preserved c = record {
  marks = kept_marks c.args.blocks.now.shown c.args.block c.args.event.now c.loop-i.i c.index-event-i.result c.index-event-i.is c.loop-i-test.true c.loop-i.alive c.loop-i.invariant.marks c.word-word.result c.word-word.ensures;
  added = row_added c.args.blocks.now.shown c.args.block c.args.event.now c.args.blocks.now.counts c.loop-i.i c.cats-cats.result c.args.least (bit_and c.loop-i.alive (18446744073709551615 - c.word-word.result)) c.args.tally.now c.loop-i.tally c.cats-cats.ensures
      (omega (arith, and_le_l c.loop-i.alive (18446744073709551615 - c.word-word.result)))
      (lost_marks c.args.blocks.now.shown c.args.block c.args.event.now c.loop-i.i c.index-event-i.result c.index-event-i.is c.loop-i-test.true c.loop-i.alive c.loop-i.invariant.marks c.word-word.result c.word-word.ensures (omega arith))
      c.loop-i.invariant.added c.add_marked.new.tally c.add_marked.ensures;
}

pub returns-then-alive-eq0 : goal.returns-then-alive-eq0
returns-then-alive-eq0 c =
    let i = c.loop-i.i in
    let marks = kept_marks c.args.blocks.now.shown c.args.block c.args.event.now c.loop-i.i c.index-event-i.result c.index-event-i.is c.loop-i-test.true c.loop-i.alive c.loop-i.invariant.marks c.word-word.result c.word-word.ensures in
    let added =
    row_added c.args.blocks.now.shown c.args.block c.args.event.now c.args.blocks.now.counts c.loop-i.i c.cats-cats.result c.args.least (bit_and c.loop-i.alive (18446744073709551615 - c.word-word.result)) c.args.tally.now c.loop-i.tally c.cats-cats.ensures
    (omega (arith, and_le_l c.loop-i.alive (18446744073709551615 - c.word-word.result)))
    (lost_marks c.args.blocks.now.shown c.args.block c.args.event.now c.loop-i.i c.index-event-i.result c.index-event-i.is c.loop-i-test.true c.loop-i.alive c.loop-i.invariant.marks c.word-word.result c.word-word.ensures (omega arith))
    c.loop-i.invariant.added c.add_marked.new.tally c.add_marked.ensures in
    all_added c.args.blocks.now.shown c.args.block c.args.event.now c.args.blocks.now.counts (i + 1) c.args.least c.args.tally.now c.add_marked.new.tally added
    (λ row k beyond. gain_ended c.args.blocks.now.shown c.args.block c.args.event.now c.args.blocks.now.counts (i + 1) (bit_and c.loop-i.alive c.word-word.result) row k marks c.if-alive-eq0.true beyond)

pub add_marked-requires-2-clause-room : goal.add_marked-requires-2-clause-room
add_marked-requires-2-clause-room c =
    let end : c.loop-i.i ≡ length c.args.event.now = omega (arith, c.loop-i.auto.i-end, c.requires.from, c.loop-i-test.false) in
    subst (λ (n : ℕ). HasRoom c.cats-cats.result c.args.least (row_gain c.args.blocks.now.counts c.args.block c.cats-cats.result c.loop-i.alive n) c.loop-i.tally) end
    (row_room c.args.blocks.now.shown c.args.block c.args.event.now c.args.blocks.now.counts c.loop-i.i c.cats-cats.result c.args.least c.loop-i.alive c.args.tally.now c.loop-i.tally c.cats-cats.ensures (omega arith)
    (last_marks c.args.blocks.now.shown c.args.block c.args.event.now c.loop-i.i c.loop-i.alive end c.loop-i.invariant.marks) c.loop-i.invariant.added c.requires.room)

pub returns : goal.returns
returns c =
    let end : c.loop-i.i ≡ length c.args.event.now = omega (arith, c.loop-i.auto.i-end, c.requires.from, c.loop-i-test.false) in
    let more = subst (λ (n : ℕ). Adds c.cats-cats.result c.args.least (row_gain c.args.blocks.now.counts c.args.block c.cats-cats.result c.loop-i.alive n) c.loop-i.tally c.add_marked-2.new.tally) (sym end) c.add_marked-2.ensures in
    let added =
    row_added c.args.blocks.now.shown c.args.block c.args.event.now c.args.blocks.now.counts c.loop-i.i c.cats-cats.result c.args.least c.loop-i.alive c.args.tally.now c.loop-i.tally c.cats-cats.ensures (omega arith)
    (last_marks c.args.blocks.now.shown c.args.block c.args.event.now c.loop-i.i c.loop-i.alive end c.loop-i.invariant.marks) c.loop-i.invariant.added c.add_marked-2.new.tally more in
    all_added c.args.blocks.now.shown c.args.block c.args.event.now c.args.blocks.now.counts (c.loop-i.i + 1) c.args.least c.args.tally.now c.add_marked-2.new.tally added
    (λ row k beyond. gain_after c.args.blocks.now.shown c.args.block c.args.event.now c.args.blocks.now.counts row k (omega arith))
