use Rattle.std.proofs.Common.{◌≡◌, ℕ, ◌+◌, length, subst, sym, arith}
use Rattle.std.specs.Int.RustNames.{bit_and}
use Rattle.pattern_blocks.specs.Tally.{Adds, HasRoom, row_gain}
use Rattle.pattern_blocks.proofs.Matching.{first_marks, kept_marks}
use Rattle.search_tree.proofs.Grouping.{datum_added, entered_room, entered_shown, last_added, last_room, lost_room, no_block_left, none_settled}
use Rattle.search_tree.proofs.group.tally_blocks.Goals as goal

pub loop-i-init : goal.loop-i-init
loop-i-init c = record {
  marks = first_marks c.args.groups.now.all c.args.group c.args.event.now 0 (λ s below. omega arith);
  added = none_settled c.args.blocks.now.shown c.args.blocks.now.counts c.args.groups.now.all c.args.group c.args.event.now c.args.least c.args.tally.now;
}

pub add_marked-requires-clause-room : goal.add_marked-requires-clause-room
add_marked-requires-clause-room c = lost_room c.args.blocks.now.shown c.args.blocks.now.counts c.args.groups.now.all c.args.group c.args.event.now c.args.groups.now.any c.args.groups.now.totals c.requires.sums c.loop-i.i c.index-event-i.result c.index-event-i.is c.loop-i-test.true c.loop-i.alive (omega arith) c.loop-i.invariant.marks c.word-some.result c.word-some.ensures (omega arith) c.word-every.result c.word-every.ensures (omega arith) c.cats-cats.result c.args.least c.args.tally.now c.loop-i.tally c.cats-cats.ensures c.loop-i.invariant.added c.requires.room

pub tally_entered-requires-clause-shown : goal.tally_entered-requires-clause-shown
tally_entered-requires-clause-shown c = entered_shown c.args.blocks.now.shown c.args.blocks.now.counts c.args.groups.now.all c.args.group c.args.event.now c.args.groups.now.any c.args.groups.now.totals c.requires.sums c.loop-i.i c.index-event-i.result c.index-event-i.is c.loop-i-test.true c.loop-i.alive (omega arith) c.loop-i.invariant.marks c.word-some.result c.word-some.ensures (omega arith) c.word-every.result c.word-every.ensures (omega arith)

pub tally_entered-requires-clause-room : goal.tally_entered-requires-clause-room
tally_entered-requires-clause-room c = entered_room c.args.blocks.now.shown c.args.blocks.now.counts c.args.groups.now.all c.args.group c.args.event.now c.args.groups.now.any c.args.groups.now.totals c.requires.sums c.loop-i.i c.index-event-i.result c.index-event-i.is c.loop-i-test.true c.loop-i.alive (omega arith) c.loop-i.invariant.marks c.word-some.result c.word-some.ensures (omega arith) c.word-every.result c.word-every.ensures (omega arith) c.cats-cats.result c.args.least c.args.tally.now c.loop-i.tally c.cats-cats.ensures c.loop-i.invariant.added c.add_marked.new.tally c.add_marked.ensures c.requires.room

pub loop-i-preserved : goal.loop-i-preserved
loop-i-preserved c = record {
  marks = kept_marks c.args.groups.now.all c.args.group c.args.event.now c.loop-i.i c.index-event-i.result c.index-event-i.is c.loop-i-test.true c.loop-i.alive c.loop-i.invariant.marks c.word-every.result c.word-every.ensures;
  added = datum_added c.args.blocks.now.shown c.args.blocks.now.counts c.args.groups.now.all c.args.group c.args.event.now c.args.groups.now.any c.args.groups.now.totals c.requires.sums c.loop-i.i c.index-event-i.result c.index-event-i.is c.loop-i-test.true c.loop-i.alive (omega arith) c.loop-i.invariant.marks c.word-some.result c.word-some.ensures (omega arith) c.word-every.result c.word-every.ensures (omega arith) c.cats-cats.result c.args.least c.args.tally.now c.loop-i.tally c.cats-cats.ensures c.loop-i.invariant.added c.add_marked.new.tally c.add_marked.ensures c.tally_entered.new.tally c.tally_entered.ensures;
}

pub returns-then-alive-eq0 : goal.returns-then-alive-eq0
returns-then-alive-eq0 c =
    no_block_left c.args.blocks.now.shown c.args.blocks.now.counts c.args.groups.now.all c.args.group c.args.event.now (c.loop-i.i + 1) (bit_and c.loop-i.alive c.word-every.result) c.args.least c.args.tally.now c.tally_entered.new.tally (kept_marks c.args.groups.now.all c.args.group c.args.event.now c.loop-i.i c.index-event-i.result c.index-event-i.is c.loop-i-test.true c.loop-i.alive c.loop-i.invariant.marks c.word-every.result c.word-every.ensures) c.if-alive-eq0.true
    (datum_added c.args.blocks.now.shown c.args.blocks.now.counts c.args.groups.now.all c.args.group c.args.event.now c.args.groups.now.any c.args.groups.now.totals c.requires.sums c.loop-i.i c.index-event-i.result c.index-event-i.is c.loop-i-test.true c.loop-i.alive (omega arith) c.loop-i.invariant.marks c.word-some.result c.word-some.ensures (omega arith) c.word-every.result c.word-every.ensures (omega arith) c.cats-cats.result c.args.least c.args.tally.now c.loop-i.tally c.cats-cats.ensures c.loop-i.invariant.added c.add_marked.new.tally c.add_marked.ensures c.tally_entered.new.tally c.tally_entered.ensures)

pub add_marked-requires-2-clause-room : goal.add_marked-requires-2-clause-room
add_marked-requires-2-clause-room c =
    let end : c.loop-i.i ≡ length c.args.event.now = omega (arith, c.loop-i.auto.i-end, c.loop-i-test.false) in
    subst (λ (n : ℕ). HasRoom c.cats-cats.result c.args.least (row_gain c.args.groups.now.totals c.args.group c.cats-cats.result c.loop-i.alive n) c.loop-i.tally) end
    (last_room c.args.blocks.now.shown c.args.blocks.now.counts c.args.groups.now.all c.args.group c.args.event.now c.args.groups.now.any c.args.groups.now.totals c.requires.sums c.loop-i.i c.loop-i.alive end (omega arith) c.loop-i.invariant.marks c.cats-cats.result c.args.least c.args.tally.now c.loop-i.tally c.cats-cats.ensures c.loop-i.invariant.added c.requires.room)

pub returns : goal.returns
returns c =
    let end : c.loop-i.i ≡ length c.args.event.now = omega (arith, c.loop-i.auto.i-end, c.loop-i-test.false) in
    let more = subst (λ (n : ℕ). Adds c.cats-cats.result c.args.least (row_gain c.args.groups.now.totals c.args.group c.cats-cats.result c.loop-i.alive n) c.loop-i.tally c.add_marked-2.new.tally) (sym end) c.add_marked-2.ensures in
    last_added c.args.blocks.now.shown c.args.blocks.now.counts c.args.groups.now.all c.args.group c.args.event.now c.args.groups.now.any c.args.groups.now.totals c.requires.sums c.loop-i.i c.loop-i.alive end (omega arith) c.loop-i.invariant.marks c.cats-cats.result c.args.least c.args.tally.now c.loop-i.tally c.cats-cats.ensures c.loop-i.invariant.added c.add_marked-2.new.tally more
