use Rattle.pattern_store.proofs.Stored.{rows_room}
use Rattle.pattern_store.proofs.answering.longest_of.Goals as goal

pub longest_in-requires-clause-tally : goal.longest_in-requires-clause-tally
longest_in-requires-clause-tally g c = c.requires.tallies c.loop-longest.least c.tally-rows.result c.loop-longest.invariant c.tally-rows.ensures

pub longest_in-requires-clause-room : goal.longest_in-requires-clause-room
longest_in-requires-clause-room g c = rows_room c.args.blocks.now.shown c.args.blocks.now.counts c.args.groups c.requires.store c.args.event.now
