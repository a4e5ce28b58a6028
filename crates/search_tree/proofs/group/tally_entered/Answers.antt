use Rattle.search_tree.proofs.Possible.{entered_added, entered_room, first_of}
use Rattle.search_tree.proofs.group.tally_entered.Goals as goal

pub tally_open-requires-clause-shown : goal.tally_open-requires-clause-shown
tally_open-requires-clause-shown c = λ s below set u u_below. c.requires.shown s below (first_of c.args.entered c.args.possible s set) u u_below

pub tally_open-requires-clause-room : goal.tally_open-requires-clause-room
tally_open-requires-clause-room c = entered_room c.args.blocks.now.shown c.args.blocks.now.counts c.args.group c.args.event.now c.args.least c.args.possible c.requires.possible c.args.blocks.now.shown.cats c.args.entered c.args.tally.now c.requires.room

pub returns : goal.returns
returns c = entered_added c.args.blocks.now.shown c.args.blocks.now.counts c.args.group c.args.event.now c.args.least c.args.possible c.requires.possible c.args.blocks.now.shown.cats c.args.entered c.args.tally.now c.tally_open.new.tally c.tally_open.ensures
