use Rattle.std.proofs.Common.{◌∙◌, length, arith}
use Rattle.impala_list.proofs.GroupParts.{empty_room, group_counted}
use Rattle.impala_list.proofs.many.count_group.Goals as goal

pub tally_group-requires-clause-room : goal.tally_group-requires-clause-room
tally_group-requires-clause-room c = empty_room c.args.blocks.now.shown c.args.blocks.now.counts c.args._groups c.args.group (length c.args.event.now) c.args.event.now c.requires.store c.requires.group

pub returns : goal.returns
returns c =
    c.of.ensures
    ∙ group_counted c.args.blocks.now.shown c.args.blocks.now.counts c.args.group c.cats.result c.args.event.now c.tally_group.new.tally c.tally_group.ensures c.cats.ensures (omega (arith, c.cats.ensures, c.requires.store.few_cats)) c.requires.few
