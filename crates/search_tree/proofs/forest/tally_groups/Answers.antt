use Rattle.std.proofs.Common.{◌≡◌, ℕ, ◌+◌, ◌*◌, replicate, ap, arith}
use Rattle.pattern_store.specs.Gains.{store_gain}
use Rattle.pattern_store.proofs.Stored.{gain_room}
use Rattle.pattern_store.proofs.StoreSums.{group_added, group_room, none_tallied, zero_tally}
use Rattle.search_tree.proofs.forest.tally_groups.Goals as goal

pub loop-group-init : goal.loop-group-init
loop-group-init c = none_tallied c.args.blocks.now.shown c.args.blocks.now.counts c.args.event.now c.args.least _

pub tally_group-requires-clause-room : goal.tally_group-requires-clause-room
tally_group-requires-clause-room c =
    group_room c.args.blocks.now.shown c.args.blocks.now.counts c.args.event.now c.args.groups.now.count c.loop-group.group c.args.least c.loop-group-test.true (replicate 520 0) c.loop-group.tally c.loop-group.invariant
    (λ row k below from. zero_tally (row * 8 + k)) (gain_room c.args.blocks.now.shown c.args.blocks.now.counts c.args.groups.now.count c.requires.tree.store c.args.event.now)

pub loop-group-preserved : goal.loop-group-preserved
loop-group-preserved c =
    group_added c.args.blocks.now.shown c.args.blocks.now.counts c.args.event.now c.args.groups.now.count c.loop-group.group c.args.least c.loop-group-test.true (replicate 520 0) c.loop-group.tally c.loop-group.invariant c.tally_group.new.tally c.tally_group.ensures

pub returns : goal.returns
returns c =
    let end : c.loop-group.group ≡ c.args.groups.now.count = omega (arith, c.loop-group.auto.group-end, c.loop-group-test.false) in
    record {
      count = c.loop-group.invariant.count;
      each = λ row k within below from. omega (
        arith,
        c.loop-group.invariant.each row k below from,
        zero_tally (row * 8 + k),
        ap (λ (n : ℕ). store_gain c.args.blocks.now.shown c.args.blocks.now.counts n c.args.event.now row k) end,
      );
    }
