use Rattle.std.proofs.Common.{arith, ◌∙◌, ap}
use Rattle.mp_base.proofs.Tallies.{length-tally, sum-tally-le}
use Rattle.event_retrieve.specs.Plan.{grid_at}
use Rattle.event_retrieve.specs.Sequential.{picked}
use Rattle.event_retrieve.proofs.LogLemmas.{length-counts_of, total-few, total-retained, length-grid_at, entry_is}
use Rattle.seq_engine.proofs.level.next_entry.Goals as goal

pub pick_with-cat-requires-clause-counts_len : goal.pick_with-cat-requires-clause-counts_len
pick_with-cat-requires-clause-counts_len g c = rw c.retain-kept.ensures.counts (length-counts_of c.args.plan.now.source _)

pub pick_with-cat-requires-clause-known_len : goal.pick_with-cat-requires-clause-known_len
pick_with-cat-requires-clause-known_len g c =
    rw c.requires.known (length-tally (λ v. v) c.args.plan.now.source.cats (grid_at c.args.plan.now c.args.log.now c.args.index).cells)

pub pick_with-cat-requires-clause-counts_some : goal.pick_with-cat-requires-clause-counts_some
pick_with-cat-requires-clause-counts_some g c =
    rw c.retain-kept.ensures.counts
    (omega (arith, total-retained c.args.plan.now c.args.event.now c.level.ensures.plan.enough, c.level.ensures.plan.min_some))

pub pick_with-cat-requires-clause-counts_few : goal.pick_with-cat-requires-clause-counts_few
pick_with-cat-requires-clause-counts_few g c =
    rw c.retain-kept.ensures.counts (total-few c.args.plan.now.source _ c.level.ensures.plan.source)

pub pick_with-cat-requires-clause-known_few : goal.pick_with-cat-requires-clause-known_few
pick_with-cat-requires-clause-known_few g c =
    rw c.requires.known
    (omega (
      arith,
      sum-tally-le (λ v. v) c.args.plan.now.source.cats (grid_at c.args.plan.now c.args.log.now c.args.index).cells,
      length-grid_at c.args.plan.now c.args.log.now c.args.index,
      c.level.ensures.plan.start.count,
      c.level.ensures.plan.start.shape.fits,
    ))

pub returns-clause-entry : goal.returns-clause-entry
returns-clause-entry g c =
    let p = c.args.plan.now in
    let drawn = c.pick_with-cat.ensures.category ∙ ap (λ w. picked p w c.retain-kept.result.counts c.args.known.now) c.requires.word in
    entry_is p c.args.log.now c.args.index c.pick_with-cat.result c.args.event.now c.retain-kept.result.counts c.args.known.now c.requires.event c.retain-kept.ensures.counts c.requires.known drawn c.cell_of.result c.cell_of.ensures
