use Rattle.std.proofs.Common.{arith, sym, subst, length}
use Rattle.mp_base.proofs.Tallies.{sum-tally-le}
use Rattle.event_retrieve.specs.Plan.{grid_at}
use Rattle.event_retrieve.proofs.LogLemmas.{length-counts_of, total-few, total-retained, length-grid_at}
use Rattle.commit_board.specs.Board.{Fits}
use Rattle.commit_board.proofs.Committing.{known_len}
use Rattle.commit_board.proofs.board.Board.entry_by.Goals as goal

pub pick_with-requires-clause-counts_len : goal.pick_with-requires-clause-counts_len
pick_with-requires-clause-counts_len c = rw c.requires.sound.retained.counts (length-counts_of c.args.plan.now.source _)

pub pick_with-requires-clause-known_len : goal.pick_with-requires-clause-known_len
pick_with-requires-clause-known_len c = known_len c.args.plan.now _ (subst (Fits c.args.plan.now) (sym c.self.view_is) c.requires.fits)

pub pick_with-requires-clause-counts_some : goal.pick_with-requires-clause-counts_some
pick_with-requires-clause-counts_some c =
    rw c.requires.sound.retained.counts (omega (arith, total-retained c.args.plan.now c.args.offer.now.event c.length.ensures.plan.enough, c.length.ensures.plan.min_some))

pub pick_with-requires-clause-counts_few : goal.pick_with-requires-clause-counts_few
pick_with-requires-clause-counts_few c = rw c.requires.sound.retained.counts (total-few c.args.plan.now.source _ c.length.ensures.plan.source)

pub pick_with-requires-clause-known_few : goal.pick_with-requires-clause-known_few
pick_with-requires-clause-known_few c =
    let p = c.args.plan.now in
    let fits = subst (Fits p) (sym c.self.view_is) c.requires.fits in
    let log = c.self.inside.log.items in
    rw fits.known
    (omega (
      arith,
      sum-tally-le (λ v. v) p.source.cats (grid_at p log (length log)).cells,
      length-grid_at p log (length log),
      c.length.ensures.plan.start.count,
      c.length.ensures.plan.start.shape.fits,
    ))
