use Rattle.std.proofs.Common.{arith, sym, subst}
use Rattle.commit_board.specs.Board.{Fits}
use Rattle.commit_board.proofs.Committing.{known_len, few, fits_entry, committed_next, place_few}
use Rattle.commit_board.proofs.board.Board.settle.Goals as goal

pub commit-requires-clause-cat : goal.commit-requires-clause-cat
commit-requires-clause-cat c = omega (arith, known_len c.args.plan.now c.args.self.now c.requires.fits, c.in-Committed.ensures.below)

pub commit-requires-clause-left : goal.commit-requires-clause-left
commit-requires-clause-left c =
    (committed_next c.args.plan.now c.args.self.now c.in-Committed.entry c.requires.fits c.judge.ensures.board c.judge.ensures.plan c.in-Committed.ensures.answer c.in-Committed.ensures.below).left

pub commit-requires-clause-words : goal.commit-requires-clause-words
commit-requires-clause-words c = place_few c.args.plan.now c.args.self.now c.requires.fits c.judge.ensures.board c.judge.ensures.plan

pub commit-requires-clause-few : goal.commit-requires-clause-few
commit-requires-clause-few c =
    few c.args.plan.now c.args.self.now c.requires.fits c.judge.ensures.plan c.in-Committed.entry
    (committed_next c.args.plan.now c.args.self.now c.in-Committed.entry c.requires.fits c.judge.ensures.board c.judge.ensures.plan c.in-Committed.ensures.answer c.in-Committed.ensures.below)

pub returns-in-Committed-clause-entry : goal.returns-in-Committed-clause-entry
returns-in-Committed-clause-entry c =
    committed_next c.args.plan.now c.args.self.now c.in-Committed.entry c.requires.fits c.judge.ensures.board c.judge.ensures.plan c.in-Committed.ensures.answer c.in-Committed.ensures.below

pub returns-in-Committed-clause-fits : goal.returns-in-Committed-clause-fits
returns-in-Committed-clause-fits c =
    subst (Fits c.args.plan.now) (sym c.commit.ensures)
    (fits_entry c.args.plan.now c.args.self.now c.requires.fits c.judge.ensures.plan c.in-Committed.entry
    (committed_next c.args.plan.now c.args.self.now c.in-Committed.entry c.requires.fits c.judge.ensures.board c.judge.ensures.plan c.in-Committed.ensures.answer c.in-Committed.ensures.below))
