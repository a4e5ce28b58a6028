use Rattle.std.proofs.Common.{sym}
use Rattle.commit_board.proofs.board.Board.judge.Goals as goal

pub judge_offer-requires-clause-sound : goal.judge_offer-requires-clause-sound
judge_offer-requires-clause-sound c = c.requires.fits.sound 0 c.in-Some.offer.now (sym c.in-Some.ensures)
