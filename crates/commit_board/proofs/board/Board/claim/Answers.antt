use Rattle.std.proofs.Common.{sym, subst}
use Rattle.commit_board.specs.Board.{Fits}
use Rattle.commit_board.proofs.board.Board.claim.Goals as goal

pub returns-clause-fits : goal.returns-clause-fits
returns-clause-fits c = λ p fits. let was = subst (Fits p) (sym c.self.view_is) fits in record { whole = was.whole; prefix = was.prefix; known = was.known; words = was.words; sound = was.sound }
