use Rattle.commit_board.specs.Board.{Fits}
use Rattle.commit_board.proofs.tests.claim_all.Given as goal

abbrev pub invariant-loop : goal.invariant-loop
invariant-loop l = Fits l.plan l.board
