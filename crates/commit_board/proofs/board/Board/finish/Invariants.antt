use Rattle.std.proofs.Common.{◌-◌, ◌≤◌, length}
use Rattle.event_retrieve.specs.Plan.{nodes_in}
use Rattle.commit_board.specs.Board.{Fits}
use Rattle.commit_board.proofs.board.Board.finish.Given as goal

abbrev pub invariant-loop-board : goal.invariant-loop-board
invariant-loop-board g l = record {
  fits : Fits l.plan l.board;
  inside : length l.board.log ≤ nodes_in l.plan;
}

abbrev pub decreases-loop-board : goal.decreases-loop-board
decreases-loop-board g l = nodes_in l.plan - length l.board.log
