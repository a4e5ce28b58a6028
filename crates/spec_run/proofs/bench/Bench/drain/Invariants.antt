use Rattle.std.proofs.Common.{◌≡◌, ◌-◌}
use Rattle.commit_board.specs.Board.{front}
use Rattle.spec_run.specs.Bench.{drained}
use Rattle.spec_run.proofs.bench.Bench.drain.Given as goal

abbrev pub invariant-loop-self : goal.invariant-loop-self
invariant-loop-self g l = drained l.plan l.initial.self ≡ drained l.plan l.self

abbrev pub decreases-loop-self : goal.decreases-loop-self
decreases-loop-self g l = l.self.nodes - front l.self
