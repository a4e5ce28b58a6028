use Rattle.std.proofs.Common.{ap, length, ◌∙◌}
use Rattle.commit_board.specs.Board.{State, after_settle, settle_of}
use Rattle.commit_board.proofs.Again.{committed_again}
use Rattle.commit_board.proofs.board.commit_next.Goals as goal

pub returns-clause-one : goal.returns-clause-one
returns-clause-one g c =
    let p = c.args.plan.now in
    let b = c.args.board.now in
    ap (λ (n : State). length n.log) (c.settle.ensures.board ∙ ap (after_settle c.recount.new.self) c.settle.ensures.answer ∙ ap (λ (n : State). after_settle n (settle_of p n)) c.recount.ensures.board)
    ∙ committed_again p b c.recount.result c.log.ensures.board c.requires.left
