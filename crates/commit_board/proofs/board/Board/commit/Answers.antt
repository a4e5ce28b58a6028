use Rattle.std.proofs.Common.{arith, ◌+◌, ◌<◌, ◌∙◌, length, max, ap, sym, subst}
use Rattle.commit_board.specs.Board.{State}
use Rattle.commit_board.specs.contracts.board.Board.{the_view}
use Rattle.commit_board.proofs.Committing.{turned}
use Rattle.commit_board.proofs.board.Board.commit.Goals as goal

pub invariant_of-self : goal.invariant_of-self
invariant_of-self c = (
  turned (the_view c.self.inside) c.args.entry.now _ _ _ _ _ c.self.invariant.0 (subst (λ b. length b.log < b.nodes) (sym c.self.view_is) c.requires.left)
      (c.next_after-self-inside.ensures ∙ ap (λ n. max c.self.inside.next (n + 1)) (c.front-front.ensures ∙ ap (λ (b : State). length b.log) (sym c.self.view_is))) c.push_reserved.ensures.items c.rotate_left.ensures.items,
  omega (arith, c.self.invariant.1, c.push_reserved.ensures.capacity),
)
