use Rattle.std.proofs.Common.{arith, ◌≡◌, ◌<◌, ◌∙◌, false, true, ap, sym, subst}
use Rattle.event_retrieve.specs.Plan.{Plan}
use Rattle.commit_board.specs.Board.{State, Fits, IsBoard, front}
use Rattle.spec_run.specs.Bench.{drained, is_offered, with_front_committed}
use Rattle.spec_run.proofs.Settling.{by_offer, front_committed, none_at_end}
use Rattle.spec_run.proofs.Draining.{drained_done, drained_more, nodes_committed}
use Rattle.spec_run.proofs.bench.Bench.drain.Given as given
use Rattle.spec_run.proofs.bench.Bench.drain.Goals as goal

module _ (g : given.Over) (c : goal.Else-not-commit_offered g) where
  left : front c.loop-self.self < c.loop-self.self.nodes
  left =
      omega (arith, c.loop-self-test.true, c.front.ensures, c.length.ensures, ap (λ (s : State). front s) c.self.view_is, ap (λ (s : State). s.nodes) c.self.view_is)

  some : is_offered c.loop-self.self ≡ true
  some = sym c.if-not-commit_offered.ensures.answer

  now : c.commit_offered.new.self ≡ with_front_committed c.args.plan.now c.loop-self.self
  now = c.commit_offered.ensures.board ∙ ap (by_offer c.args.plan.now c.loop-self.self) some

pub loop-self-preserved : goal.loop-self-preserved
loop-self-preserved g c =
    let p = c.args.plan.now in
    c.loop-self.invariant ∙ drained_more p c.loop-self.self (some g c) c.commit_offered.ensures.whole (left g c) ∙ ap (drained p) (sym (now g c))

pub loop-self-smaller : goal.loop-self-smaller
loop-self-smaller g c =
    let p = c.args.plan.now in
    let b = c.loop-self.self in
    let nodes = ap (λ (s : State). s.nodes) (now g c) ∙ nodes_committed p b in
    let next = ap (λ (s : State). front s) (now g c) ∙ front_committed p b c.commit_offered.ensures.whole (left g c) in
    omega (arith, nodes, next, left g c)

pub returns-then-not-commit_offered-clause-board : goal.returns-then-not-commit_offered-clause-board
returns-then-not-commit_offered-clause-board g c =
    let p = c.args.plan.now in
    let b = c.loop-self.self in
    let none : is_offered b ≡ false = sym c.if-not-commit_offered.ensures.answer in
    c.commit_offered.ensures.board ∙ ap (by_offer p b) none ∙ drained_done p b none ∙ sym c.loop-self.invariant

module _ (g : given.Over) (c : goal.After-log g) where
  none : is_offered c.loop-self.self ≡ false
  none =
      let p = c.args.plan.now in
      let b = c.loop-self.self in
      let board = subst IsBoard c.self-2.view_is c.log.ensures.board in
      let fits = subst (λ (x : Plan × State). Fits x.0 x.1) (λ i. (sym c.requires.plan i, c.self-2.view_is i)) c.self-2.invariant.fits in
      let same = ap (λ (s : State). front s) c.self.view_is in
      let nodes = ap (λ (s : State). s.nodes) c.self.view_is in
      none_at_end p b board fits (omega (arith, c.loop-self-test.false, c.front.ensures, c.length.ensures, same, nodes, board.behind, board.inside))

pub returns-clause-board : goal.returns-clause-board
returns-clause-board g c = drained_done c.args.plan.now c.loop-self.self (none g c) ∙ sym c.loop-self.invariant

pub returns-clause-done : goal.returns-clause-done
returns-clause-done g c = none g c
