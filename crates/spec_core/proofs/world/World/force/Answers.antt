use Rattle.std.proofs.Common.{arith, ap, sym, subst, cond, Bool, true, ℕ, ◌≡◌, ◌<◌, ◌∙◌}
use Rattle.std.proofs.lemmas.Bool.Decides.{nat_tests}
use Rattle.event_retrieve.specs.declared.retrieval.Retained.{Retained}
use Rattle.event_retrieve.specs.Offer.{IsRetained, event_of_turn}
use Rattle.commit_board.specs.Board.{State, front, front_offer, with_front, recounted}
use Rattle.spec_steps.specs.declared.answer.Answer.TheVariants.{Recounted, Skip}
use Rattle.spec_core.specs.World.{Machine, machine, may_force}
use Rattle.commit_board.proofs.Again.{recounted_is}
use Rattle.spec_core.proofs.world.World.force.Given as given
use Rattle.spec_core.proofs.world.World.force.Goals as goal

may : (m : Machine) → m.shown ≡ front m.board → front m.board < m.board.nodes → may_force m ≡ true
may m shown left = grind (arith, nat_tests)

module _ (g : given.Over) (c : goal.After-recount-retained g) where
  front_is : c.front-index.result ≡ front c.args.self.now.board
  front_is = c.front-index.ensures ∙ ap (λ (m : Machine). front m.board) c.self.view_is

  left : front c.args.self.now.board < c.args.self.now.board.nodes
  left = omega (arith, front_is, ap (λ (m : Machine). m.board.nodes) c.self.view_is)

  forced : may_force c.args.self.now ≡ true
  forced = may c.args.self.now (sym (ap (λ (m : Machine). m.shown) c.self.view_is) ∙ c.if-self-index.false ∙ front_is) left

  again : c.recount-retained.result ≡ recounted c.args.plan.now c.args.self.now.board
  again =
      let p = c.args.plan.now in
      let r = c.recount-retained.result in
      recounted_is p c.args.self.now.board r c.requires.fits.board (omega (arith, left, c.requires.fits.board.whole))
      (subst (λ (m : Machine). IsRetained p (event_of_turn p (front m.board)) r) c.self.view_is c.recount-retained.ensures.retained)

pub returns-clause-answer : goal.returns-clause-answer
returns-clause-answer g c =
    let b = c.args.self.now.board in
    let whole = recounted c.args.plan.now b in
    ap (λ (i : ℕ). Recounted i c.recount-retained.result) (front_is g c) ∙ ap (λ (r : Retained). Recounted (front b) r) (again g c)
    ∙ ap (λ (may : Bool). cond may (Recounted (front b) whole) Skip) (sym (forced g c))

pub returns-clause-world : goal.returns-clause-world
returns-clause-world g c =
    let p = c.args.plan.now in
    let m = c.args.self.now in
    let put = λ (m : Machine) (r : Retained). machine (with_front m.board (front_offer p m.board r)) m.shown m.workers in
    ap (λ (b : State). machine b c.self.inside.shown c.self.inside.workers.items) c.recount-retained.ensures.board ∙ ap (λ (m : Machine). put m c.recount-retained.result) c.self.view_is
    ∙ ap (put m) (again g c) ∙ ap (λ (may : Bool). cond may (put m (recounted p m.board)) m) (sym (forced g c))
