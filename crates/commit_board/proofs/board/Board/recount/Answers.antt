use Rattle.std.proofs.Common.{arith, ◌≡◌, ◌<◌, ◌∙◌, ap, sym, subst, length}
use Rattle.event_retrieve.specs.declared.offer.Offer.{Offer}
use Rattle.event_retrieve.specs.Plan.{IsFront, known}
use Rattle.event_retrieve.specs.Offer.{IsRetained, event_of_turn}
use Rattle.event_retrieve.proofs.Logs.{IsFront-log_of}
use Rattle.commit_board.specs.Board.{State, Fits, with_front}
use Rattle.commit_board.specs.contracts.board.Board.{the_view}
use Rattle.commit_board.proofs.Committing.{recounted, put_front}
use Rattle.commit_board.proofs.board.Board.recount.Goals as goal

pub known_event-event-requires-clause-front : goal.known_event-event-requires-clause-front
known_event-event-requires-clause-front g c =
    let p = c.args.plan.now in
    let fits = subst (Fits p) (sym c.self.view_is) c.requires.fits in
    let few : length c.self.inside.log.items < c.self.inside.nodes = subst (λ b. length b.log < b.nodes) (sym c.self.view_is) c.requires.left in
    subst (IsFront p) (sym (c.as_slice.ensures.value ∙ fits.prefix)) (IsFront-log_of p (length c.self.inside.log.items) (omega (arith, few, fits.whole)))

pub invariant_of-self : goal.invariant_of-self
invariant_of-self g c = (put_front (the_view c.self.inside) _ c.self.invariant.0 (ap (λ (o : Offer). o.index) c.offer_at.ensures ∙ c.front-front.ensures ∙ ap (λ (b : State). length b.log) (sym c.self.view_is)), c.self.invariant.1)

pub returns-clause-retained : goal.returns-clause-retained
returns-clause-retained g c =
    let p = c.args.plan.now in
    let fits = subst (Fits p) (sym c.self.view_is) c.requires.fits in
    let few : length c.self.inside.log.items < c.self.inside.nodes = subst (λ b. length b.log < b.nodes) (sym c.self.view_is) c.requires.left in
    let len : c.front-front.result ≡ length c.self.inside.log.items = c.front-front.ensures ∙ ap (λ (b : State). length b.log) (sym c.self.view_is) in
    let event : c.known_event-event.result ≡ known p c.self.inside.log.items (length c.self.inside.log.items) (length c.self.inside.log.items) =
    c.known_event-event.ensures.data_ ∙ ap (λ l. known p l (length l) c.front-front.result) c.as_slice.ensures.value ∙ ap (known p c.self.inside.log.items (length c.self.inside.log.items)) len in
    let kept = (recounted p (the_view c.self.inside) c.front-front.result c.known_event-event.result c.retain-retained.result fits few len event (record { len = c.retain-retained.ensures.len; reach = c.retain-retained.ensures.reach; counts = c.retain-retained.ensures.counts })).0 in
    subst (λ r. IsRetained p (event_of_turn p (length c.args.self.now.log)) r) (sym c.copy-answer.ensures)
    (subst (λ b. IsRetained p (event_of_turn p (length b.log)) c.retain-retained.result) c.self.view_is kept)

pub returns-clause-fits : goal.returns-clause-fits
returns-clause-fits g c =
    let p = c.args.plan.now in
    let fits = subst (Fits p) (sym c.self.view_is) c.requires.fits in
    let few : length c.self.inside.log.items < c.self.inside.nodes = subst (λ b. length b.log < b.nodes) (sym c.self.view_is) c.requires.left in
    let len : c.front-front.result ≡ length c.self.inside.log.items = c.front-front.ensures ∙ ap (λ (b : State). length b.log) (sym c.self.view_is) in
    let event : c.known_event-event.result ≡ known p c.self.inside.log.items (length c.self.inside.log.items) (length c.self.inside.log.items) =
    c.known_event-event.ensures.data_ ∙ ap (λ l. known p l (length l) c.front-front.result) c.as_slice.ensures.value ∙ ap (known p c.self.inside.log.items (length c.self.inside.log.items)) len in
    subst (λ (o : Offer). Fits p (with_front (the_view c.self.inside) o)) (sym c.offer_at.ensures)
    (recounted p (the_view c.self.inside) c.front-front.result c.known_event-event.result c.retain-retained.result fits few len event (record { len = c.retain-retained.ensures.len; reach = c.retain-retained.ensures.reach; counts = c.retain-retained.ensures.counts })).1
