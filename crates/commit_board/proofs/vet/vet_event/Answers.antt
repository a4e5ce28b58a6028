use Rattle.std.proofs.Common.{arith, ◌≡◌, ℕ, None, ap, sym, subst, ◌∙◌, length, take}
use Rattle.event_retrieve.specs.Plan.{IsFront}
use Rattle.event_retrieve.specs.Offer.{event_of_turn}
use Rattle.event_retrieve.proofs.Logs.{IsFront-log_of, length-log_of, take-log_of}
use Rattle.commit_board.specs.Vet.{first_outside}
use Rattle.commit_board.proofs.Vetting.{event-means, event-rises, fault_by, known-by, outside-is}
use Rattle.commit_board.proofs.vet.vet_event.Goals as goal

pub slice_bounds-known_event-end : goal.slice_bounds-known_event-end
slice_bounds-known_event-end c =
    let p = c.args.plan.now in
    let o = c.args.offer.now in
    sym (ap length (ap (take o.seen) c.requires.log ∙ take-log_of p o.seen o.index c.requires.seen) ∙ length-log_of p o.seen)

pub known_event-before-requires-clause-front : goal.known_event-before-requires-clause-front
known_event-before-requires-clause-front c =
    let p = c.args.plan.now in
    let o = c.args.offer.now in
    subst (IsFront p) (sym (ap (take o.seen) c.requires.log ∙ take-log_of p o.seen o.index c.requires.seen)) (IsFront-log_of p o.seen (omega arith))

pub known_event-turn-requires-clause-front : goal.known_event-turn-requires-clause-front
known_event-turn-requires-clause-front c =
    let p = c.args.plan.now in
    let o = c.args.offer.now in
    subst (IsFront p) (sym c.requires.log) (IsFront-log_of p o.index (omega arith))

pub returns-in-Some-clause-fault : goal.returns-in-Some-clause-fault
returns-in-Some-clause-fault c =
    let p = c.args.plan.now in
    let o = c.args.offer.now in
    let seen = ap (take o.seen) c.requires.log ∙ take-log_of p o.seen o.index c.requires.seen in
    let event = c.items.ensures.items ∙ c.known_event-before.ensures.data_ ∙ known-by p _ o.seen o.index seen (omega arith) in
    ap (λ v. fault_by v (first_outside o.event (event_of_turn p o.index)))
    (outside-is c.items.result.now c.items-2.result.now _ _ _ (sym c.in-Some.is ∙ c.first_outside.ensures) event c.items-2.ensures.items)

pub returns-in-Some-clause-means : goal.returns-in-Some-clause-means
returns-in-Some-clause-means c = event-means c.args.plan.now c.args.offer.now 64 _ c.items-2.ensures.rising (sym (returns-in-Some-clause-fault c))

pub returns-in-Some-first_outside-clause-fault : goal.returns-in-Some-first_outside-clause-fault
returns-in-Some-first_outside-clause-fault c =
    let p = c.args.plan.now in
    let o = c.args.offer.now in
    let seen = ap (take o.seen) c.requires.log ∙ take-log_of p o.seen o.index c.requires.seen in
    let event = c.items.ensures.items ∙ c.known_event-before.ensures.data_ ∙ known-by p _ o.seen o.index seen (omega arith) in
    let turn = c.items-4.ensures.items ∙ c.known_event-turn.ensures.data_ ∙ known-by p _ o.index o.index c.requires.log (omega arith) in
    ap (λ v. fault_by None v)
    (outside-is c.items-3.result.now c.items-4.result.now _ _ _ (sym c.in-Some-first_outside.is ∙ c.first_outside-2.ensures) c.items-3.ensures.items turn)
    ∙ ap (λ v. fault_by v (first_outside o.event (event_of_turn p o.index)))
    (outside-is c.items.result.now c.items-2.result.now _ _ _ (sym c.in_default.is ∙ c.first_outside.ensures) event c.items-2.ensures.items)

pub returns-in-Some-first_outside-clause-means : goal.returns-in-Some-first_outside-clause-means
returns-in-Some-first_outside-clause-means c =
    event-means c.args.plan.now c.args.offer.now 64 _ c.items-3.ensures.rising (sym (returns-in-Some-first_outside-clause-fault c))

pub returns-in-None-clause-fault : goal.returns-in-None-clause-fault
returns-in-None-clause-fault c =
    let p = c.args.plan.now in
    let o = c.args.offer.now in
    let seen = ap (take o.seen) c.requires.log ∙ take-log_of p o.seen o.index c.requires.seen in
    let event = c.items.ensures.items ∙ c.known_event-before.ensures.data_ ∙ known-by p _ o.seen o.index seen (omega arith) in
    let turn = c.items-4.ensures.items ∙ c.known_event-turn.ensures.data_ ∙ known-by p _ o.index o.index c.requires.log (omega arith) in
    ap (λ v. fault_by None v)
    (outside-is c.items-3.result.now c.items-4.result.now _ _ _ (sym c.in-None.is ∙ c.first_outside-2.ensures) c.items-3.ensures.items turn)
    ∙ ap (λ v. fault_by v (first_outside o.event (event_of_turn p o.index)))
    (outside-is c.items.result.now c.items-2.result.now _ _ _ (sym c.in_default.is ∙ c.first_outside.ensures) event c.items-2.ensures.items)

pub returns-in-None-clause-rises : goal.returns-in-None-clause-rises
returns-in-None-clause-rises c = event-rises c.args.plan.now c.args.offer.now 64 c.items-3.ensures.rising (sym (returns-in-None-clause-fault c))
