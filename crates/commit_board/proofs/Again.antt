-- Counting the front again, and committing it by that.
use Rattle.std.proofs.Common.{arith, ◌≡◌, ℕ, ◌+◌, ◌-◌, ◌<◌, ◌≤◌, Bool, false, cond, ◌==◌, List, [], ◌∷◌, length, set, Option, Some, None, refl, ap, sym, subst, ◌∙◌}
use Rattle.std.proofs.lemmas.Bool.Decides.{nat_tests}
use Rattle.std.proofs.lemmas.List.{length_push}
use Rattle.ti_scan.specs.declared.event.Datum.{Datum}
use Rattle.event_retrieve.specs.declared.offer.Offer.{Offer}
use Rattle.event_retrieve.specs.declared.retrieval.Retained.{Retained}
use Rattle.event_retrieve.specs.Offer.{IsRetained, event_of_turn, stale_by}
use Rattle.event_retrieve.specs.Plan.{Plan, known, nodes_in}
use Rattle.event_retrieve.specs.Retrieval.{retained_of}
use Rattle.event_retrieve.proofs.Stale.{stale_by_is_none}
use Rattle.commit_board.specs.declared.settle.Settle.{Settle}
use Rattle.commit_board.specs.declared.settle.Settle.TheVariants.{Committed, Ended}
use Rattle.commit_board.specs.Board.{State, Fits, IsBoard, after_settle, entry_by, front, front_offer, kept_at, offer_in, recounted, settle_at, settle_by, settle_of, with_front}
use Rattle.commit_board.proofs.Committing.{event_before}

abbrev retained_by : ℕ → ℕ → List ℕ → Retained
retained_by len reach counts = record { len = len; reach = reach; counts = counts }

-- what is retained of an event is one value
pub retained_is : (p : Plan) (event : List Datum) (r : Retained) → IsRetained p event r → r ≡ retained_of p event
retained_is p event r kept =
    let whole = retained_of p event in
    ap (λ (n : ℕ). retained_by n r.reach r.counts) kept.len ∙ ap (λ (n : ℕ). retained_by whole.len n r.counts) kept.reach ∙ ap (λ (n : List ℕ). retained_by whole.len whole.reach n) kept.counts

-- what the front retains at its turn is what counting it again gives
pub recounted_is : (p : Plan) (b : State) (r : Retained) → Fits p b → front b ≤ nodes_in p → IsRetained p (event_of_turn p (front b)) r → r ≡ recounted p b
recounted_is p b r fits within kept =
    let now : event_of_turn p (front b) ≡ known p b.log (front b) (front b) = event_before p (front b) within ∙ ap (λ l. known p l (front b) (front b)) (sym fits.prefix) in
    retained_is p (known p b.log (front b) (front b)) r (subst (λ e. IsRetained p e r) now kept)

first_set : (slots : List (Option Offer)) (o : Offer) → 1 ≤ length slots → offer_in (set slots 0 (Some o)) 0 ≡ Some o
first_set [] o some = absurd (omega arith)
first_set (x ∷ slots) o some = refl

-- Once the front was counted again, settling commits it.
pub committed_again : (p : Plan) (b : State) (r : Retained) → IsBoard b → front b < b.nodes → length (after_settle (with_front b (front_offer p b r)) (settle_of p (with_front b (front_offer p b r)))).log ≡ front b + 1
committed_again p b r board left =
    let o = front_offer p b r in
    let again = with_front b o in
    let not_ended : (front b == b.nodes) ≡ false = grind (arith, nat_tests) in
    let here : front b - front b ≡ 0 = omega arith in
    let kept : kept_at again (front b) ≡ Some o = ap (offer_in again.slots) here ∙ first_set b.slots o (omega (arith, board.slots, board.window_some)) in
    let fresh : stale_by p o ≡ None = stale_by_is_none p o (front b) (omega arith) (λ k low high. absurd (omega arith)) in
    let commits : settle_of p again ≡ Committed (entry_by p again o) =
    ap (λ (ended : Bool). cond ended (Ended b.nodes) (settle_by p again (kept_at again (front b)))) not_ended ∙ ap (settle_by p again) kept ∙ ap (settle_at p again o) fresh in
    ap (λ (s : Settle). length (after_settle again s).log) commits ∙ length_push b.log (entry_by p again o)
