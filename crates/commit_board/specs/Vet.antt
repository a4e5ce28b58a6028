-- Offers from strangers: what is wrong with one, if anything is.
use Rattle.std.specs.Prelude.{◌≡◌, ◌≢◌, ◌⊎◌, ℕ, ◌<◌, ◌≤◌, ◌==◌, ◌&&◌, ◌||◌, nat_eq, nat_lt, not, Bool, if◌then◌else◌, List, Option, Some, None, option_map, Contains}
use Rattle.std.specs.List.{list_any, find}
use Rattle.std.specs.Option.{option_or}
use Rattle.std.specs.Cmp.Lexicographic.{pointwise}
use Rattle.ti_scan.specs.declared.event.Datum.{Datum}
use Rattle.event_retrieve.specs.declared.offer.Offer.{Offer}
use Rattle.event_retrieve.specs.declared.retrieval.Retained.{Retained as RetainedPart}
use Rattle.event_retrieve.specs.Plan.{Plan, nodes_in, known}
use Rattle.event_retrieve.specs.Retrieval.{retained_of}
use Rattle.event_retrieve.specs.Sequential.{sequential}
use Rattle.event_retrieve.specs.Offer.{event_of_turn}
use Rattle.commit_board.specs.declared.vet.OfferFault.{OfferFault}
use Rattle.commit_board.specs.declared.vet.OfferFault.TheVariants.{Index, Seen, Missing, Extra, Retained}

-- an event has this datum
abbrev pub has_datum : List Datum → Datum → Bool
has_datum event d = list_any (λ x. x.position == d.position && x.cat == d.cat) event

-- The position of the first datum of an event that another doesn't have. Positions rise, so it is the least.
abbrev pub first_outside : List Datum → List Datum → Option ℕ
first_outside event other = option_map (λ d. d.position) (find (λ d. not (has_datum other d)) event)

-- two retained parts are the same
abbrev pub is_same_retained : RetainedPart → RetainedPart → Bool
is_same_retained r s = (r.len == s.len) && (r.reach == s.reach) && pointwise nat_eq r.counts s.counts

-- a datum that the entries that were seen give isn't in the event, or else one of the event isn't known at the node's turn
abbrev pub event_fault : Plan → Offer → Option OfferFault
event_fault p o =
    option_or (option_map (λ q. Missing q) (first_outside (known p (sequential p) o.seen o.index) o.event))
    (option_map (λ q. Extra q) (first_outside o.event (event_of_turn p o.index)))

-- what is retained isn't what is retained of the event
abbrev pub retained_fault : Plan → Offer → Option OfferFault
retained_fault p o =
    if is_same_retained o.retained (retained_of p o.event) then None else Some (Retained (retained_of p o.event))

-- What is wrong with an offer at a front, if anything is: the first of the faults that it has, in their order.
abbrev pub offer_fault : Plan → ℕ → Offer → Option OfferFault
offer_fault p front o =
    if not (o.index == front) || front == nodes_in p then Some (Index o.index front)
    else if nat_lt o.index o.seen then Some (Seen o.seen o.index)
    else option_or (event_fault p o) (retained_fault p o)

-- the least position of a datum that one event has and the other hasn't
pub record IsFirstOutside (event other : List Datum) (position : ℕ) : Type 0 where
  pub datum : Datum
  pub here : datum.position ≡ position
  pub inside : Contains event datum
  pub outside : ¬ Contains other datum
  pub least : (d : Datum) → Contains event d → ¬ Contains other d → position ≤ d.position

-- The fault is one that the offer has, by the sequential log.
abbrev pub IsFaultOf : Plan → Offer → OfferFault → Type 0
IsFaultOf p o (Index index front) = (index ≡ o.index) × ((index ≢ front) ⊎ (front ≡ nodes_in p))
IsFaultOf p o (Seen seen index) = (seen ≡ o.seen) × (index ≡ o.index) × (index < seen)
IsFaultOf p o (Missing position) = IsFirstOutside (known p (sequential p) o.seen o.index) o.event position
IsFaultOf p o (Extra position) = IsFirstOutside o.event (event_of_turn p o.index) position
IsFaultOf p o (Retained right) = (right ≡ retained_of p o.event) × (o.retained ≢ right)
