-- The bench: the board with the writer of the cells, and how its calls change the board.
use Rattle.std.specs.Prelude.{◌≡◌, ℕ, zero, suc, ◌+◌, ◌-◌, Bool, true, false, ◌==◌, if◌then◌else◌, List, Option, Some, None, is_some}
use Rattle.mp_base.specs.declared.cell.Entry.{Entry}
use Rattle.event_retrieve.specs.declared.offer.Offer.{Offer}
use Rattle.event_retrieve.specs.Plan.{Plan}
use Rattle.event_retrieve.specs.Sequential.{sequential}
use Rattle.commit_board.specs.declared.settle.Settle.{Settle}
use Rattle.commit_board.specs.declared.settle.Settle.TheVariants.{Committed, Ended as PathEnded, NotOffered, Stale}
use Rattle.commit_board.specs.declared.vet.OfferFault.{OfferFault}
use Rattle.commit_board.specs.Board.{State, Fits, after_keep, after_settle, front, front_offer, keep_of, kept_at, recounted, settle_of, with_front}
use Rattle.commit_board.specs.Vet.{offer_fault}
use Rattle.shared_grid.specs.Rule.{Progress}
use Rattle.spec_run.specs.declared.bench.Foreign.{Foreign}
use Rattle.spec_run.specs.declared.bench.Foreign.TheVariants.{Refused, Taken}
use Rattle.spec_run.specs.declared.bench.Pushed.{Pushed}
use Rattle.spec_run.specs.declared.bench.Pushed.TheVariants.{Front, Ended}

-- The board fits the plan and has the window, the story is the plan's sequential log, and all that is committed is stored
-- and shown.
pub record IsBench (p : Plan) (window : ℕ) (story : List Entry) (b : State) (writer : Progress) : Type 0 where
  pub story_is : story ≡ sequential p
  pub fits : Fits p b
  pub window_is : b.window ≡ window
  pub shown : writer ≡ record { stored = front b; front = front b }

-- the board once the front is settled
abbrev pub settled : Plan → State → State
settled p b = after_settle b (settle_of p b)

-- the board once the front is counted again
abbrev pub counted_again : Plan → State → State
counted_again p b = with_front b (front_offer p b (recounted p b))

-- settling commits nothing, and the path isn't at its end: the front has no kept offer or a stale one
abbrev pub is_to_count : Settle → Bool
is_to_count (Committed entry) = false
is_to_count (PathEnded length) = false
is_to_count (NotOffered front) = true
is_to_count (Stale front entry position) = true

-- the board once the front is committed: counted again first where it must be, then settled
abbrev pub with_front_committed : Plan → State → State
with_front_committed p b = settled p (if is_to_count (settle_of p b) then counted_again p b else b)

-- the front has a kept offer
abbrev pub is_offered : State → Bool
is_offered b = is_some (kept_at b (front b))

-- the board after at most so many commits, each of a front that has a kept offer
unfoldable pub drained_by : Plan → ℕ → State → State
drained_by p zero b = b
drained_by p (suc most) b = if is_offered b then drained_by p most (with_front_committed p b) else b

-- the board once its fronts are committed, one after another, as long as the front has a kept offer
abbrev pub drained : Plan → State → State
drained p b = drained_by p (b.nodes - front b) b

-- the board after an offer: kept or not, and then drained
abbrev pub after_offer : Plan → State → Offer → State
after_offer p b o = drained p (after_keep b o (keep_of b o))

-- what an offer of a stranger is answered by its fault, if it has one, and the board after it
abbrev pub vetted_by : State → Offer → Option OfferFault → Foreign
vetted_by b o None = Taken (keep_of b o)
vetted_by b o (Some fault) = Refused fault

abbrev pub after_vetting : Plan → State → Offer → Option OfferFault → State
after_vetting p b o None = after_offer p b o
after_vetting p b o (Some fault) = b

-- an offer of a stranger is refused by its fault, and otherwise taken as one of a worker
abbrev pub foreign_of : Plan → State → Offer → Foreign
foreign_of p b o = vetted_by b o (offer_fault p (front b) o)

abbrev pub after_foreign : Plan → State → Offer → State
after_foreign p b o = after_vetting p b o (offer_fault p (front b) o)

-- the whole path is committed
abbrev pub is_ended : State → Bool
is_ended b = front b == b.nodes

-- what pushing the front is answered, and the board after it
abbrev pub pushed_of : State → Pushed
pushed_of b = if is_ended b then Ended b.nodes else Front (front b + 1)

abbrev pub after_push : Plan → State → State
after_push p b = if is_ended b then b else with_front_committed p b
