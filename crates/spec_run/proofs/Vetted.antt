-- What a stranger is told whose pass has seen the front.
use Rattle.std.proofs.Common.{arith, ◌≡◌, ℕ, ◌<◌, ◌≤◌, Bool, true, false, cond, not, ◌||◌, ◌==◌, nat_lt, nat_le, Option, Some, None, is_some, option_map, refl, subst}
use Rattle.std.specs.Option.{option_or}
use Rattle.std.proofs.lemmas.Bool.Decides.{nat_tests}
use Rattle.event_retrieve.specs.declared.offer.Offer.{Offer}
use Rattle.event_retrieve.specs.declared.retrieval.Retained.{Retained as RetainedPart}
use Rattle.event_retrieve.specs.Offer.{event_of_turn}
use Rattle.event_retrieve.specs.Plan.{Plan, known, nodes_in}
use Rattle.event_retrieve.specs.Retrieval.{retained_of}
use Rattle.event_retrieve.specs.Sequential.{sequential}
use Rattle.commit_board.specs.declared.keep.Keep.TheVariants.{Kept, Late, Unclaimed, Held}
use Rattle.commit_board.specs.declared.vet.OfferFault.{OfferFault}
use Rattle.commit_board.specs.declared.vet.OfferFault.TheVariants.{Index, Seen, Missing, Extra, Retained}
use Rattle.commit_board.specs.Board.{State, IsBoard, front, keep_of, kept_at}
use Rattle.commit_board.specs.Vet.{first_outside, is_same_retained, offer_fault}
use Rattle.spec_run.specs.Told.{FaultTells, IsReached, TakenTells}

same_fault : (f g : OfferFault) → Some f ≡ Some g → f ≡ g
same_fault f g e = cc

no_fault : (f : OfferFault) → None ≡ Some f → ⊥
no_fault f e = cc

-- the faults of an event, and what is retained of it
abbrev later_faults : Offer → RetainedPart → Option ℕ → Option ℕ → Bool → Option OfferFault
later_faults o right missing extra same =
    option_or (option_or (option_map (λ q. Missing q) missing) (option_map (λ q. Extra q) extra)) (cond same None (Some (Retained right)))

module _ (p : Plan) (b : State) (o : Offer) (seen : ℕ) (board : IsBoard b) (nodes : b.nodes ≡ nodes_in p) (le : front b ≤ seen) (fault : OfferFault) where
  tells : (f : OfferFault) → FaultTells p o seen f → Some f ≡ Some fault → FaultTells p o seen fault
  tells f is same = subst (FaultTells p o seen) (same_fault f fault same) is

  after_index : (right : RetainedPart) (early : Bool) (missing extra : Option ℕ) (same : Bool) → IsReached p o seen → cond early (Some (Seen o.seen o.index)) (later_faults o right missing extra same) ≡ Some fault → FaultTells p o seen fault
  after_index right true missing extra same reached is = tells (Seen o.seen o.index) reached is
  after_index right false (Some q) extra same reached is = tells (Missing q) reached is
  after_index right false None (Some q) same reached is = tells (Extra q) reached is
  after_index right false None None false reached is = tells (Retained right) reached is
  after_index right false None None true reached is = absurd (no_fault fault is)

  by : (here ended early : Bool) (missing extra : Option ℕ) (same : Bool) → (o.index == front b) ≡ here → (front b == nodes_in p) ≡ ended → cond (not here || ended) (Some (Index o.index (front b))) (cond early (Some (Seen o.seen o.index)) (later_faults o (retained_of p o.event) missing extra same)) ≡ Some fault → FaultTells p o seen fault
  by false ended early missing extra same here end is = tells (Index o.index (front b)) le is
  by true true early missing extra same here end is = tells (Index o.index (front b)) le is
  by true false early missing extra same here end is =
      let at : o.index ≡ front b = grind (arith, nat_tests) in
      let left : front b < nodes_in p = grind (arith, nat_tests, board.behind, board.inside) in
      after_index (retained_of p o.event) early missing extra same (omega (arith, at, left), omega (arith, at, le)) is

  -- the front by which an offer was judged was seen, and so was its turn where that is its own
  pub fault_tells : offer_fault p (front b) o ≡ Some fault → FaultTells p o seen fault
  fault_tells is =
      by (o.index == front b) (front b == nodes_in p) (nat_lt o.index o.seen) (first_outside (known p (sequential p) o.seen o.index) o.event)
      (first_outside o.event (event_of_turn p o.index)) (is_same_retained o.retained (retained_of p o.event)) refl refl is

-- an offer of the front isn't late
pub taken_tells : (b : State) (o : Offer) → o.index ≡ front b → TakenTells o.index (keep_of b o)
taken_tells b o here = by (nat_lt o.index (front b)) (nat_le b.next o.index) (is_some (kept_at b o.index)) refl refl
  where
    by : (late unclaimed held : Bool) → nat_lt o.index (front b) ≡ late → nat_le b.next o.index ≡ unclaimed → TakenTells o.index (cond late (Late (front b)) (cond unclaimed (Unclaimed o.index b.next) (cond held (Held o.index) Kept)))
    by true unclaimed held late _ = let below : o.index < front b = grind (arith, nat_tests) in absurd (omega (arith, below, here))
    by false true held _ unclaimed = let above : b.next ≤ o.index = grind (arith, nat_tests) in (refl, above)
    by false false true _ _ = refl
    by false false false _ _ = tt
