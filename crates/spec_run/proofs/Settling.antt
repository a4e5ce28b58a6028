-- What settling the front is answered, and what is committed by that.
use Rattle.std.proofs.Common.{arith, ◌≡◌, ◌+◌, ◌-◌, ◌<◌, ◌≤◌, Bool, true, false, cond, ◌==◌, length, Option, Some, None, is_some, refl, ap, sym, subst, ◌∙◌}
use Rattle.std.proofs.lemmas.Bool.{false≢true}
use Rattle.std.proofs.lemmas.Bool.Decides.{nat_tests}
use Rattle.std.proofs.lemmas.List.{length_push}
use Rattle.event_retrieve.specs.declared.offer.Missed.{Missed}
use Rattle.event_retrieve.specs.declared.offer.Offer.{Offer}
use Rattle.event_retrieve.specs.Offer.{stale_by}
use Rattle.event_retrieve.specs.Plan.{Plan}
use Rattle.commit_board.specs.declared.settle.Settle.{Settle}
use Rattle.commit_board.specs.declared.settle.Settle.TheVariants.{Committed, Ended, NotOffered, Stale}
use Rattle.commit_board.specs.Board.{State, Fits, IsBoard, after_settle, front, kept_at, recounted, settle_at, settle_by, settle_of}
use Rattle.commit_board.proofs.Again.{committed_again}
use Rattle.spec_run.specs.Bench.{counted_again, is_ended, is_offered, is_to_count, settled, with_front_committed}

abbrev pub has_offer : Settle → Bool
has_offer (Committed entry) = true
has_offer (Ended length) = false
has_offer (NotOffered front) = false
has_offer (Stale front entry position) = true

abbrev pub has_ended : Settle → Bool
has_ended (Committed entry) = false
has_ended (Ended length) = true
has_ended (NotOffered front) = false
has_ended (Stale front entry position) = false

module _ (p : Plan) (b : State) where
  abbrev by_end : Bool → Settle
  by_end end = cond end (Ended b.nodes) (settle_by p b (kept_at b (front b)))

  offer_settles : (o : Offer) (m : Option Missed) → true ≡ has_offer (settle_at p b o m)
  offer_settles o None = refl
  offer_settles o (Some m) = refl

  kept_settles : (k : Option Offer) → is_some k ≡ has_offer (settle_by p b k)
  kept_settles None = refl
  kept_settles (Some o) = offer_settles o (stale_by p o)

  offer_goes_on : (o : Offer) (m : Option Missed) → false ≡ has_ended (settle_at p b o m)
  offer_goes_on o None = refl
  offer_goes_on o (Some m) = refl

  kept_goes_on : (k : Option Offer) → false ≡ has_ended (settle_by p b k)
  kept_goes_on None = refl
  kept_goes_on (Some o) = offer_goes_on o (stale_by p o)

  ended_by : (end : Bool) → end ≡ has_ended (by_end end)
  ended_by true = refl
  ended_by false = kept_goes_on (kept_at b (front b))

  -- settling answers that the path is at its end exactly where it is
  pub ended_is : is_ended b ≡ has_ended (settle_of p b)
  ended_is = ended_by (front b == b.nodes)

  -- no offer is kept for the front at the end of the path
  pub none_at_end : IsBoard b → Fits p b → front b ≡ b.nodes → is_offered b ≡ false
  none_at_end board fits end = by (kept_at b (front b)) refl
    where
      by : (k : Option Offer) → kept_at b (front b) ≡ k → is_some (kept_at b (front b)) ≡ false
      by None is = ap (λ (k : Option Offer). is_some k) is
      by (Some o) is =
          let kept = board.kept (front b - front b) o is in
          let sound = fits.sound (front b - front b) o is in
          absurd (omega (arith, kept.index, sound.in_path, fits.whole, end))

  -- settling tells whether an offer is kept for the front
  pub offered_is : IsBoard b → Fits p b → is_offered b ≡ has_offer (settle_of p b)
  offered_is board fits = by (front b == b.nodes) refl
    where
      by : (end : Bool) → (front b == b.nodes) ≡ end → is_offered b ≡ has_offer (settle_of p b)
      by true is =
          let end : front b ≡ b.nodes = grind (arith, nat_tests) in
          none_at_end board fits end ∙ ap (λ (e : Bool). has_offer (by_end e)) (sym is)
      by false is = kept_settles (kept_at b (front b)) ∙ ap (λ (e : Bool). has_offer (by_end e)) (sym is)

  pub goes_on : IsBoard b → is_ended b ≡ false → front b < b.nodes
  goes_on board is = grind (arith, nat_tests, board.behind, board.inside)

  abbrev once : Bool → State
  once count = settled p (cond count (counted_again p b) b)

  -- what is settled at once, and what is counted again first
  pub at_once : (s : Settle) → s ≡ settle_of p b → is_to_count s ≡ false → settled p b ≡ with_front_committed p b
  at_once s is stays = ap once (sym (sym (ap is_to_count is) ∙ stays))

  pub counted_first : (s : Settle) → s ≡ settle_of p b → is_to_count s ≡ true → settled p (counted_again p b) ≡ with_front_committed p b
  counted_first s is counts = ap once (sym (sym (ap is_to_count is) ∙ counts))

  -- a front that is committed is followed by the next
  pub front_committed : IsBoard b → front b < b.nodes → front (with_front_committed p b) ≡ front b + 1
  front_committed board left = by (settle_of p b) refl
    where
      again : (s : Settle) → settle_of p b ≡ s → is_to_count s ≡ true → front (with_front_committed p b) ≡ front b + 1
      again s is counts = ap (λ (x : State). front x) (sym (counted_first s (sym is) counts)) ∙ committed_again p b (recounted p b) board left

      by : (s : Settle) → settle_of p b ≡ s → front (with_front_committed p b) ≡ front b + 1
      by (Committed e) is =
          ap (λ (x : State). front x) (sym (at_once (Committed e) (sym is) refl)) ∙ ap (λ (s : Settle). front (after_settle b s)) is ∙ length_push b.log e
      by (Ended n) is =
          let end : is_ended b ≡ true = ended_is ∙ ap has_ended is in
          let equal : front b ≡ b.nodes = grind (arith, nat_tests) in
          absurd (omega (arith, equal, left))
      by (NotOffered n) is = again (NotOffered n) is refl
      by (Stale n e q) is = again (Stale n e q) is refl

-- what is settled has the same nodes, and no earlier front
pub nodes_settled : (b : State) (s : Settle) → (after_settle b s).nodes ≡ b.nodes
nodes_settled b (Committed e) = refl
nodes_settled b (Ended n) = refl
nodes_settled b (NotOffered n) = refl
nodes_settled b (Stale n e q) = refl

pub front_settled : (b : State) (s : Settle) → front b ≤ front (after_settle b s)
front_settled b (Committed e) = omega (arith, length_push b.log e)
front_settled b (Ended n) = omega arith
front_settled b (NotOffered n) = omega arith
front_settled b (Stale n e q) = omega arith

-- what commits nothing leaves the board
pub nothing_settled : (b : State) (s : Settle) → is_to_count s ≡ true → after_settle b s ≡ b
nothing_settled b (Committed e) is = absurd (false≢true is)
nothing_settled b (Ended n) is = refl
nothing_settled b (NotOffered n) is = refl
nothing_settled b (Stale n e q) is = refl

abbrev pub by_offer : Plan → State → Bool → State
by_offer p b some = cond some (with_front_committed p b) b

-- What committing an offered front leaves, by what settling it was answered.
module _ (p : Plan) (b : State) (board : IsBoard b) (fits : Fits p b) (s : Settle) (is : s ≡ settle_of p b) where
  offered : is_offered b ≡ has_offer s
  offered = offered_is p b board fits ∙ ap has_offer (sym is)

  pub offered_at_once : has_offer s ≡ true → is_to_count s ≡ false → settled p b ≡ by_offer p b (is_offered b)
  offered_at_once has stays = at_once p b s is stays ∙ ap (by_offer p b) (sym (offered ∙ has))

  pub offered_again : has_offer s ≡ true → is_to_count s ≡ true → settled p (counted_again p (settled p b)) ≡ by_offer p b (is_offered b)
  offered_again has counts =
      ap (λ (x : State). settled p (counted_again p x)) (ap (λ (s : Settle). after_settle b s) (sym is) ∙ nothing_settled b s counts)
      ∙ counted_first p b s is counts ∙ ap (by_offer p b) (sym (offered ∙ has))

  pub not_offered : has_offer s ≡ false → after_settle b s ≡ b → settled p b ≡ by_offer p b (is_offered b)
  not_offered none same = ap (λ (s : Settle). after_settle b s) (sym is) ∙ same ∙ ap (by_offer p b) (sym (offered ∙ none))

  -- the front that is to be counted is one of the path
  pub left_to_count : is_to_count s ≡ true → front (settled p b) < (settled p b).nodes
  left_to_count counts =
      let same : settled p b ≡ b = ap (λ (s : Settle). after_settle b s) (sym is) ∙ nothing_settled b s counts in
      let goes : is_ended b ≡ false = ended_is p b ∙ ap has_ended (sym is) ∙ counting s counts in
      subst (λ (x : State). front x < x.nodes) (sym same) (goes_on p b board goes)
    where
      counting : (s : Settle) → is_to_count s ≡ true → has_ended s ≡ false
      counting (Committed e) counts = refl
      counting (Ended n) counts = absurd (false≢true counts)
      counting (NotOffered n) counts = refl
      counting (Stale n e q) counts = refl
