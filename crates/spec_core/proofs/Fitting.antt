-- A machine that fits its plan does so after each step.
use Rattle.std.proofs.Common.{arith, ◌≡◌, ◌⊎◌, ℕ, zero, suc, ◌+◌, ◌-◌, ◌≤◌, ◌<◌, Bool, true, false, cond, List, [], ◌∷◌, length, max, nat_lt, ◌==◌, replicate, set, Option, Some, None, slice_get, inl, inr, refl, ap, sym, subst, ◌∙◌}
use Rattle.std.proofs.lemmas.Bool.{false≢true}
use Rattle.std.proofs.lemmas.Bool.Decides.{nat_tests}
use Rattle.std.proofs.lemmas.List.{length_push}
use Rattle.ti_scan.specs.Event.{IsEvent}
use Rattle.event_retrieve.specs.declared.gather.Wanted.{Wanted}
use Rattle.event_retrieve.specs.declared.gather.Wanted.TheVariants.{Done, Outside, Later, Cell}
use Rattle.event_retrieve.specs.declared.offer.Offer.{Offer}
use Rattle.event_retrieve.specs.Gather.{Gathering, IfCell, MayBeRead, MayPut, after_put, is_early, wanted_at, wanted_of}
use Rattle.event_retrieve.specs.Offer.{IsSound}
use Rattle.event_retrieve.specs.Plan.{Plan, IsPlan, cell_at_position, nodes_in}
use Rattle.event_retrieve.proofs.Gathered.{between_all, empty_between, may_not_done, put_between, put_rises}
use Rattle.commit_board.specs.Board.{State, Fits, IsBoard, after_claim, after_keep, after_settle, claim_of, front, front_offer, keep_of, settle_of, with_front, recounted}
use Rattle.commit_board.specs.declared.claim.Claim.{Claim}
use Rattle.commit_board.specs.declared.claim.Claim.TheVariants as claim
use Rattle.commit_board.specs.declared.claim.Ticket.{Ticket}
use Rattle.commit_board.specs.declared.keep.Keep.{Keep}
use Rattle.commit_board.specs.declared.keep.Keep.TheVariants as keep
use Rattle.commit_board.specs.declared.settle.Settle.{Settle}
use Rattle.commit_board.specs.declared.settle.Settle.TheVariants as settle
use Rattle.commit_board.proofs.Reading.{read_now}
use Rattle.spec_steps.specs.declared.step.Step.{Step}
use Rattle.spec_steps.specs.declared.step.Step.TheVariants as step
use Rattle.spec_core.specs.declared.worker.Worker.{Worker}
use Rattle.spec_core.specs.declared.worker.Worker.TheVariants.{Idle, Claimed, Looking, Counted}
use Rattle.spec_core.specs.Worker.{after_count, after_front, after_look, cat_by, claimed_by, gathered, gathering_at, is_done, offer_of, worker_offered}
use Rattle.spec_core.specs.World.{Machine, FitsLooking, FitsPlan, FitsWorker, after, after_both, after_own, board_claimed, board_offered, is_shown, may_force, with_board, with_worker, worker_claimed, worker_of}

-- each worker fits
abbrev AllFit : Plan → ℕ → ℕ → List Worker → Type 0
AllFit p next shown workers = (n : ℕ) (w : Worker) → slice_get workers n ≡ Some w → FitsWorker p next shown w

-- what a worker does goes on fitting when more is claimed and more is shown
later : (p : Plan) (next shown more beyond : ℕ) (w : Worker) → next ≤ more → shown ≤ beyond → FitsWorker p next shown w → FitsWorker p more beyond w
later p next shown more beyond Idle le below fits = tt
later p next shown more beyond (Claimed i) le below fits = omega (arith, le, fits)
later p next shown more beyond (Looking seen g) le below fits = record {
  claimed = omega (arith, le, fits.claimed);
  before = fits.before;
  shown_to = omega (arith, below, fits.shown_to);
  first = fits.first;
  last = fits.last;
  rising = fits.rising;
  between = fits.between;
}
later p next shown more beyond (Counted o) le below fits = record { claimed = omega (arith, le, fits.claimed); sound = fits.sound }

none_worker : (w : Worker) → None ≡ Some w → ⊥
none_worker w e = cc

same_worker : (w other : Worker) → Some w ≡ Some other → other ≡ w
same_worker w other e = cc

-- after a worker was put into a place, a place has that one or what it had before
found : (workers : List Worker) (k n : ℕ) (w other : Worker) → slice_get (set workers k w) n ≡ Some other → (other ≡ w) ⊎ (slice_get workers n ≡ Some other)
found [] k n w other is = inr is
found (x ∷ workers) zero zero w other is = inl (same_worker w other is)
found (x ∷ workers) zero (suc n) w other is = inr is
found (x ∷ workers) (suc k) zero w other is = inr is
found (x ∷ workers) (suc k) (suc n) w other is = found workers k n w other is

all_set : (p : Plan) (next shown : ℕ) (workers : List Worker) (k : ℕ) (w : Worker) → AllFit p next shown workers → FitsWorker p next shown w → AllFit p next shown (set workers k w)
all_set p next shown workers k w all fits n other is = elim (found workers k n w other is) [
  | inl same ↦ subst (FitsWorker p next shown) (sym same) fits
  | inr before ↦ all n other before
]

-- idle workers fit
pub idle_fits : (p : Plan) (next shown count n : ℕ) (w : Worker) → slice_get (replicate count Idle) n ≡ Some w → FitsWorker p next shown w
idle_fits p next shown zero n w is = absurd (none_worker w is)
idle_fits p next shown (suc count) zero w is = subst (FitsWorker p next shown) (sym (same_worker Idle w is)) tt
idle_fits p next shown (suc count) (suc n) w is = idle_fits p next shown count n w is

-- with another board, of which no less is claimed and as much is committed, and another worker
module _ (p : Plan) (m : Machine) (fits : FitsPlan p m) where
  both : (b : State) → Fits p b → m.board.next ≤ b.next → front b ≡ front m.board → (n : ℕ) (w : Worker) → FitsWorker p b.next m.shown w → FitsPlan p (with_worker (with_board m b) n w)
  both b board more same zero w new = record {
    board = board;
    behind = omega (arith, fits.behind, same);
    near = omega (arith, fits.near, same);
    workers = λ k other is. later p m.board.next m.shown b.next m.shown other more (omega arith) (fits.workers k other is);
  }
  both b board more same (suc n) w new = record {
    board = board;
    behind = omega (arith, fits.behind, same);
    near = omega (arith, fits.near, same);
    workers =
        all_set p b.next m.shown m.workers n w
        (λ k other is. later p m.board.next m.shown b.next m.shown other more (omega arith) (fits.workers k other is)) new;
  }

  -- a step of a worker's own
  own_step : (n : ℕ) (own : Worker → Worker) → ((w : Worker) → FitsWorker p m.board.next m.shown w → FitsWorker p m.board.next m.shown (own w)) → FitsPlan p (after_own m n (worker_of m n) own)
  own_step zero own keeps = fits
  own_step (suc n) own keeps = go (slice_get m.workers n) refl
    where
      go : (o : Option Worker) → slice_get m.workers n ≡ o → FitsPlan p (after_own m (suc n) o own)
      go None is = fits
      go (Some w) is = both m.board fits.board (omega arith) refl (suc n) (own w) (keeps w (fits.workers n w is))

-- reading the front
front_fits : (p : Plan) (next shown : ℕ) (w : Worker) → FitsWorker p next shown w → FitsWorker p next shown (after_front shown w)
front_fits p next shown Idle fits = tt
front_fits p next shown (Looking seen g) fits = fits
front_fits p next shown (Counted o) fits = fits
front_fits p next shown (Claimed i) fits = go (nat_lt i shown) refl
  where
    go : (late : Bool) → nat_lt i shown ≡ late → FitsWorker p next shown (cond late Idle (Looking shown (gathering_at i)))
    go true is = tt
    go false is = record {
      claimed = fits;
      before = grind (arith, nat_tests);
      shown_to = omega arith;
      first = omega arith;
      last = omega arith;
      rising = tt;
      between = empty_between p shown i;
    }

-- a cell that is wanted can have a category by the node's turn
wanted_early : (p : Plan) (g : Gathering) (position c : ℕ) → wanted_of p g ≡ Cell position c → is_early p g.index c ≡ true
wanted_early p g position c is = by_end (nat_lt (length p.source.template) g.position) is
  where
    not_done : Done ≡ Cell position c → ⊥
    not_done e = cc

    not_outside : (q : ℕ) → Outside q ≡ Cell position c → ⊥
    not_outside q e = cc

    not_later : (q : ℕ) → Later q ≡ Cell position c → ⊥
    not_later q e = cc

    same_cell : (q d : ℕ) → Cell q d ≡ Cell position c → d ≡ c
    same_cell q d e = cc

    by_early : (d : ℕ) (early : Bool) → is_early p g.index d ≡ early → cond early (Cell g.position d) (Later g.position) ≡ Cell position c → is_early p g.index c ≡ true
    by_early d true early e = ap (is_early p g.index) (sym (same_cell g.position d e)) ∙ early
    by_early d false early e = absurd (not_later g.position e)

    by_cell : (o : Option ℕ) → wanted_at p g.index g.position o ≡ Cell position c → is_early p g.index c ≡ true
    by_cell None e = absurd (not_outside g.position e)
    by_cell (Some d) e = by_early d (is_early p g.index d) refl e

    by_end : (done : Bool) → cond done Done (wanted_at p g.index g.position (cell_at_position p g.index g.position)) ≡ Cell position c → is_early p g.index c ≡ true
    by_end true e = absurd (not_done e)
    by_end false e = by_cell (cell_at_position p g.index g.position) e

-- Where nothing is wanted any more, all positions were put.
done_past : (p : Plan) (g : Gathering) → is_done (wanted_of p g) ≡ true → length p.source.template < g.position
done_past p g is = by_end (nat_lt (length p.source.template) g.position) refl is
  where
    by_early : (d : ℕ) (early : Bool) → is_done (cond early (Cell g.position d) (Later g.position)) ≡ true → ⊥
    by_early d true e = false≢true e
    by_early d false e = false≢true e

    by_cell : (o : Option ℕ) → is_done (wanted_at p g.index g.position o) ≡ true → ⊥
    by_cell None e = false≢true e
    by_cell (Some d) e = by_early d (is_early p g.index d) e

    by_end : (done : Bool) → nat_lt (length p.source.template) g.position ≡ done → is_done (cond done Done (wanted_at p g.index g.position (cell_at_position p g.index g.position))) ≡ true → length p.source.template < g.position
    by_end true past e = grind (arith, nat_tests)
    by_end false past e = absurd (by_cell (cell_at_position p g.index g.position) e)

module _ (p : Plan) (plan : IsPlan p) (b : State) (board : IsBoard b) (fits_board : Fits p b) (shown : ℕ) (behind : shown ≤ front b) where
  -- looking at a cell by the board's entries
  look_fits : (w : Worker) → FitsWorker p b.next shown w → FitsWorker p b.next shown (after_look p b.log w)
  look_fits Idle fits = tt
  look_fits (Claimed i) fits = fits
  look_fits (Counted o) fits = fits
  look_fits (Looking seen g) fits = looked (wanted_of p g) refl
    where
      in_path : g.index < nodes_in p
      in_path = omega (arith, fits.claimed, board.inside, fits_board.whole)

      put : (value : Option ℕ) → MayPut (wanted_of p g) value → IfCell (wanted_of p g) (λ c. MayBeRead p seen g.index c value) → FitsLooking p b.next shown seen (after_put g value)
      put value may read = record {
        claimed = fits.claimed;
        before = fits.before;
        shown_to = fits.shown_to;
        first = omega arith;
        last = omega (arith, may_not_done p g value may);
        rising = put_rises g value fits.first fits.rising;
        between = put_between p plan.path seen g value fits.before in_path fits.first may read fits.between;
      }

      looked : (x : Wanted) → wanted_of p g ≡ x → FitsLooking p b.next shown seen (gathered p b.log g x)
      looked Done is = fits
      looked (Outside q) is = put None (subst (λ x. MayPut x None) (sym is) refl) (subst (λ x. IfCell x (λ c. MayBeRead p seen g.index c None)) (sym is) tt)
      looked (Later q) is = put None (subst (λ x. MayPut x None) (sym is) refl) (subst (λ x. IfCell x (λ c. MayBeRead p seen g.index c None)) (sym is) tt)
      looked (Cell q c) is =
          put (cat_by p b.log c) (subst (λ x. MayPut x (cat_by p b.log c)) (sym is) tt)
          (subst (λ x. IfCell x (λ d. MayBeRead p seen g.index d (cat_by p b.log c))) (sym is)
          (read_now p b fits_board board plan seen g.index c (omega (arith, fits.shown_to, behind)) in_path (wanted_early p g q c is)))

  -- counting what was seen
  count_fits : (w : Worker) → FitsWorker p b.next shown w → FitsWorker p b.next shown (after_count p w)
  count_fits Idle fits = tt
  count_fits (Claimed i) fits = fits
  count_fits (Counted o) fits = fits
  count_fits (Looking seen g) fits = go (is_done (wanted_of p g)) refl
    where
      go : (done : Bool) → is_done (wanted_of p g) ≡ done → FitsWorker p b.next shown (cond done (Counted (offer_of p seen g)) (Looking seen g))
      go false is = fits
      go true is =
          let past = done_past p g is in
          let whole : g.position - 1 ≡ length p.source.template = omega (arith, past, fits.last) in
          let all = between_all p seen g past fits.between in
          let sound : IsSound p (offer_of p seen g) = record {
            in_path = omega (arith, fits.claimed, board.inside, fits_board.whole);
            before = fits.before;
            event = subst (λ n. IsEvent n g.event) whole fits.rising;
            lower = all.0;
            upper = all.1;
            retained = record { len = refl; reach = refl; counts = refl };
          } in
          record { claimed = fits.claimed; sound = sound }

-- a ticket is of the next node
ticket_next : (b : State) (t : Ticket) → claim_of b ≡ claim.Ticket t → t.index ≡ b.next
ticket_next b t is = go (b.next == b.nodes) (b.next == front b + b.window) is
  where
    not_all : (n : ℕ) → claim.AllClaimed n ≡ claim.Ticket t → ⊥
    not_all n e = cc

    not_full : (n f : ℕ) → claim.Full n f ≡ claim.Ticket t → ⊥
    not_full n f e = cc

    same : (u : Ticket) → claim.Ticket u ≡ claim.Ticket t → t ≡ u
    same u e = cc

    go : (all full : Bool) → cond all (claim.AllClaimed b.nodes) (cond full (claim.Full b.next (front b)) (claim.Ticket (record { index = b.next }))) ≡ claim.Ticket t → t.index ≡ b.next
    go true full e = absurd (not_all b.nodes e)
    go false true e = absurd (not_full b.next (front b) e)
    go false false e = ap (λ (u : Ticket). u.index) (same (record { index = b.next }) e)

-- a claim changes nothing but what is claimed
claim_more : (b : State) (c : Claim) → b.next ≤ (after_claim b c).next
claim_more b (claim.Ticket t) = omega arith
claim_more b (claim.Full next front) = omega arith
claim_more b (claim.AllClaimed n) = omega arith

claim_front : (b : State) (c : Claim) → front (after_claim b c) ≡ front b
claim_front b (claim.Ticket t) = refl
claim_front b (claim.Full next front) = refl
claim_front b (claim.AllClaimed n) = refl

claimed_fits : (p : Plan) (b : State) (shown : ℕ) (c : Claim) → claim_of b ≡ c → FitsWorker p (after_claim b c).next shown (claimed_by c)
claimed_fits p b shown (claim.Ticket t) is = omega (arith, ticket_next b t is)
claimed_fits p b shown (claim.Full next front) is = tt
claimed_fits p b shown (claim.AllClaimed n) is = tt

-- an offer changes nothing but what is kept
keep_more : (b : State) (o : Offer) (k : Keep) → b.next ≤ (after_keep b o k).next
keep_more b o keep.Kept = omega arith
keep_more b o (keep.Late f) = omega arith
keep_more b o (keep.Unclaimed i n) = omega arith
keep_more b o (keep.Held i) = omega arith

keep_front : (b : State) (o : Offer) (k : Keep) → front (after_keep b o k) ≡ front b
keep_front b o keep.Kept = refl
keep_front b o (keep.Late f) = refl
keep_front b o (keep.Unclaimed i n) = refl
keep_front b o (keep.Held i) = refl

module _ (p : Plan) (m : Machine) (fits : FitsPlan p m) where
  -- a claim
  claim_step : (n : ℕ) → Fits p (after p m (step.Claim n)).board → FitsPlan p (after p m (step.Claim n))
  claim_step zero board = fits
  claim_step (suc n) board = go (slice_get m.workers n) refl board
    where
      go : (o : Option Worker) → slice_get m.workers n ≡ o → Fits p (after_both m (suc n) o (board_claimed m.board) (worker_claimed m.board)).board → FitsPlan p (after_both m (suc n) o (board_claimed m.board) (worker_claimed m.board))
      go None is board = fits
      go (Some Idle) is board =
          both p m fits (after_claim m.board (claim_of m.board)) board (claim_more m.board (claim_of m.board)) (claim_front m.board (claim_of m.board)) (suc n) (claimed_by (claim_of m.board))
          (claimed_fits p m.board m.shown (claim_of m.board) refl)
      go (Some (Claimed i)) is board = both p m fits m.board board (omega arith) refl (suc n) (Claimed i) (fits.workers n (Claimed i) is)
      go (Some (Looking seen g)) is board = both p m fits m.board board (omega arith) refl (suc n) (Looking seen g) (fits.workers n (Looking seen g) is)
      go (Some (Counted o)) is board = both p m fits m.board board (omega arith) refl (suc n) (Counted o) (fits.workers n (Counted o) is)

  -- an offer
  offer_step : (n : ℕ) → Fits p (after p m (step.Offer n)).board → FitsPlan p (after p m (step.Offer n))
  offer_step zero board = fits
  offer_step (suc n) board = go (slice_get m.workers n) refl board
    where
      go : (o : Option Worker) → slice_get m.workers n ≡ o → Fits p (after_both m (suc n) o (board_offered m.board) worker_offered).board → FitsPlan p (after_both m (suc n) o (board_offered m.board) worker_offered)
      go None is board = fits
      go (Some Idle) is board = both p m fits m.board board (omega arith) refl (suc n) Idle tt
      go (Some (Claimed i)) is board = both p m fits m.board board (omega arith) refl (suc n) (Claimed i) (fits.workers n (Claimed i) is)
      go (Some (Looking seen g)) is board = both p m fits m.board board (omega arith) refl (suc n) (Looking seen g) (fits.workers n (Looking seen g) is)
      go (Some (Counted o)) is board =
          both p m fits (after_keep m.board o (keep_of m.board o)) board (keep_more m.board o (keep_of m.board o)) (keep_front m.board o (keep_of m.board o)) (suc n) Idle tt

  -- settling, once all that is committed is shown
  settled : (s : Settle) → m.shown ≡ front m.board → Fits p (after_settle m.board s) → FitsPlan p (with_board m (after_settle m.board s))
  settled (settle.Committed e) shown board = record {
    board = board;
    behind = omega (arith, shown, length_push m.board.log e);
    near = omega (arith, shown, length_push m.board.log e);
    workers = λ k w is. later p m.board.next m.shown (max m.board.next (front m.board + 1)) m.shown w (omega arith) (omega arith) (fits.workers k w is);
  }
  settled (settle.Ended n) shown board = fits
  settled (settle.NotOffered f) shown board = fits
  settled (settle.Stale f k q) shown board = fits

  settle_step : Fits p (after p m step.Settle).board → FitsPlan p (after p m step.Settle)
  settle_step board = go (is_shown m) refl board
    where
      go : (shown : Bool) → is_shown m ≡ shown → Fits p (cond shown (with_board m (after_settle m.board (settle_of p m.board))) m).board → FitsPlan p (cond shown (with_board m (after_settle m.board (settle_of p m.board))) m)
      go true is board = settled (settle_of p m.board) (grind (arith, nat_tests)) board
      go false is board = fits

  force_step : Fits p (after p m step.Force).board → FitsPlan p (after p m step.Force)
  force_step board = go (may_force m) board
    where
      forced : Machine
      forced = with_board m (with_front m.board (front_offer p m.board (recounted p m.board)))

      go : (may : Bool) → Fits p (cond may forced m).board → FitsPlan p (cond may forced m)
      go true board = record { board = board; behind = fits.behind; near = fits.near; workers = fits.workers }
      go false board = fits

  show_step : FitsPlan p (after p m step.Show)
  show_step = go (nat_lt m.shown (front m.board)) refl
    where
      go : (less : Bool) → nat_lt m.shown (front m.board) ≡ less → FitsPlan p (cond less (record m { shown = front m.board }) m)
      go false is = fits
      go true is = record {
        board = fits.board;
        behind = omega arith;
        near = omega arith;
        workers = λ k w is. later p m.board.next m.shown m.board.next (front m.board) w (omega arith) fits.behind (fits.workers k w is);
      }

-- Each step keeps it that the machine fits, where the board does.
pub fits_after : (p : Plan) (m : Machine) (s : Step) → IsPlan p → IsBoard m.board → FitsPlan p m → Fits p (after p m s).board → FitsPlan p (after p m s)
fits_after p m (step.Claim n) plan board fits new = claim_step p m fits n new
fits_after p m (step.Front n) plan board fits new = own_step p m fits n (after_front m.shown) (front_fits p m.board.next m.shown)
fits_after p m (step.Look n) plan board fits new = own_step p m fits n (after_look p m.board.log) (look_fits p plan m.board board fits.board m.shown fits.behind)
fits_after p m (step.Count n) plan board fits new = own_step p m fits n (after_count p) (count_fits p plan m.board board fits.board m.shown fits.behind)
fits_after p m (step.Offer n) plan board fits new = offer_step p m fits n new
fits_after p m step.Settle plan board fits new = settle_step p m fits new
fits_after p m step.Force plan board fits new = force_step p m fits new
fits_after p m step.Show plan board fits new = show_step p m fits
