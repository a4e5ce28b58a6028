-- What answers tell a worker whose pass has seen the front.
use Rattle.std.proofs.Common.{arith, ◌≡◌, ℕ, ◌+◌, ◌<◌, ◌≤◌, Bool, true, false, cond, ◌==◌, nat_lt, nat_le, is_some, refl}
use Rattle.std.proofs.lemmas.Bool.Decides.{nat_tests}
use Rattle.event_retrieve.specs.declared.offer.Offer.{Offer}
use Rattle.event_retrieve.specs.Plan.{Plan, nodes_in}
use Rattle.commit_board.specs.declared.claim.Claim.{Claim}
use Rattle.commit_board.specs.declared.claim.Claim.TheVariants.{Ticket, Full, AllClaimed}
use Rattle.commit_board.specs.declared.keep.Keep.TheVariants.{Kept, Late, Unclaimed, Held}
use Rattle.commit_board.specs.Board.{State, IsBoard, after_claim, claim_of, front, keep_of, kept_at}
use Rattle.spec_run.specs.declared.bench.Pushed.TheVariants.{Front, Ended}
use Rattle.spec_run.specs.Bench.{after_push, is_ended, pushed_of, with_front_committed}
use Rattle.spec_run.specs.Told.{ClaimTells, KeepTells, PushTells}
use Rattle.spec_run.proofs.Settling.{front_committed, goes_on}

pub front_claimed : (b : State) (c : Claim) → front (after_claim b c) ≡ front b
front_claimed b (Ticket t) = refl
front_claimed b (Full n f) = refl
front_claimed b (AllClaimed n) = refl

pub claim_tells : (b : State) (window nodes seen : ℕ) → IsBoard b → b.window ≡ window → b.nodes ≡ nodes → front b ≤ seen → ClaimTells window nodes seen (claim_of b)
claim_tells b window nodes seen board w n le = by (b.next == b.nodes) (b.next == front b + b.window) refl refl
  where
    left : (b.next == b.nodes) ≡ false → b.next < nodes
    left not_all = let below : b.next < b.nodes = grind (arith, nat_tests, board.inside) in omega (arith, below, n)

    by : (all full : Bool) → (b.next == b.nodes) ≡ all → (b.next == front b + b.window) ≡ full → ClaimTells window nodes seen (cond all (AllClaimed b.nodes) (cond full (Full b.next (front b)) (Ticket (record { index = b.next }))))
    by true full all _ = n
    by false true not_all full =
        let ahead : b.next ≡ front b + b.window = grind (arith, nat_tests) in
        (omega (arith, ahead, w), left not_all, le)
    by false false not_all not_full =
        let below : b.next < front b + b.window = grind (arith, nat_tests, board.ahead) in
        (left not_all, omega (arith, below, w, le))

pub keep_tells : (b : State) (o : Offer) (seen : ℕ) → front b ≤ seen → KeepTells o.index seen (keep_of b o)
keep_tells b o seen le = by (nat_lt o.index (front b)) (nat_le b.next o.index) (is_some (kept_at b o.index)) refl refl
  where
    by : (late unclaimed held : Bool) → nat_lt o.index (front b) ≡ late → nat_le b.next o.index ≡ unclaimed → KeepTells o.index seen (cond late (Late (front b)) (cond unclaimed (Unclaimed o.index b.next) (cond held (Held o.index) Kept)))
    by true unclaimed held late _ = let below : o.index < front b = grind (arith, nat_tests) in (below, le)
    by false true held _ unclaimed = let above : b.next ≤ o.index = grind (arith, nat_tests) in (refl, above)
    by false false true _ _ = refl
    by false false false _ _ = tt

pub push_tells : (p : Plan) (b : State) (seen : ℕ) → IsBoard b → b.nodes ≡ nodes_in p → front (after_push p b) ≤ seen → PushTells (nodes_in p) seen (pushed_of b)
push_tells p b seen board n le = by (is_ended b) refl le
  where
    by : (end : Bool) → is_ended b ≡ end → front (cond end b (with_front_committed p b)) ≤ seen → PushTells (nodes_in p) seen (cond end (Ended b.nodes) (Front (front b + 1)))
    by true is le = let end : front b ≡ b.nodes = grind (arith, nat_tests) in (n, omega (arith, end, le))
    by false is le =
        let left = goes_on p b board is in
        let next = front_committed p b board left in
        (omega arith, omega (arith, left, n), omega (arith, next, le))
