-- Committing front after front.
use Rattle.std.proofs.Common.{arith, ◌≡◌, ℕ, zero, suc, ◌-◌, ◌<◌, ◌≤◌, Bool, true, false, cond, refl, ap, sym, ◌∙◌}
use Rattle.event_retrieve.specs.Plan.{Plan}
use Rattle.event_retrieve.specs.declared.offer.Offer.{Offer}
use Rattle.commit_board.specs.declared.keep.Keep.{Keep}
use Rattle.commit_board.specs.declared.keep.Keep.TheVariants.{Kept, Late, Unclaimed, Held}
use Rattle.commit_board.specs.Board.{State, IsBoard, after_keep, front, keep_of, settle_of}
use Rattle.spec_run.specs.Bench.{after_offer, counted_again, drained, drained_by, is_offered, is_to_count, with_front_committed}
use Rattle.spec_run.proofs.Settling.{front_committed, front_settled, nodes_settled}

abbrev once : Plan → State → Bool → State
once p b count = cond count (counted_again p b) b

once_nodes : (p : Plan) (b : State) (count : Bool) → (once p b count).nodes ≡ b.nodes
once_nodes p b true = refl
once_nodes p b false = refl

once_front : (p : Plan) (b : State) (count : Bool) → front (once p b count) ≡ front b
once_front p b true = refl
once_front p b false = refl

module _ (p : Plan) where
  pub nodes_committed : (b : State) → (with_front_committed p b).nodes ≡ b.nodes
  nodes_committed b =
      let now = once p b (is_to_count (settle_of p b)) in
      nodes_settled now (settle_of p now) ∙ once_nodes p b (is_to_count (settle_of p b))

  front_later : (b : State) → front b ≤ front (with_front_committed p b)
  front_later b =
      let now = once p b (is_to_count (settle_of p b)) in
      omega (arith, front_settled now (settle_of p now), once_front p b (is_to_count (settle_of p b)))

  -- where no offer is kept for the front, nothing is committed
  pub drained_done : (b : State) → is_offered b ≡ false → b ≡ drained p b
  unfolding drained_by
  drained_done b none = by (b.nodes - front b)
    where
      by : (most : ℕ) → b ≡ drained_by p most b
      by zero = refl
      by (suc most) = ap (λ (offered : Bool). cond offered (drained_by p most (with_front_committed p b)) b) (sym none)

  -- where one is, the front is committed, and then the next ones
  pub drained_more : (b : State) → is_offered b ≡ true → IsBoard b → front b < b.nodes → drained p b ≡ drained p (with_front_committed p b)
  unfolding drained_by
  drained_more b some board left = by (b.nodes - front b) refl
    where
      by : (n : ℕ) → b.nodes - front b ≡ n → drained_by p n b ≡ drained p (with_front_committed p b)
      by zero is = absurd (omega arith)
      by (suc most) is =
          let fewer : most ≡ (with_front_committed p b).nodes - front (with_front_committed p b) = omega (arith, nodes_committed b, front_committed p b board left, is, left) in
          ap (λ (offered : Bool). cond offered (drained_by p most (with_front_committed p b)) b) some ∙ ap (λ n. drained_by p n (with_front_committed p b)) fewer

  drained_later : (most : ℕ) (b : State) → front b ≤ front (drained_by p most b)
  unfolding drained_by
  drained_later zero b = omega arith
  drained_later (suc most) b = by (is_offered b) (drained_later most (with_front_committed p b))
    where
      by : (offered : Bool) → front (with_front_committed p b) ≤ front (drained_by p most (with_front_committed p b)) → front b ≤ front (cond offered (drained_by p most (with_front_committed p b)) b)
      by true later = omega (arith, front_later b, later)
      by false later = omega arith

  -- an offer never lowers the front
  pub front_offered : (b : State) (o : Offer) → front b ≤ front (after_offer p b o)
  front_offered b o =
      let kept = after_keep b o (keep_of b o) in
      omega (arith, front_kept b o (keep_of b o), drained_later (kept.nodes - front kept) kept)
    where
      front_kept : (b : State) (o : Offer) (k : Keep) → front (after_keep b o k) ≡ front b
      front_kept b o Kept = refl
      front_kept b o (Late n) = refl
      front_kept b o (Unclaimed i n) = refl
      front_kept b o (Held i) = refl
