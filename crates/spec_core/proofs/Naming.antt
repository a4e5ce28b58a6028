-- What a step is answered names categories of the plan alone.
use Rattle.std.proofs.Common.{◌≡◌, ℕ, ◌<◌, Bool, true, false, cond, List, [], ◌∷◌, ◌++◌, length, nat_lt, take, Option, Some, None, All, refl, sym, subst}
use Rattle.std.proofs.lemmas.List.Elements.{All-pop, All-take}
use Rattle.mp_base.specs.declared.cell.Entry.{Entry}
use Rattle.mp_base.specs.Grid.{IsBelow}
use Rattle.mp_base.proofs.Entries.{below_after}
use Rattle.mp_base.proofs.Tallies.{cat_of-below, below_if_some}
use Rattle.event_retrieve.specs.declared.gather.Wanted.{Wanted}
use Rattle.event_retrieve.specs.declared.gather.Wanted.TheVariants.{Done, Outside, Later, Cell}
use Rattle.event_retrieve.specs.Gather.{wanted_of}
use Rattle.event_retrieve.specs.Plan.{Plan, IsPlan, grid_at}
use Rattle.commit_board.specs.Board.{State, Fits, after_settle, front, settle_of, recounted}
use Rattle.commit_board.specs.declared.settle.Settle.{Settle}
use Rattle.commit_board.specs.declared.settle.Settle.TheVariants.{Committed, Ended, NotOffered, Stale}
use Rattle.spec_steps.specs.Answers.{category_in, committed_category}
use Rattle.spec_steps.specs.declared.answer.Answer.{Answer}
use Rattle.spec_steps.specs.declared.answer.Answer.TheVariants as answer
use Rattle.spec_steps.specs.declared.step.Step.{Step}
use Rattle.spec_steps.specs.declared.step.Step.TheVariants as step
use Rattle.event_retrieve.specs.Retrieval.{retained_of}
use Rattle.spec_core.specs.declared.worker.Worker.{Worker}
use Rattle.spec_core.specs.declared.worker.Worker.TheVariants.{Idle, Claimed, Looking, Counted}
use Rattle.spec_core.specs.Worker.{cat_by, count_answer, front_answer, is_done, look_answer, look_at, read_answer}
use Rattle.spec_core.specs.World.{Machine, after, answer_by, answer_of, claim_answer, is_shown, may_force, offer_answer, with_board, worker_of}
use Rattle.event_retrieve.proofs.Below.{log_below}

-- an answer that names nothing, or is skipped
either : (n : ℕ) (done : Bool) (a b : Answer) → IsBelow n (category_in a) → IsBelow n (category_in b) → IsBelow n (category_in (cond done a b))
either n true a b first second = first
either n false a b first second = second

by_worker : (n : ℕ) (o : Option Worker) (own : Worker → Answer) → ((w : Worker) → IsBelow n (category_in (own w))) → IsBelow n (category_in (answer_by o own))
by_worker n None own each = tt
by_worker n (Some w) own each = each w

claim_named : (n : ℕ) (b : State) (w : Worker) → IsBelow n (category_in (claim_answer b w))
claim_named n b Idle = tt
claim_named n b (Claimed i) = tt
claim_named n b (Looking seen g) = tt
claim_named n b (Counted o) = tt

front_named : (n shown : ℕ) (w : Worker) → IsBelow n (category_in (front_answer shown w))
front_named n shown Idle = tt
front_named n shown (Claimed i) = either n (nat_lt i shown) (answer.Late shown) (answer.Seen shown) tt tt
front_named n shown (Looking seen g) = tt
front_named n shown (Counted o) = tt

offer_named : (n : ℕ) (b : State) (w : Worker) → IsBelow n (category_in (offer_answer b w))
offer_named n b Idle = tt
offer_named n b (Claimed i) = tt
offer_named n b (Looking seen g) = tt
offer_named n b (Counted o) = tt

count_named : (n : ℕ) (p : Plan) (w : Worker) → IsBelow n (category_in (count_answer p w))
count_named n p Idle = tt
count_named n p (Claimed i) = tt
count_named n p (Looking seen g) = either n (is_done (wanted_of p g)) (answer.Counted (retained_of p g.event)) answer.Skip tt tt
count_named n p (Counted o) = tt

module _ (p : Plan) (plan : IsPlan p) (log : List Entry) (below : All (λ (e : Entry). e.cat < p.source.cats) log) where
  read_named : (position c : ℕ) (found : Option ℕ) → cat_by p log c ≡ found → IsBelow p.source.cats (category_in (read_answer position found))
  read_named position c None is = tt
  read_named position c (Some k) is =
      let cells_below = below_after p.source.cats p.start.cells (take (length log) log) plan.start_below (All-take (λ (e : Entry). e.cat < p.source.cats) (length log) log below) in
      below_if_some p.source.cats (cat_by p log c) k (cat_of-below p.source.cats (grid_at p log (length log)).cells c cells_below) is

  look_at_named : (x : Wanted) → IsBelow p.source.cats (category_in (look_at p log x))
  look_at_named Done = tt
  look_at_named (Outside position) = tt
  look_at_named (Later position) = tt
  look_at_named (Cell position c) = read_named position c (cat_by p log c) refl

  look_named : (w : Worker) → IsBelow p.source.cats (category_in (look_answer p log w))
  look_named Idle = tt
  look_named (Claimed i) = tt
  look_named (Looking seen g) = look_at_named (wanted_of p g)
  look_named (Counted o) = tt

-- the entry that a board commits is one of its plan's
settled_named : (p : Plan) → IsPlan p → (b : State) (s : Settle) → Fits p (after_settle b s) → IsBelow p.source.cats (committed_category s)
settled_named p plan b (Committed e) fits =
    let all = subst (λ (l : List Entry). All (λ (x : Entry). x.cat < p.source.cats) l) (sym fits.prefix) (log_below p plan (front (after_settle b (Committed e)))) in
    (All-pop (λ (x : Entry). x.cat < p.source.cats) (b.log ++ e ∷ []) b.log (Some e) refl all).1
settled_named p plan b (Ended n) fits = tt
settled_named p plan b (NotOffered f) fits = tt
settled_named p plan b (Stale f k q) fits = tt

settle_named : (p : Plan) → IsPlan p → (m : Machine) → Fits p (after p m step.Settle).board → IsBelow p.source.cats (category_in (answer_of p m step.Settle))
settle_named p plan m = go (is_shown m)
  where
    go : (shown : Bool) → Fits p (cond shown (with_board m (after_settle m.board (settle_of p m.board))) m).board → IsBelow p.source.cats (category_in (cond shown (answer.Settled (settle_of p m.board)) answer.Skip))
    go true fits = settled_named p plan m.board (settle_of p m.board) fits
    go false fits = tt

pub named_by : (p : Plan) (m : Machine) (s : Step) → IsPlan p → Fits p m.board → Fits p (after p m s).board → IsBelow p.source.cats (category_in (answer_of p m s))
named_by p m (step.Claim n) plan fits new = by_worker p.source.cats (worker_of m n) (claim_answer m.board) (claim_named p.source.cats m.board)
named_by p m (step.Front n) plan fits new = by_worker p.source.cats (worker_of m n) (front_answer m.shown) (front_named p.source.cats m.shown)
named_by p m (step.Look n) plan fits new =
    by_worker p.source.cats (worker_of m n) (look_answer p m.board.log)
    (look_named p plan m.board.log (subst (λ (l : List Entry). All (λ (e : Entry). e.cat < p.source.cats) l) (sym fits.prefix) (log_below p plan (front m.board))))
named_by p m (step.Count n) plan fits new = by_worker p.source.cats (worker_of m n) (count_answer p) (count_named p.source.cats p)
named_by p m (step.Offer n) plan fits new = by_worker p.source.cats (worker_of m n) (offer_answer m.board) (offer_named p.source.cats m.board)
named_by p m step.Settle plan fits new = settle_named p plan m new
named_by p m step.Force plan fits new = either p.source.cats (may_force m) (answer.Recounted (front m.board) (recounted p m.board)) answer.Skip tt tt
named_by p m step.Show plan fits new = either p.source.cats (nat_lt m.shown (front m.board)) (answer.Shown (front m.board)) answer.Skip tt tt
