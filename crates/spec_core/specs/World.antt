-- The machine: a board, the front that is shown, and what each worker does; what a step is answered, and the machine after it.
use Rattle.std.specs.Prelude.{⊤, ◌≡◌, ℕ, zero, suc, Bool, ◌+◌, ◌-◌, ◌<◌, ◌≤◌, ◌==◌, ◌&&◌, nat_lt, if◌then◌else◌, List, [], length, replicate, Option, Some, None, slice_get, slice_set}
use Rattle.mp_base.specs.Cells.{category_counts}
use Rattle.ti_scan.specs.Event.{IsEvent}
use Rattle.event_retrieve.specs.declared.offer.Offer.{Offer}
use Rattle.event_retrieve.specs.Gather.{Gathering, LiesBetween}
use Rattle.event_retrieve.specs.Offer.{IsSound}
use Rattle.event_retrieve.specs.Plan.{Plan, nodes_in}
use Rattle.commit_board.specs.Board.{State, Fits, after_claim, after_keep, after_settle, claim_of, draw_place, front, front_offer, keep_of, recounted, settle_of, state, with_front}
use Rattle.spec_steps.specs.declared.answer.Answer.{Answer}
use Rattle.spec_steps.specs.declared.answer.Answer.TheVariants as answer
use Rattle.spec_steps.specs.declared.step.Step.{Step}
use Rattle.spec_steps.specs.declared.step.Step.TheVariants as step
use Rattle.spec_core.specs.declared.worker.Worker.{Worker}
use Rattle.spec_core.specs.declared.worker.Worker.TheVariants.{Idle, Claimed, Looking, Counted}
use Rattle.spec_core.specs.Worker.{after_count, after_front, after_look, claimed_by, count_answer, front_answer, look_answer, worker_offered}

pub record Machine : Type 0 where
  pub board : State
  -- the front that workers see
  pub shown : ℕ
  pub workers : List Worker

abbrev pub machine : State → ℕ → List Worker → Machine
machine board shown workers = record { board = board; shown = shown; workers = workers }

-- the worker of a number, counted from 1, if there is one
abbrev pub worker_of : Machine → ℕ → Option Worker
worker_of m zero = None
worker_of m (suc n) = slice_get m.workers n

-- the machine where the worker of a number, counted from 1, does this
abbrev pub with_worker : Machine → ℕ → Worker → Machine
with_worker m zero w = m
with_worker m (suc n) w = record m { workers = slice_set m.workers n w }

-- what a step of a worker's own is answered, and the machine after it
abbrev pub answer_by : Option Worker → (Worker → Answer) → Answer
answer_by None own = answer.Skip
answer_by (Some w) own = own w

abbrev pub after_own : Machine → ℕ → Option Worker → (Worker → Worker) → Machine
after_own m n None own = m
after_own m n (Some w) own = with_worker m n (own w)

-- Claiming: an idle worker asks the board, and has claimed where it gets a ticket.
abbrev pub claim_answer : State → Worker → Answer
claim_answer b Idle = answer.Claimed (claim_of b)
claim_answer b (Claimed i) = answer.Skip
claim_answer b (Looking seen g) = answer.Skip
claim_answer b (Counted o) = answer.Skip

abbrev pub board_claimed : State → Worker → State
board_claimed b Idle = after_claim b (claim_of b)
board_claimed b (Claimed i) = b
board_claimed b (Looking seen g) = b
board_claimed b (Counted o) = b

abbrev pub worker_claimed : State → Worker → Worker
worker_claimed b Idle = claimed_by (claim_of b)
worker_claimed b (Claimed i) = Claimed i
worker_claimed b (Looking seen g) = Looking seen g
worker_claimed b (Counted o) = Counted o

-- Offering: a worker that has counted offers that to the board, and is idle whatever the answer.
abbrev pub offer_answer : State → Worker → Answer
offer_answer b Idle = answer.Skip
offer_answer b (Claimed i) = answer.Skip
offer_answer b (Looking seen g) = answer.Skip
offer_answer b (Counted o) = answer.Offered o.index (keep_of b o)

abbrev pub board_offered : State → Worker → State
board_offered b Idle = b
board_offered b (Claimed i) = b
board_offered b (Looking seen g) = b
board_offered b (Counted o) = after_keep b o (keep_of b o)

abbrev pub with_board : Machine → State → Machine
with_board m b = record m { board = b }

-- a step of a worker's on the board
abbrev pub after_both : Machine → ℕ → Option Worker → (Worker → State) → (Worker → Worker) → Machine
after_both m n None board own = m
after_both m n (Some w) board own = with_worker (with_board m (board w)) n (own w)

-- all that is committed is shown
abbrev pub is_shown : Machine → Bool
is_shown m = m.shown == front m.board

abbrev pub may_force : Machine → Bool
may_force m = is_shown m && nat_lt (front m.board) m.board.nodes

-- What a step is answered: where it can't be taken, that it is skipped.
abbrev pub answer_of : Plan → Machine → Step → Answer
answer_of p m (step.Claim n) = answer_by (worker_of m n) (claim_answer m.board)
answer_of p m (step.Front n) = answer_by (worker_of m n) (front_answer m.shown)
answer_of p m (step.Look n) = answer_by (worker_of m n) (look_answer p m.board.log)
answer_of p m (step.Count n) = answer_by (worker_of m n) (count_answer p)
answer_of p m (step.Offer n) = answer_by (worker_of m n) (offer_answer m.board)
answer_of p m step.Settle = if is_shown m then answer.Settled (settle_of p m.board) else answer.Skip
answer_of p m step.Force = if may_force m then answer.Recounted (front m.board) (recounted p m.board) else answer.Skip
answer_of p m step.Show = if nat_lt m.shown (front m.board) then answer.Shown (front m.board) else answer.Skip

-- the machine after a step
abbrev pub after : Plan → Machine → Step → Machine
after p m (step.Claim n) = after_both m n (worker_of m n) (board_claimed m.board) (worker_claimed m.board)
after p m (step.Front n) = after_own m n (worker_of m n) (after_front m.shown)
after p m (step.Look n) = after_own m n (worker_of m n) (after_look p m.board.log)
after p m (step.Count n) = after_own m n (worker_of m n) (after_count p)
after p m (step.Offer n) = after_both m n (worker_of m n) (board_offered m.board) worker_offered
after p m step.Settle = if is_shown m then with_board m (after_settle m.board (settle_of p m.board)) else m
after p m step.Force = if may_force m then with_board m (with_front m.board (front_offer p m.board (recounted p m.board))) else m
after p m step.Show = if nat_lt m.shown (front m.board) then record m { shown = front m.board } else m

-- a worker looks: its node was claimed, it has seen no more than is shown, and what it gathered lies between
pub record FitsLooking (p : Plan) (next shown seen : ℕ) (g : Gathering) : Type 0 where
  pub claimed : g.index < next
  pub before : seen ≤ g.index
  pub shown_to : seen ≤ shown
  pub first : 1 ≤ g.position
  pub last : g.position ≤ length p.source.template + 1
  pub rising : IsEvent (g.position - 1) g.event
  pub between : LiesBetween p seen g

-- a worker has counted: its node was claimed, and its offer is sound
pub record FitsCounted (p : Plan) (next : ℕ) (o : Offer) : Type 0 where
  pub claimed : o.index < next
  pub sound : IsSound p o

-- what a worker does fits the plan, by how many nodes are claimed and how many entries are shown
abbrev pub FitsWorker : Plan → ℕ → ℕ → Worker → Type 0
FitsWorker p next shown Idle = ⊤
FitsWorker p next shown (Claimed i) = i < next
FitsWorker p next shown (Looking seen g) = FitsLooking p next shown seen g
FitsWorker p next shown (Counted o) = FitsCounted p next o

-- The machine fits a plan: its board does, what is shown is at most one entry behind, and each worker fits.
pub record FitsPlan (p : Plan) (m : Machine) : Type 0 where
  pub board : Fits p m.board
  pub behind : m.shown ≤ front m.board
  pub near : front m.board ≤ m.shown + 1
  pub workers : (n : ℕ) (w : Worker) → slice_get m.workers n ≡ Some w → FitsWorker p m.board.next m.shown w

-- the machine at the beginning: nothing is claimed, offered or shown, and all workers are idle
abbrev pub first_machine : Plan → ℕ → ℕ → Machine
first_machine p workers window =
    machine (state (nodes_in p) window 0 [] (category_counts p.source.cats p.start.cells) (replicate window None) (draw_place p 0)) 0 (replicate workers Idle)
