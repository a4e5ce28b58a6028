-- What one worker does, and how a step of its own changes that.
use Rattle.std.specs.Prelude.{⊤, ℕ, ◌+◌, ◌≤◌, ◌<◌, nat_lt, Bool, true, false, if◌then◌else◌, List, [], length, Option, Some, None}
use Rattle.mp_base.specs.declared.cell.Entry.{Entry}
use Rattle.mp_base.specs.Grid.{cat_of}
use Rattle.event_retrieve.specs.declared.gather.Wanted.{Wanted}
use Rattle.event_retrieve.specs.declared.gather.Wanted.TheVariants.{Done, Outside, Later, Cell}
use Rattle.event_retrieve.specs.declared.offer.Offer.{Offer}
use Rattle.event_retrieve.specs.Gather.{Gathering, after_put, wanted_of}
use Rattle.event_retrieve.specs.Plan.{Plan, grid_at, nodes_in}
use Rattle.event_retrieve.specs.Retrieval.{retained_of}
use Rattle.commit_board.specs.declared.claim.Claim.{Claim}
use Rattle.commit_board.specs.declared.claim.Claim.TheVariants as claim
use Rattle.spec_steps.specs.declared.answer.Answer.{Answer}
use Rattle.spec_steps.specs.declared.answer.Answer.TheVariants as answer
use Rattle.spec_core.specs.declared.worker.Worker.{Worker}
use Rattle.spec_core.specs.declared.worker.Worker.TheVariants.{Idle, Claimed, Looking, Counted}

abbrev pub is_idle : Worker → Bool
is_idle Idle = true
is_idle (Claimed i) = false
is_idle (Looking seen g) = false
is_idle (Counted o) = false

-- what a worker does after a claim that was answered so
abbrev pub claimed_by : Claim → Worker
claimed_by (claim.Ticket ticket) = Claimed ticket.index
claimed_by (claim.Full next front) = Idle
claimed_by (claim.AllClaimed length) = Idle

-- the offer of a worker that has counted, and the worker without it
abbrev pub offer_in : Worker → Option Offer
offer_in Idle = None
offer_in (Claimed i) = None
offer_in (Looking seen g) = None
offer_in (Counted o) = Some o

abbrev pub worker_offered : Worker → Worker
worker_offered Idle = Idle
worker_offered (Claimed i) = Claimed i
worker_offered (Looking seen g) = Looking seen g
worker_offered (Counted o) = Idle

-- no data of path node i yet
abbrev pub gathering_at : ℕ → Gathering
gathering_at i = record { index = i; position = 1; event = [] }

-- Reading the front that is shown: the worker gives up a node whose turn has passed, and else begins to look.
abbrev pub front_answer : ℕ → Worker → Answer
front_answer shown Idle = answer.Skip
front_answer shown (Claimed i) = if nat_lt i shown then answer.Late shown else answer.Seen shown
front_answer shown (Looking seen g) = answer.Skip
front_answer shown (Counted o) = answer.Skip

abbrev pub after_front : ℕ → Worker → Worker
after_front shown Idle = Idle
after_front shown (Claimed i) = if nat_lt i shown then Idle else Looking shown (gathering_at i)
after_front shown (Looking seen g) = Looking seen g
after_front shown (Counted o) = Counted o

-- the category of a cell after the entries of a log
abbrev pub cat_by : Plan → List Entry → ℕ → Option ℕ
cat_by p log c = cat_of (grid_at p log (length log)).cells c

-- what is read at a position
abbrev pub read_answer : ℕ → Option ℕ → Answer
read_answer position None = answer.Unknown position
read_answer position (Some k) = answer.Known position k

-- Looking at what is wanted next: a cell that can have a category by the node's turn is read, any other is unknown.
abbrev pub look_at : Plan → List Entry → Wanted → Answer
look_at p log Done = answer.Skip
look_at p log (Outside position) = answer.Unknown position
look_at p log (Later position) = answer.Unknown position
look_at p log (Cell position c) = read_answer position (cat_by p log c)

abbrev pub gathered : Plan → List Entry → Gathering → Wanted → Gathering
gathered p log g Done = g
gathered p log g (Outside position) = after_put g None
gathered p log g (Later position) = after_put g None
gathered p log g (Cell position c) = after_put g (cat_by p log c)

abbrev pub look_answer : Plan → List Entry → Worker → Answer
look_answer p log Idle = answer.Skip
look_answer p log (Claimed i) = answer.Skip
look_answer p log (Looking seen g) = look_at p log (wanted_of p g)
look_answer p log (Counted o) = answer.Skip

abbrev pub after_look : Plan → List Entry → Worker → Worker
after_look p log Idle = Idle
after_look p log (Claimed i) = Claimed i
after_look p log (Looking seen g) = Looking seen (gathered p log g (wanted_of p g))
after_look p log (Counted o) = Counted o

-- the offer of what was seen
abbrev pub offer_of : Plan → ℕ → Gathering → Offer
offer_of p seen g = record { index = g.index; seen = seen; event = g.event; retained = retained_of p g.event }

abbrev pub is_done : Wanted → Bool
is_done Done = true
is_done (Outside position) = false
is_done (Later position) = false
is_done (Cell position c) = false

-- the worker looks, and has looked at all positions
abbrev pub has_looked : Plan → Worker → Bool
has_looked p Idle = false
has_looked p (Claimed i) = false
has_looked p (Looking seen g) = is_done (wanted_of p g)
has_looked p (Counted o) = false

abbrev pub count_answer : Plan → Worker → Answer
count_answer p Idle = answer.Skip
count_answer p (Claimed i) = answer.Skip
count_answer p (Looking seen g) = if is_done (wanted_of p g) then answer.Counted (retained_of p g.event) else answer.Skip
count_answer p (Counted o) = answer.Skip

abbrev pub after_count : Plan → Worker → Worker
after_count p Idle = Idle
after_count p (Claimed i) = Claimed i
after_count p (Looking seen g) = if is_done (wanted_of p g) then Counted (offer_of p seen g) else Looking seen g
after_count p (Counted o) = Counted o

-- a worker looks at a node of the path, from the first template position to behind the last
pub record IsLooking (p : Plan) (seen : ℕ) (g : Gathering) : Type 0 where
  pub in_path : g.index < nodes_in p
  pub before : seen ≤ g.index
  pub last : g.position ≤ length p.source.template + 1

-- what the worker does can go on
abbrev pub IsReady : Plan → Worker → Type 0
IsReady p Idle = ⊤
IsReady p (Claimed i) = ⊤
IsReady p (Looking seen g) = IsLooking p seen g
IsReady p (Counted o) = ⊤
