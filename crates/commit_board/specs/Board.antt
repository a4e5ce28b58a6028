-- The board of a level: how far its path was claimed, the offers that are kept, and the log.
use Rattle.std.specs.Prelude.{◌≡◌, ◌⊎◌, ℕ, ◌+◌, ◌-◌, ◌<◌, ◌≤◌, ◌^◌, ◌==◌, nat_lt, nat_le, if◌then◌else◌, List, [], ◌∷◌, ◌++◌, length, drop, max, Option, Some, None, is_some, option_and_then, slice_get, slice_set}
use Rattle.mp_base.specs.declared.cell.Entry.{Entry}
use Rattle.event_retrieve.specs.declared.offer.Offer.{Offer}
use Rattle.event_retrieve.specs.declared.retrieval.Retained.{Retained}
use Rattle.mp_base.specs.Cells.{category_counts}
use Rattle.mp_base.specs.Counts.{one_more}
use Rattle.path_stream.specs.Words.{Place}
use Rattle.event_retrieve.specs.declared.offer.Missed.{Missed}
use Rattle.event_retrieve.specs.Plan.{Plan, nodes_in, cell_of, grid_at, known}
use Rattle.event_retrieve.specs.Retrieval.{retained_of}
use Rattle.event_retrieve.specs.Sequential.{log_of, entry_after, drawn}
use Rattle.event_retrieve.specs.Offer.{IsSound, stale_by}
use Rattle.commit_board.specs.declared.claim.Claim.{Claim}
use Rattle.commit_board.specs.declared.claim.Claim.TheVariants.{Ticket, Full, AllClaimed}
use Rattle.commit_board.specs.declared.keep.Keep.{Keep}
use Rattle.commit_board.specs.declared.keep.Keep.TheVariants.{Kept, Late, Unclaimed, Held}
use Rattle.commit_board.specs.declared.settle.Settle.{Settle}
use Rattle.commit_board.specs.declared.settle.Settle.TheVariants.{Committed, Ended, NotOffered, Stale}

pub record State : Type 0 where
  -- the nodes of the path
  pub nodes : ℕ
  pub window : ℕ
  -- the first node that wasn't claimed
  pub next : ℕ
  pub log : List Entry
  -- how many known cells have each category
  pub known : List ℕ
  -- the kept offers: first that of the front, then those of the nodes after it
  pub slots : List (Option Offer)
  -- the random word with which the front's category is drawn
  pub words : Place

abbrev pub state : ℕ → ℕ → ℕ → List Entry → List ℕ → List (Option Offer) → Place → State
state nodes window next log known slots words =
    record { nodes = nodes; window = window; next = next; log = log; known = known; slots = slots; words = words }

-- the node whose entry is the next of the log
abbrev pub front : State → ℕ
front b = length b.log

-- the offer that a slot keeps
abbrev pub offer_in : List (Option Offer) → ℕ → Option Offer
offer_in slots j = option_and_then (λ x. x) (slice_get slots j)

-- the offer that is kept for a path node
abbrev pub kept_at : State → ℕ → Option Offer
kept_at b i = offer_in b.slots (i - front b)

-- so many slots after the front, an offer is kept that is of that node, and that is of the front or was claimed
pub record IsKept (b : State) (j : ℕ) (o : Offer) : Type 0 where
  pub index : o.index ≡ front b + j
  pub claimed : (j ≡ 0) ⊎ (o.index < b.next)

-- what every board keeps
pub record IsBoard (b : State) : Type 0 where
  pub behind : front b ≤ b.next
  pub inside : b.next ≤ b.nodes
  pub ahead : b.next ≤ front b + b.window
  pub slots : length b.slots ≡ b.window
  pub window_some : 1 ≤ b.window
  pub nodes_few : b.nodes < 2 ^ 32
  pub kept : (j : ℕ) (o : Offer) → offer_in b.slots j ≡ Some o → IsKept b j o

-- the place of the word with which the category of path node i is drawn
abbrev pub draw_place : Plan → ℕ → Place
draw_place p i = record { seed = p.seed; number = p.stream; place = nodes_in p + i }

-- the board fits a plan
pub record Fits (p : Plan) (b : State) : Type 0 where
  pub whole : b.nodes ≡ nodes_in p
  pub prefix : b.log ≡ log_of p (front b)
  pub known : b.known ≡ category_counts p.source.cats (grid_at p b.log (front b)).cells
  pub words : b.words ≡ draw_place p (front b)
  pub sound : (j : ℕ) (o : Offer) → offer_in b.slots j ≡ Some o → IsSound p o

abbrev pub claim_of : State → Claim
claim_of b =
    if b.next == b.nodes then AllClaimed b.nodes
    else if b.next == front b + b.window then Full b.next (front b) else Ticket (record { index = b.next })

abbrev pub with_next : State → ℕ → State
with_next b n = record b { next = n }

-- the board after a claim that was answered so
abbrev pub after_claim : State → Claim → State
after_claim b (Ticket ticket) = with_next b (b.next + 1)
after_claim b (Full next front) = b
after_claim b (AllClaimed length) = b

abbrev pub keep_of : State → Offer → Keep
keep_of b o =
    if nat_lt o.index (front b) then Late (front b)
    else if nat_le b.next o.index then Unclaimed o.index b.next
    else if is_some (kept_at b o.index) then Held o.index else Kept

abbrev pub with_slots : State → List (Option Offer) → State
with_slots b slots = record b { slots = slots }

-- the board after an offer that was answered so
abbrev pub after_keep : State → Offer → Keep → State
after_keep b o Kept = with_slots b (slice_set b.slots (o.index - front b) (Some o))
after_keep b o (Late front) = b
after_keep b o (Unclaimed index next) = b
after_keep b o (Held index) = b

-- the entry of the front by what an offer retains, by how many known cells have each category now, and by the front's word
abbrev pub entry_by : Plan → State → Offer → Entry
entry_by p b o = record { cell = cell_of p (front b); cat = drawn p (front b) o.retained.counts b.known }

-- what settling the front is answered by its offer, which may be stale
abbrev pub settle_at : Plan → State → Offer → Option Missed → Settle
settle_at p b o (Some m) = Stale (front b) m.entry m.position
settle_at p b o None = Committed (entry_by p b o)

abbrev pub settle_by : Plan → State → Option Offer → Settle
settle_by p b None = NotOffered (front b)
settle_by p b (Some o) = settle_at p b o (stale_by p o)

abbrev pub settle_of : Plan → State → Settle
settle_of p b = if front b == b.nodes then Ended b.nodes else settle_by p b (kept_at b (front b))

-- the board with one entry more: the front's offer is gone
abbrev pub with_entry : State → Entry → State
with_entry b e = record {
  nodes = b.nodes;
  window = b.window;
  next = max b.next (front b + 1);
  log = b.log ++ e ∷ [];
  known = one_more b.known e.cat;
  slots = drop 1 b.slots ++ None ∷ [];
  words = record b.words { place = b.words.place + 1 };
}

-- the board after the front's offer was answered so
abbrev pub after_settle : State → Settle → State
after_settle b (Committed e) = with_entry b e
after_settle b (Ended length) = b
after_settle b (NotOffered front) = b
after_settle b (Stale front entry position) = b

-- the entry of the front, by the sequential log
pub record IsNextEntry (p : Plan) (b : State) (e : Entry) : Type 0 where
  pub left : front b < b.nodes
  pub entry : e ≡ entry_after p (log_of p (front b)) (front b)
  pub cat : e.cat < p.source.cats

abbrev pub IfCommitted : Settle → (Entry → Type 0) → Type 0
IfCommitted (Committed e) fact = fact e
IfCommitted (Ended length) fact = Unit {0}
IfCommitted (NotOffered front) fact = Unit {0}
IfCommitted (Stale front entry position) fact = Unit {0}

-- the board with this offer kept for the front
abbrev pub with_front : State → Offer → State
with_front b o = with_slots b (slice_set b.slots 0 (Some o))

-- what is retained of the front's known event
abbrev pub recounted : Plan → State → Retained
recounted p b = retained_of p (known p b.log (front b) (front b))

-- the offer of the front that sees all entries
abbrev pub front_offer : Plan → State → Retained → Offer
front_offer p b r = record { index = front b; seen = front b; event = known p b.log (front b) (front b); retained = r }
