-- What an answer tells a worker, by what its pass has seen afterwards.
use Rattle.std.specs.Prelude.{⊤, ◌≡◌, ℕ, ◌+◌, ◌<◌, ◌≤◌}
use Rattle.event_retrieve.specs.Around.{Around}
use Rattle.event_retrieve.specs.Offer.{IsSound}
use Rattle.event_retrieve.specs.Plan.{Plan, nodes_in}
use Rattle.event_retrieve.specs.declared.offer.Offer.{Offer}
use Rattle.commit_board.specs.declared.claim.Claim.{Claim}
use Rattle.commit_board.specs.declared.claim.Claim.TheVariants.{Ticket, Full, AllClaimed}
use Rattle.commit_board.specs.declared.keep.Keep.{Keep}
use Rattle.commit_board.specs.declared.keep.Keep.TheVariants.{Kept, Late as KeptLate, Unclaimed, Held}
use Rattle.commit_board.specs.declared.vet.OfferFault.{OfferFault}
use Rattle.commit_board.specs.declared.vet.OfferFault.TheVariants.{Index, Seen, Missing, Extra, Retained}
use Rattle.commit_board.specs.Vet.{IsFaultOf}
use Rattle.spec_run.specs.declared.bench.Foreign.{Foreign}
use Rattle.spec_run.specs.declared.bench.Foreign.TheVariants.{Refused, Taken}
use Rattle.spec_run.specs.declared.bench.Pushed.{Pushed}
use Rattle.spec_run.specs.declared.bench.Pushed.TheVariants.{Front, Ended}
use Rattle.spec_run.specs.declared.speculation.Spec.{Spec}
use Rattle.spec_run.specs.declared.speculation.Spec.TheVariants.{Late, Made}

-- the surroundings are of the plan's grid and template
abbrev pub IsAround : Plan → Around → Type 0
IsAround p around = around ≡ record { sides = p.start.sides; template = p.source.template }

-- Of a claim, by the window and how many nodes there are: a ticket is within the window after what was seen, and a full
-- window's front was seen.
abbrev pub ClaimTells : ℕ → ℕ → ℕ → Claim → Type 0
ClaimTells window nodes seen (Ticket ticket) = (ticket.index < nodes) × (ticket.index < seen + window)
ClaimTells window nodes seen (Full next front) = (next ≡ front + window) × (next < nodes) × (front ≤ seen)
ClaimTells window nodes seen (AllClaimed length) = length ≡ nodes

-- of an offer of path node i: a front that came too early for it was seen
abbrev pub KeepTells : ℕ → ℕ → Keep → Type 0
KeepTells i seen Kept = ⊤
KeepTells i seen (KeptLate front) = (i < front) × (front ≤ seen)
KeepTells i seen (Unclaimed index next) = (index ≡ i) × (next ≤ i)
KeepTells i seen (Held index) = index ≡ i

-- of a push of the front: what was reached was seen
abbrev pub PushTells : ℕ → ℕ → Pushed → Type 0
PushTells nodes seen (Front front) = (1 ≤ front) × (front ≤ nodes) × (front ≤ seen)
PushTells nodes seen (Ended length) = (length ≡ nodes) × (length ≤ seen)

-- of counting path node i ahead: its turn had passed at the front that was seen, or there is a sound offer that saw as much
abbrev pub SpecTells : Plan → ℕ → ℕ → Spec → Type 0
SpecTells p i seen (Late front) = (front ≡ seen) × (i < front)
SpecTells p i seen (Made offer) = (offer.index ≡ i) × (offer.seen ≡ seen) × IsSound p offer

-- an offer is of a node of the path whose turn was seen to come
abbrev pub IsReached : Plan → Offer → ℕ → Type 0
IsReached p o seen = (o.index < nodes_in p) × (o.index ≤ seen)

-- of a fault of an offer: the front that it was judged by was seen
abbrev pub FaultTells : Plan → Offer → ℕ → OfferFault → Type 0
FaultTells p o seen (Index index front) = front ≤ seen
FaultTells p o seen (Seen early index) = IsReached p o seen
FaultTells p o seen (Missing position) = IsReached p o seen
FaultTells p o seen (Extra position) = IsReached p o seen
FaultTells p o seen (Retained right) = IsReached p o seen

-- of the keeping of a vetted offer of path node i: its turn hasn't passed
abbrev pub TakenTells : ℕ → Keep → Type 0
TakenTells i Kept = ⊤
TakenTells i (KeptLate front) = ⊥
TakenTells i (Unclaimed index next) = (index ≡ i) × (next ≤ i)
TakenTells i (Held index) = index ≡ i

-- of an offer of a stranger: it has the fault that is named, or it is sound
abbrev pub ForeignTells : Plan → Offer → ℕ → Foreign → Type 0
ForeignTells p o seen (Refused fault) = IsFaultOf p o fault × FaultTells p o seen fault
ForeignTells p o seen (Taken keep) = IsSound p o × IsReached p o seen × TakenTells o.index keep
