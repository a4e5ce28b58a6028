-- The texts of answers.
use Rattle.std.specs.Prelude.{ℕ, ◌++◌, ℤ, pos, List, [], ◌∷◌, codes, slice_index_or}
use Rattle.std.specs.Fmt.{decimal, signed_decimal}
use Rattle.commit_board.specs.declared.claim.Claim.{Claim}
use Rattle.commit_board.specs.declared.claim.Claim.TheVariants.{Ticket, Full, AllClaimed}
use Rattle.commit_board.specs.declared.keep.Keep.{Keep}
use Rattle.commit_board.specs.declared.keep.Keep.TheVariants as keep
use Rattle.commit_board.specs.declared.settle.Settle.{Settle}
use Rattle.commit_board.specs.declared.settle.Settle.TheVariants.{Committed, Ended, NotOffered, Stale}
use Rattle.event_retrieve.specs.declared.retrieval.Retained.{Retained}
use Rattle.mp_base.specs.declared.cell.Entry.{Entry}
use Rattle.mp_base.specs.Spaced.{behind_spaces}
use Rattle.spec_steps.specs.declared.answer.Answer.{Answer}
use Rattle.spec_steps.specs.declared.answer.Answer.TheVariants.{Claimed, Seen, Late, Known, Unknown, Counted, Offered, Settled, Recounted, Shown, Skip}

-- a word, and numbers behind it
abbrev pub told : List ℕ → List ℕ → List ℕ
told word numbers = word ++ behind_spaces decimal numbers

-- the code of a category, behind a space
abbrev pub code_text : List ℤ → ℕ → List ℕ
code_text categories cat = behind_spaces signed_decimal (slice_index_or categories cat (pos 0) ∷ [])

-- how many data are retained, their reach, and the replicates by category, each behind a space
abbrev pub retained_text : Retained → List ℕ
retained_text r = behind_spaces decimal (r.len ∷ r.reach ∷ []) ++ behind_spaces decimal r.counts

abbrev pub claim_text : Claim → List ℕ
claim_text (Ticket ticket) = told (codes "ticket") (ticket.index ∷ [])
claim_text (Full next front) = told (codes "full") (next ∷ front ∷ [])
claim_text (AllClaimed length) = told (codes "all") (length ∷ [])

-- the known cell at a position
abbrev pub known_text : List ℤ → ℕ → ℕ → List ℕ
known_text categories position cat = told (codes "known") (position ∷ []) ++ code_text categories cat

abbrev pub counted_text : Retained → List ℕ
counted_text r = codes "counted" ++ retained_text r

abbrev pub recounted_text : ℕ → Retained → List ℕ
recounted_text index r = told (codes "recounted") (index ∷ []) ++ retained_text r

-- what the offer of a node was answered; one that is unclaimed has no text
abbrev pub keep_text : ℕ → Keep → List ℕ
keep_text index keep.Kept = told (codes "kept") (index ∷ [])
keep_text index (keep.Late front) = told (codes "late") (front ∷ [])
keep_text index (keep.Held held) = told (codes "held") (held ∷ [])
keep_text index (keep.Unclaimed unclaimed next) = []

-- an entry at its place of the log
abbrev pub committed_text : List ℤ → ℕ → Entry → List ℕ
committed_text categories place entry = told (codes "committed") (place ∷ entry.cell ∷ []) ++ code_text categories entry.cat

-- what settling was answered, where so many nodes were committed before
abbrev pub settle_text : List ℤ → ℕ → Settle → List ℕ
settle_text categories committed (Committed entry) = committed_text categories committed entry
settle_text categories committed (NotOffered front) = told (codes "none") (front ∷ [])
settle_text categories committed (Stale front entry position) = told (codes "stale") (front ∷ entry ∷ position ∷ [])
settle_text categories committed (Ended length) = told (codes "ended") (length ∷ [])

-- the text of an answer by the codes of the categories, where so many nodes were committed before
abbrev pub answer_text : List ℤ → ℕ → Answer → List ℕ
answer_text categories committed (Claimed claim) = claim_text claim
answer_text categories committed (Seen front) = told (codes "seen") (front ∷ [])
answer_text categories committed (Late front) = told (codes "late") (front ∷ [])
answer_text categories committed (Known position cat) = known_text categories position cat
answer_text categories committed (Unknown position) = told (codes "unknown") (position ∷ [])
answer_text categories committed (Counted retained) = counted_text retained
answer_text categories committed (Offered index keep) = keep_text index keep
answer_text categories committed (Settled settle) = settle_text categories committed settle
answer_text categories committed (Recounted index retained) = recounted_text index retained
answer_text categories committed (Shown front) = told (codes "shown") (front ∷ [])
answer_text categories committed Skip = told (codes "skip") []

-- how many commits an answer is: one or none
abbrev pub commits_of : Settle → ℕ
commits_of (Committed entry) = 1
commits_of (NotOffered front) = 0
commits_of (Stale front entry position) = 0
commits_of (Ended length) = 0

abbrev pub commits_in : Answer → ℕ
commits_in (Claimed claim) = 0
commits_in (Seen front) = 0
commits_in (Late front) = 0
commits_in (Known position cat) = 0
commits_in (Unknown position) = 0
commits_in (Counted retained) = 0
commits_in (Offered index keep) = 0
commits_in (Settled settle) = commits_of settle
commits_in (Recounted index retained) = 0
commits_in (Shown front) = 0
commits_in Skip = 0
