-- The categories that answers name.
use Rattle.std.specs.Prelude.{ℕ, List, Option, Some, None, All}
use Rattle.commit_board.specs.declared.settle.Settle.{Settle}
use Rattle.commit_board.specs.declared.settle.Settle.TheVariants.{Committed, Ended, NotOffered, Stale}
use Rattle.mp_base.specs.Grid.{IsBelow}
use Rattle.spec_steps.specs.declared.answer.Answer.{Answer}
use Rattle.spec_steps.specs.declared.answer.Answer.TheVariants.{Claimed, Seen, Late, Known, Unknown, Counted, Offered, Settled, Recounted, Shown, Skip}

-- the category of the entry that was committed
abbrev pub committed_category : Settle → Option ℕ
committed_category (Committed entry) = Some entry.cat
committed_category (Ended length) = None
committed_category (NotOffered front) = None
committed_category (Stale front entry position) = None

-- the category that an answer names, where it names one
abbrev pub category_in : Answer → Option ℕ
category_in (Claimed claim) = None
category_in (Seen front) = None
category_in (Late front) = None
category_in (Known position cat) = Some cat
category_in (Unknown position) = None
category_in (Counted retained) = None
category_in (Offered index keep) = None
category_in (Settled settle) = committed_category settle
category_in (Recounted index retained) = None
category_in (Shown front) = None
category_in Skip = None

-- answers name only categories below a number
abbrev pub NamesCategories : ℕ → List Answer → Type 0
NamesCategories n answers = All (λ answer. IsBelow n (category_in answer)) answers
