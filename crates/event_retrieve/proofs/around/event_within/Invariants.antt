use Rattle.std.proofs.Common.{◌≡◌, take}
use Rattle.mp_base.specs.Grid.{cat_at}
use Rattle.event_retrieve.specs.Plan.{data_by}
use Rattle.event_retrieve.proofs.around.event_within.Given as goal

abbrev pub invariant-loop-i : goal.invariant-loop-i
invariant-loop-i l = l.event ≡ data_by (λ _ v. cat_at l.grid l.fn.cell v) (take l.i l.ground.vectors.now)
