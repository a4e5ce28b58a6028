use Rattle.gslib_grid.proofs.Categories.{IsPlaceFrom}
use Rattle.gslib_grid.proofs.number.place_of.Given as goal

abbrev pub invariant-loop-at : goal.invariant-loop-at
invariant-loop-at l = IsPlaceFrom l.codes l.code l.at l.place

abbrev pub decreases-loop-at : goal.decreases-loop-at
decreases-loop-at l = l.at
