use Rattle.std.proofs.Common.{◌≡◌, map}
use Rattle.std.specs.List.{range_with_len}
use Rattle.mps_demo.specs.Image.{centres_at}
use Rattle.mps_demo.proofs.image.columns_of.Given as goal

-- the columns so far
abbrev pub invariant-loop-x : goal.invariant-loop-x
invariant-loop-x l = l.columns.items ≡ map (centres_at l.channels) (range_with_len 0 l.x)
