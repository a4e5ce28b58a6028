use Rattle.std.proofs.Common.{◌≡◌, ◌<◌, ℕ, false, get_or}
use Rattle.mp_number.specs.Number.{is_point}
use Rattle.mp_number.proofs.spelling.point_at.Given as goal

abbrev pub invariant-loop-place : goal.invariant-loop-place
invariant-loop-place l = (k : ℕ) → k < l.place → is_point (get_or l.text k 0) ≡ false
