use Rattle.std.proofs.Common.{◌≡◌, ◌<◌, ℕ, false, get_or}
use Rattle.mp_text.specs.Fields.{is_visible}
use Rattle.mp_text.proofs.field.visible_at.Given as goal

abbrev pub invariant-loop-place : goal.invariant-loop-place
invariant-loop-place l = (k : ℕ) → k < l.place → is_visible (get_or l.text k 0) ≡ false
