use Rattle.std.proofs.Common.{arith, sym, ◌∙◌}
use Rattle.std.proofs.lemmas.List.Sums.{position_or_len_is}
use Rattle.mp_number.specs.Number.{is_mark}
use Rattle.mp_number.proofs.spelling.mark_at.Goals as goal

pub returns-then-is_mark-clause-place : goal.returns-then-is_mark-clause-place
returns-then-is_mark-clause-place c = sym (position_or_len_is is_mark c.args.text.now c.loop-place.place 0 (omega arith) c.loop-place.invariant (λ within. sym c.is_mark.ensures ∙ c.if-is_mark.true))

pub returns-clause-place : goal.returns-clause-place
returns-clause-place c = sym (position_or_len_is is_mark c.args.text.now _ 0 (omega arith) (λ k below. c.loop-place.invariant k (omega arith)) (λ within. absurd (omega arith)))
