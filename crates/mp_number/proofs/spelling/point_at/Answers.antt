use Rattle.std.proofs.Common.{arith, sym}
use Rattle.std.proofs.lemmas.Bool.{eq-eqb}
use Rattle.std.proofs.lemmas.List.Sums.{position_or_len_is}
use Rattle.mp_number.specs.Number.{is_point}
use Rattle.mp_number.proofs.spelling.point_at.Goals as goal

pub returns-then-byte-eq46-clause-place : goal.returns-then-byte-eq46-clause-place
returns-then-byte-eq46-clause-place c = sym (position_or_len_is is_point c.args.text.now c.loop-place.place 0 (omega arith) c.loop-place.invariant (λ within. eq-eqb _ 46 c.if-byte-eq46.true))

pub returns-clause-place : goal.returns-clause-place
returns-clause-place c = sym (position_or_len_is is_point c.args.text.now _ 0 (omega arith) (λ k below. c.loop-place.invariant k (omega arith)) (λ within. absurd (omega arith)))
