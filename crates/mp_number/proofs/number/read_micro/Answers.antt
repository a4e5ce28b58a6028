use Rattle.std.proofs.Common.{◌≡◌, ◌+◌, ◌*◌, ◌^◌, Some, Ok, Bool, w64, length, arith, ap, sym, ◌∙◌}
use Rattle.std.proofs.lemmas.Int.{to_z-of_z}
use Rattle.mp_number.specs.Number.{Spelling, micro_of, micro_value, numerator, denominator, signed, spelling_of}
use Rattle.mp_number.proofs.Sizes.{pow-some}
use Rattle.mp_number.proofs.Values.{beyond, within, micro_above, micro_within}
use Rattle.mp_number.proofs.number.read_micro.Goals as goal

pub returns-in_default-clause-value : goal.returns-in_default-clause-value
unfolding micro_of
returns-in_default-clause-value c = sym (ap micro_value (sym c.spelled.ensures ∙ c.in_default.is))

pub returns-then-is_above-clause-value : goal.returns-then-is_above-clause-value
unfolding micro_of
returns-then-is_above-clause-value c =
    let s = c.in-Some.number in
    let size = c.scaled-size in
    let found : spelling_of c.args.text.now ≡ Some s = sym c.spelled.ensures ∙ c.in-Some.is in
    let above = beyond (10 ^ 18) (numerator s * 10 ^ 6) (denominator s) size.result.whole size.result.exact (pow-some (length s.fraction + s.moves.left)) size.ensures.whole size.ensures.exact (c.is_above.ensures.0 c.if-is_above.true) in
    sym (ap micro_value found ∙ micro_above s (omega (arith, above)))

pub returns-clause-value : goal.returns-clause-value
unfolding micro_of
returns-clause-value c =
    let s = c.in-Some.number in
    let size = c.scaled-size in
    let found : spelling_of c.args.text.now ≡ Some s = sym c.spelled.ensures ∙ c.in-Some.is in
    let inside = within (10 ^ 18) (numerator s * 10 ^ 6) (denominator s) size.result.whole size.result.exact (pow-some (length s.fraction + s.moves.left)) size.ensures.whole size.ensures.exact (λ above. cc (c.is_above.ensures.1 above, c.if-is_above.false)) in
    let sign : c.number.inside.negative ≡ s.negative = ap (λ (v : Spelling). v.negative) c.number.view_is in
    ap Ok (to_z-of_z w64 c.signed.result (record { sfits = c.signed.type_inv }) ∙ c.signed.ensures ∙ ap (λ (b : Bool). signed b size.result.whole) sign)
    ∙ sym (ap micro_value found ∙ micro_within s size.result.whole (omega (arith, inside.0)) inside.1)
