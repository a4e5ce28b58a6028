use Rattle.std.proofs.Common.{◌≡◌, ◌+◌, ◌*◌, ◌/◌, ◌%◌, ◌^◌, ◌<◌, false, Some, Ok, Bool, w32, w64, length, arith, ap, sym, ◌∙◌}
use Rattle.std.proofs.lemmas.Bool.{not-true, not-false}
use Rattle.std.proofs.lemmas.Int.{to_z-of_z}
use mir.Val.{to_z, of_z}
use Rattle.std.specs.Int.Signed.{mag}
use Rattle.mp_number.specs.Number.{Spelling, whole_of, whole_value, numerator, denominator, signed, spelling_of}
use Rattle.mp_number.proofs.Sizes.{pow-some}
use Rattle.mp_number.proofs.Values.{beyond, within, mag-signed, whole_above, whole_broken, whole_within}
use Rattle.mp_number.proofs.number.read_whole.Goals as goal

pub returns-in_default-clause-value : goal.returns-in_default-clause-value
unfolding whole_of
returns-in_default-clause-value c = sym (ap whole_value (sym c.spelled.ensures ∙ c.in_default.is))

pub returns-then-is_above-clause-value : goal.returns-then-is_above-clause-value
unfolding whole_of
returns-then-is_above-clause-value c =
    let s = c.in-Some.number in
    let size = c.scaled-size in
    let found : spelling_of c.args.text.now ≡ Some s = sym c.spelled.ensures ∙ c.in-Some.is in
    let above = beyond 999999999 (numerator s * 1) (denominator s) size.result.whole size.result.exact (pow-some (length s.fraction + s.moves.left)) size.ensures.whole size.ensures.exact (c.is_above.ensures.0 c.if-is_above.true) in
    sym (ap whole_value found ∙ whole_above s (omega (arith, above)))

pub returns-then-not-size-clause-value : goal.returns-then-not-size-clause-value
unfolding whole_of
returns-then-not-size-clause-value c =
    let s = c.in-Some.number in
    let size = c.scaled-size in
    let found : spelling_of c.args.text.now ≡ Some s = sym c.spelled.ensures ∙ c.in-Some.is in
    let inside = within 999999999 (numerator s * 1) (denominator s) size.result.whole size.result.exact (pow-some (length s.fraction + s.moves.left)) size.ensures.whole size.ensures.exact (λ above. cc (c.is_above.ensures.1 above, c.if-is_above.false)) in
    let one : numerator s * 1 ≡ numerator s = omega arith in
    let inexact : size.result.exact ≡ false = not-true size.result.exact c.if-not-size.true in
    sym (ap whole_value found ∙ whole_broken s (omega (arith, inside.0)) (λ none. cc (size.ensures.exact.1 (ap (λ n. n % denominator s) one ∙ none), inexact)))

pub returns-clause-value : goal.returns-clause-value
unfolding whole_of
returns-clause-value c =
    let s = c.in-Some.number in
    let size = c.scaled-size in
    let found : spelling_of c.args.text.now ≡ Some s = sym c.spelled.ensures ∙ c.in-Some.is in
    let inside = within 999999999 (numerator s * 1) (denominator s) size.result.whole size.result.exact (pow-some (length s.fraction + s.moves.left)) size.ensures.whole size.ensures.exact (λ above. cc (c.is_above.ensures.1 above, c.if-is_above.false)) in
    let one : numerator s * 1 ≡ numerator s = omega arith in
    let whole : numerator s % denominator s ≡ 0 = sym (ap (λ n. n % denominator s) one) ∙ size.ensures.exact.0 (not-false size.result.exact c.if-not-size.false) in
    let sign : c.number.inside.negative ≡ s.negative = ap (λ (v : Spelling). v.negative) c.number.view_is in
    let small : mag c.signed.result < 2 ^ 31 = omega (arith, ap mag c.signed.ensures, mag-signed c.number.inside.negative size.result.whole) in
    let z = c.signed.result in
    ap Ok (ap (λ y. to_z w32 (of_z w32 y)) (to_z-of_z w64 z (record { sfits = c.signed.type_inv })) ∙ to_z-of_z w32 z (record { sfits = small }) ∙ c.signed.ensures ∙ ap (λ (b : Bool). signed b size.result.whole) sign)
    ∙ sym (ap whole_value found ∙ whole_within s size.result.whole (omega (arith, inside.0)) whole (ap (λ n. n / denominator s) (sym one) ∙ inside.1))
