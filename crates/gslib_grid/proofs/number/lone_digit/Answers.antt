use Rattle.std.proofs.Common.{◌≡◌, ◌-◌, ◌+◌, ◌<◌, ◌≤◌, [], ◌∷◌, get_or, ap, sym, ◌∙◌, arith}
use Rattle.std.specs.Result.{result_ok}
use Rattle.mp_base.specs.Number.{whole_of}
use Rattle.mp_text.specs.Fields.{fields_of}
use Rattle.gslib_grid.proofs.Digit.{fields_of_digit, single, whole_of_digit}
use Rattle.gslib_grid.proofs.number.lone_digit.Goals as goal

pub returns-then-is_ascii_digit-clause-value : goal.returns-then-is_ascii_digit-clause-value
returns-then-is_ascii_digit-clause-value c =
    let text = c.args.text.now in
    let digit = get_or text 0 0 in
    let bounds = c.if-is_ascii_digit.ensures.cases in
    let shown : digit ≡ digit - 48 + 48 = omega (arith, bounds.0) in
    let small : digit - 48 < 10 = omega (arith, bounds.1) in
    ap (λ t. result_ok (whole_of t)) (single text c.if-text-eq1.true ∙ ap (λ b. b ∷ []) shown) ∙ ap result_ok (whole_of_digit (digit - 48) small)

pub returns-then-is_ascii_digit-clause-field : goal.returns-then-is_ascii_digit-clause-field
returns-then-is_ascii_digit-clause-field c =
    let text = c.args.text.now in
    let alone = single text c.if-text-eq1.true in
    let digit : 48 ≤ get_or text 0 0 = c.if-is_ascii_digit.ensures.cases.0 in
    ap fields_of alone ∙ fields_of_digit (get_or text 0 0) digit ∙ sym (ap (λ t. t ∷ []) alone)
