use Rattle.std.proofs.Common.{◌≡◌, ℤ, pos, negsuc, suc, true, w32, FitsSigned, unwrap_or, ap, sym, ◌∙◌, arith}
use Rattle.std.proofs.lemmas.Bool.{leb-true}
use Rattle.std.proofs.lemmas.Int.{to_z-of_z}
use Rattle.mp_params.specs.Reading.{text_for}
use Rattle.mp_values.specs.Values.{code_of, is_number}
use Rattle.mp_values.specs.declared.form.Form.TheVariants as form
use Rattle.mp_params.proofs.Wholes.{has_form, unread}
use Rattle.mp_params.proofs.found.code.Goals as goal

pub unreachable-requires : goal.unreachable-requires
unreachable-requires c =
    let text = text_for c.args.key c.args.settings.now in
    unread (code_of text) (sym c.in_default.is ∙ c.code.ensures.value ∙ ap code_of c.text_for.ensures)
    (has_form form.Code c.args.settings.now c.args.key c.requires.whole c.requires.form c.requires.some)

-- a number fits 32 bits
number_fits : (z : ℤ) → is_number z ≡ true → FitsSigned w32 z
number_fits (pos n) is = record { sfits = omega (arith, leb-true n 999999999 is) }
number_fits (negsuc n) is = record { sfits = omega (arith, leb-true (suc n) 999999999 is) }

pub returns-clause-value : goal.returns-clause-value
returns-clause-value c =
    to_z-of_z w32 c.in-Some.value (number_fits c.in-Some.value c.in-Some.ensures.number)
    ∙ ap (λ o. unwrap_or o (pos 0)) (sym c.in-Some.is ∙ c.code.ensures.value ∙ ap code_of c.text_for.ensures)
