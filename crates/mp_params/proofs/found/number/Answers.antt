use Rattle.std.proofs.Common.{unwrap_or, ap, sym, ◌∙◌}
use Rattle.mp_params.specs.Reading.{text_for}
use Rattle.mp_params.specs.Table.{form_of}
use Rattle.mp_values.specs.Forms.{number_of}
use Rattle.mp_params.proofs.Wholes.{is_number_read, unread}
use Rattle.mp_params.proofs.found.number.Goals as goal

pub unreachable-requires : goal.unreachable-requires
unreachable-requires c =
    let key = c.args.key in
    let text = text_for key c.args.settings.now in
    unread (number_of (form_of key) text) (sym c.in_default.is ∙ c.number_of.ensures.value ∙ (λ i. number_of (c.form.ensures i) (c.text_for.ensures i)))
    (is_number_read (form_of key) text c.requires.form (c.requires.whole.each key c.requires.some))

pub returns-clause-value : goal.returns-clause-value
returns-clause-value c = ap (λ o. unwrap_or o 0) (sym c.in-Some.is ∙ c.number_of.ensures.value ∙ (λ i. number_of (c.form.ensures i) (c.text_for.ensures i)))
