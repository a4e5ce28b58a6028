use Rattle.std.proofs.Common.{[], unwrap_or, ap, sym, ◌∙◌}
use Rattle.mp_params.specs.Reading.{text_for}
use Rattle.mp_values.specs.Values.{origin_of}
use Rattle.mp_values.specs.declared.form.Form.TheVariants as form
use Rattle.mp_params.proofs.Wholes.{has_form, unread}
use Rattle.mp_params.proofs.found.origin.Goals as goal

pub unreachable-requires : goal.unreachable-requires
unreachable-requires c =
    let text = text_for c.args.key c.args.settings.now in
    unread (origin_of text) (sym c.in_default.is ∙ c.origin.ensures.value ∙ ap origin_of c.text_for.ensures)
    (has_form form.Origin c.args.settings.now c.args.key c.requires.whole c.requires.form c.requires.some)

pub returns-clause-value : goal.returns-clause-value
returns-clause-value c = ap (λ o. unwrap_or o []) (sym c.in-Some.is ∙ c.origin.ensures.value ∙ ap origin_of c.text_for.ensures)
