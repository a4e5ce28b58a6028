use Rattle.std.proofs.Common.{unwrap_or, ap, sym, ◌∙◌}
use Rattle.mp_params.specs.Reading.{text_for}
use Rattle.mp_values.specs.Values.{seed_of}
use Rattle.mp_values.specs.declared.form.Form.TheVariants as form
use Rattle.mp_params.proofs.Wholes.{has_form, unread}
use Rattle.mp_params.proofs.found.seed.Goals as goal

pub unreachable-requires : goal.unreachable-requires
unreachable-requires c =
    let text = text_for c.args.key c.args.settings.now in
    unread (seed_of text) (sym c.in_default.is ∙ c.seed.ensures ∙ ap seed_of c.text_for.ensures)
    (has_form form.Seed c.args.settings.now c.args.key c.requires.whole c.requires.form c.requires.some)

pub returns : goal.returns
returns c = ap (λ o. unwrap_or o 0) (sym c.in-Some.is ∙ c.seed.ensures ∙ ap seed_of c.text_for.ensures)
