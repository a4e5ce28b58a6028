use Rattle.std.proofs.Common.{unwrap_or, ap, sym, ◌∙◌}
use Rattle.mp_params.specs.Reading.{text_for}
use Rattle.mp_values.specs.declared.choice.StoreChoice.TheVariants.{Tree}
use Rattle.mp_values.specs.Values.{store_of}
use Rattle.mp_values.specs.declared.form.Form.TheVariants as form
use Rattle.mp_params.proofs.Wholes.{has_form, unread}
use Rattle.mp_params.proofs.found.store.Goals as goal

pub unreachable-requires : goal.unreachable-requires
unreachable-requires c =
    let text = text_for c.args.key c.args.settings.now in
    unread (store_of text) (sym c.in_default.is ∙ c.store.ensures ∙ ap store_of c.text_for.ensures)
    (has_form form.Store c.args.settings.now c.args.key c.requires.whole c.requires.form c.requires.some)

pub returns : goal.returns
returns c = ap (λ o. unwrap_or o Tree) (sym c.in-Some.is ∙ c.store.ensures ∙ ap store_of c.text_for.ensures)
