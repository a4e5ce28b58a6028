use Rattle.std.proofs.Common.{◌≡◌, w32, ap, sym, ◌∙◌}
use Rattle.std.proofs.lemmas.Int.{to_z-of_z}
use Rattle.mp_values.specs.Values.{is_code}
use Rattle.mp_params.specs.Params.{targets_fit}
use Rattle.mp_params.specs.Reading.{values_in}
use Rattle.mp_params.proofs.Judged.{bad_missing, bad_targets}
use Rattle.mp_params.proofs.reading.judged.Goals as goal

pub returns-then-is_category : goal.returns-then-is_category
unfolding values_in
returns-then-is_category c =
    let same : is_code c.code-missing.result c.categories-categories.result ≡ is_code (values_in c.args.settings.now).missing (values_in c.args.settings.now).categories = λ i. is_code (c.code-missing.ensures.value i) (c.categories-categories.ensures.value i) in
    let is = ap (is_code c.code-missing.result) (sym c.as_slice.ensures.codes) ∙ ap (λ z. is_code z c.as_slice.result.now) (sym (to_z-of_z w32 c.code-missing.result (record { sfits = c.code-missing.type_inv }))) ∙ sym c.is_category.ensures ∙ c.if-is_category.true in
    bad_missing (values_in c.args.settings.now) (sym same ∙ is)

pub returns-then-not-targets_fit : goal.returns-then-not-targets_fit
unfolding values_in
returns-then-not-targets_fit c =
    let same : is_code c.code-missing.result c.categories-categories.result ≡ is_code (values_in c.args.settings.now).missing (values_in c.args.settings.now).categories = λ i. is_code (c.code-missing.ensures.value i) (c.categories-categories.ensures.value i) in
    let isnt = ap (is_code c.code-missing.result) (sym c.as_slice.ensures.codes) ∙ ap (λ z. is_code z c.as_slice.result.now) (sym (to_z-of_z w32 c.code-missing.result (record { sfits = c.code-missing.type_inv }))) ∙ sym c.is_category.ensures ∙ c.if-is_category.false in
    let both : targets_fit c.targets_if_any-targets.result c.categories-categories.result ≡ targets_fit (values_in c.args.settings.now).targets (values_in c.args.settings.now).categories = λ i. targets_fit (c.targets_if_any-targets.ensures.value i) (c.categories-categories.ensures.value i) in
    let unfit = ap (targets_fit c.targets_if_any-targets.result) (sym c.as_slice-2.ensures.codes) ∙ sym c.targets_fit.ensures ∙ c.if-not-targets_fit.true in
    bad_targets (values_in c.args.settings.now) (sym same ∙ isnt) (sym both ∙ unfit)

pub whole-requires-clause-apart : goal.whole-requires-clause-apart
unfolding values_in
whole-requires-clause-apart c =
    let same : is_code c.code-missing.result c.categories-categories.result ≡ is_code (values_in c.args.settings.now).missing (values_in c.args.settings.now).categories = λ i. is_code (c.code-missing.ensures.value i) (c.categories-categories.ensures.value i) in
    sym same ∙ ap (is_code c.code-missing.result) (sym c.as_slice.ensures.codes) ∙ ap (λ z. is_code z c.as_slice.result.now) (sym (to_z-of_z w32 c.code-missing.result (record { sfits = c.code-missing.type_inv }))) ∙ sym c.is_category.ensures ∙ c.if-is_category.false

pub whole-requires-clause-fit : goal.whole-requires-clause-fit
unfolding values_in
whole-requires-clause-fit c =
    let both : targets_fit c.targets_if_any-targets.result c.categories-categories.result ≡ targets_fit (values_in c.args.settings.now).targets (values_in c.args.settings.now).categories = λ i. targets_fit (c.targets_if_any-targets.ensures.value i) (c.categories-categories.ensures.value i) in
    sym both ∙ ap (targets_fit c.targets_if_any-targets.result) (sym c.as_slice-2.ensures.codes) ∙ sym c.targets_fit.ensures ∙ c.if-not-targets_fit.false
