use Rattle.std.proofs.Common.{ℤ, List, ap, ◌∙◌}
use Rattle.std.specs.List.{position}
use Rattle.std.specs.Ordering.{int_eq}
use Rattle.mps_scan.proofs.Fitting.{datum_absent, datum_present}
use Rattle.mps_scan.proofs.fit.datum_for.Goals as goal

pub returns-in_default : goal.returns-in_default
returns-in_default c =
    datum_absent c.args.template_len c.args.categories.now c.args.coded.now (c.in_default.ensures ∙ ap (λ (codes : List ℤ). position (λ x. int_eq x c.args.coded.now.code) codes) c.as_slice.ensures.codes)

pub returns : goal.returns
returns c =
    datum_present c.args.template_len c.args.categories.now c.args.coded.now c.in-Some.index c.if-coded-template_len.false (c.in-Some.ensures ∙ ap (λ (codes : List ℤ). position (λ x. int_eq x c.args.coded.now.code) codes) c.as_slice.ensures.codes)
