use Rattle.std.proofs.Common.{◌≡◌, true, false, sym, ap, ◌∙◌, cond, Some, None, w32}
use Rattle.std.proofs.lemmas.Int.{to_z-of_z}
use Rattle.std.specs.Ordering.{int_eq}
use Rattle.gslib_grid.proofs.Categories.{category_listed, category_unlisted}
use Rattle.gslib_grid.proofs.number.category.Goals as goal

pub returns-in-Some-clause-value : goal.returns-in-Some-clause-value
returns-in-Some-clause-value c =
    sym (category_listed c.args.codes.now c.args.code _ _ _ (to_z-of_z w32 c.args.code c.ranges.code) c.as_slice.ensures.codes c.in-Some.ensures.place)

pub returns-in-None-clause-value : goal.returns-in-None-clause-value
returns-in-None-clause-value c =
    let code = c.args.code in
    let missing : int_eq code c.args.codes.now.missing ≡ true = ap (λ z. int_eq z c.args.codes.now.missing) (sym (to_z-of_z w32 code c.ranges.code)) ∙ sym c.is_missing.ensures ∙ c.if-is_missing.true in
    sym (category_unlisted c.args.codes.now code _ _ (to_z-of_z w32 code c.ranges.code) c.as_slice.ensures.codes c.in-None.ensures.place ∙ ap (λ t. cond t (Some None) None) missing)

pub returns-in-None-2-clause-value : goal.returns-in-None-2-clause-value
returns-in-None-2-clause-value c =
    let code = c.args.code in
    let other : int_eq code c.args.codes.now.missing ≡ false = ap (λ z. int_eq z c.args.codes.now.missing) (sym (to_z-of_z w32 code c.ranges.code)) ∙ sym c.is_missing.ensures ∙ c.if-is_missing.false in
    sym (category_unlisted c.args.codes.now code _ _ (to_z-of_z w32 code c.ranges.code) c.as_slice.ensures.codes c.in-None.ensures.place ∙ ap (λ t. cond t (Some None) None) other)
