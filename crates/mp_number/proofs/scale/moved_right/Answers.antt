use Rattle.std.proofs.Common.{◌+◌, min, sym, ◌∙◌, ap}
use Rattle.std.specs.List.{list_all}
use Rattle.std.specs.Str.Parse.{digits_value_after}
use Rattle.mp_number.specs.Number.{is_zero_digit}
use Rattle.mp_number.proofs.Sizes.{right_whole, right_exact}
use Rattle.mp_number.proofs.scale.moved_right.Goals as goal

pub returns-clause-whole : goal.returns-clause-whole
returns-clause-whole c =
    let cap = c.args.limit + 1 in
    let second = c.with_digits-digits.ensures.value ∙ ap (λ ds. min cap (digits_value_after 10 c.with_digits.result ds)) c.split_at.ensures.front in
    right_whole c.args.whole.now c.args.fraction.now c.requires.whole c.requires.fraction c.args.places cap c.min-taken.result c.with_digits.result c.with_digits-digits.result c.with_zeros.result c.min-taken.ensures c.with_digits.ensures.value second c.with_zeros.ensures

pub returns-clause-exact : goal.returns-clause-exact
returns-clause-exact c =
    let r = right_exact c.args.whole.now c.args.fraction.now c.requires.whole c.requires.fraction c.args.places c.min-taken.result c.min-taken.ensures in
    let read = c.are_zeros.ensures ∙ ap (list_all is_zero_digit) c.split_at.ensures.back in
    (λ exact. r.0 (sym read ∙ exact), λ none. read ∙ r.1 none)
