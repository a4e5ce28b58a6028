use Rattle.std.proofs.Common.{◌+◌, min, sym, ◌∙◌, ap}
use Rattle.std.specs.List.{list_all}
use Rattle.std.specs.Str.Parse.{digits_value_after}
use Rattle.std.proofs.lemmas.Bool.{and_parts, and_from}
use Rattle.mp_number.specs.Number.{is_zero_digit}
use Rattle.mp_number.proofs.Sizes.{left_whole, left_exact}
use Rattle.mp_number.proofs.scale.moved_left.Goals as goal

pub returns-then-are_zeros-clause-whole : goal.returns-then-are_zeros-clause-whole
returns-then-are_zeros-clause-whole c =
    let cap = c.args.limit + 1 in
    let first = c.with_digits.ensures.value ∙ ap (λ ds. min cap (digits_value_after 10 0 ds)) c.split_at.ensures.front in
    left_whole c.args.whole.now c.args.fraction.now c.requires.whole c.requires.fraction c.args.places cap c.saturating_sub.result c.with_digits.result c.saturating_sub.ensures first

pub returns-then-are_zeros-clause-exact : goal.returns-then-are_zeros-clause-exact
returns-then-are_zeros-clause-exact c =
    let r = left_exact c.args.whole.now c.args.fraction.now c.requires.whole c.requires.fraction c.args.places c.saturating_sub.result c.saturating_sub.ensures in
    let rest = sym (ap (list_all is_zero_digit) c.split_at.ensures.back) ∙ sym c.are_zeros.ensures ∙ c.if-are_zeros.true in (
      λ exact. r.0 (and_from _ _ rest (sym c.are_zeros-then-are_zeros.ensures ∙ exact)),
      λ none. c.are_zeros-then-are_zeros.ensures ∙ (and_parts _ _ (r.1 none)).1,
    )

pub returns-else-are_zeros-clause-whole : goal.returns-else-are_zeros-clause-whole
returns-else-are_zeros-clause-whole c =
    let cap = c.args.limit + 1 in
    let first = c.with_digits.ensures.value ∙ ap (λ ds. min cap (digits_value_after 10 0 ds)) c.split_at.ensures.front in
    left_whole c.args.whole.now c.args.fraction.now c.requires.whole c.requires.fraction c.args.places cap c.saturating_sub.result c.with_digits.result c.saturating_sub.ensures first

pub returns-else-are_zeros-clause-exact : goal.returns-else-are_zeros-clause-exact
returns-else-are_zeros-clause-exact c =
    let r = left_exact c.args.whole.now c.args.fraction.now c.requires.whole c.requires.fraction c.args.places c.saturating_sub.result c.saturating_sub.ensures in
    let read = c.are_zeros.ensures ∙ ap (list_all is_zero_digit) c.split_at.ensures.back in (
      λ exact. absurd (cc (c.if-are_zeros.false, exact)),
      λ none. read ∙ (and_parts _ _ (r.1 none)).0,
    )
