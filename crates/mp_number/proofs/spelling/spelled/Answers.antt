use Rattle.std.proofs.Common.{◌≡◌, true, false, cond, None, length, arith, ap, sym, ◌∙◌}
use Rattle.std.specs.Prelude.{nat_le}
use Rattle.std.specs.Str.Parse.{starts_with_minus, without_leading_sign}
use Rattle.std.proofs.lemmas.Bool.Decides.{nat_tests}
use Rattle.mp_number.specs.Number.{spelling_of, parts_of}
use Rattle.mp_number.proofs.spelling.spelled.Goals as goal

pub returns-then-text-gt-MAX_LENGTH : goal.returns-then-text-gt-MAX_LENGTH
unfolding spelling_of
returns-then-text-gt-MAX_LENGTH c =
    let text = c.args.text.now in
    let long : nat_le (length text) 64 ≡ false = grind (arith, nat_tests) in
    sym (ap (λ b. cond b (parts_of (starts_with_minus text) (without_leading_sign text)) None) long)

pub returns : goal.returns
unfolding spelling_of
returns c =
    let text = c.args.text.now in
    let short : nat_le (length text) 64 ≡ true = grind (arith, nat_tests) in
    c.parts.ensures ∙ (λ i. parts_of (c.has_minus.ensures i) (c.without_sign.ensures i))
    ∙ sym (ap (λ b. cond b (parts_of (starts_with_minus text) (without_leading_sign text)) None) short)
