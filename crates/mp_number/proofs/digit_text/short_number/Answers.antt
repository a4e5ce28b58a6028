use Rattle.std.proofs.Common.{◌&&◌, ◌^◌, ◌<◌, length, sym, ◌∙◌}
use Rattle.std.specs.Prelude.{nat_le}
use Rattle.std.specs.Str.Parse.{digits_value}
use Rattle.std.proofs.lemmas.Bool.{and_parts, leb-true}
use Rattle.std.proofs.lemmas.Str.Parse.{digits_value_short}
use Rattle.mp_number.specs.Number.{all_digits}
use Rattle.mp_number.proofs.Digits.{own}
use Rattle.mp_number.proofs.digit_text.short_number.Goals as goal

pub returns-then-are_few_digits-clause-below : goal.returns-then-are_few_digits-clause-below
returns-then-are_few_digits-clause-below c =
    let ds = c.args.text.now in
    let most = c.args.most in
    let parts = and_parts (all_digits ds) (nat_le 1 (length ds) && nat_le (length ds) most) (sym c.are_few_digits.ensures ∙ c.if-are_few_digits.true) in
    let few = leb-true (length ds) most (and_parts (nat_le 1 (length ds)) (nat_le (length ds) most) parts.1).1 in
    let below : digits_value 10 ds < 10 ^ most = digits_value_short own ds most parts.0 few in
    rw c.digits_value.ensures below
