use Rattle.std.proofs.Common.{◌≤◌, length, take, arith}
use Rattle.std.proofs.lemmas.List.{length-take}
use Rattle.std.proofs.lemmas.Str.Parse.{digits_value_short}
use Rattle.mp_number.proofs.Digits.{own, all_digits-take, after_more, digit_in}
use Rattle.mp_number.proofs.digit_text.digits_value.Goals as goal

pub overflow_mul-value : goal.overflow_mul-value
overflow_mul-value c =
    let ds = c.args.digits.now in
    let i = c.loop-digit.digit-index in
    let short : length (take i ds) ≤ 37 = omega (arith, length-take i ds) in
    omega (arith, digits_value_short own (take i ds) 37 (all_digits-take i ds c.requires.digits) short)

pub overflow_add-value : goal.overflow_add-value
overflow_add-value c =
    let ds = c.args.digits.now in
    let i = c.loop-digit.digit-index in
    let short : length (take i ds) ≤ 37 = omega (arith, length-take i ds) in
    omega (arith, digits_value_short own (take i ds) 37 (all_digits-take i ds c.requires.digits) short)

pub loop-digit-preserved : goal.loop-digit-preserved
loop-digit-preserved c =
    let ds = c.args.digits.now in
    let i = c.loop-digit.digit-index in
    let digit = digit_in ds i c.requires.digits (omega arith) in
    omega (arith, after_more 0 ds i (omega arith), digit.worth, digit.low, c.loop-digit.invariant, c.from.ensures)
