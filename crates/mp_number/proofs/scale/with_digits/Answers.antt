use Rattle.std.proofs.Common.{arith}
use Rattle.mp_number.proofs.Digits.{digit_in, after_more}
use Rattle.mp_number.proofs.scale.with_digits.Goals as goal

pub loop-digit-preserved : goal.loop-digit-preserved
loop-digit-preserved c =
    let ds = c.args.digits.now in
    let i = c.loop-digit.digit-index in
    omega (arith, (digit_in ds i c.requires.digits (omega arith)).worth, after_more c.args.number ds i (omega arith))
