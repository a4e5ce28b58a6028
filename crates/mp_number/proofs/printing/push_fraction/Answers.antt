use Rattle.std.proofs.Common.{◌+◌, ◌-◌, ◌<◌, ◌≤◌, ◌^◌, length, decimal, arith, ap}
use Rattle.std.proofs.lemmas.Fmt.{length-decimal-le, decimal_nonempty}
use Rattle.std.proofs.lemmas.List.{length-take}
use Rattle.std.specs.List.{suffix_len}
use Rattle.mp_number.specs.Number.{is_zero_digit}
use Rattle.mp_number.proofs.printing.push_fraction.Goals as goal

pub split_at-requires : goal.split_at-requires
split_at-requires c =
    let n = 1000000 + c.args.millionths in
    let small : n < 2 ^ 64 = omega arith in
    omega (arith, decimal_nonempty n small, ap length c.as_bytes.ensures.value, ap length c.format.ensures.text)

pub append-requires : goal.append-requires
append-requires c =
    let n = 1000000 + c.args.millionths in
    let small : n < 2 ^ 64 = omega arith in
    let few : length (decimal n) ≤ 7 = length-decimal-le 7 n (omega arith) (omega arith) small in
    let ds = c.split_at.result.1.now in
    omega (arith, few, ap length c.as_bytes.ensures.value, ap length c.format.ensures.text, c.split_at.ensures.back_len, ap length c.without_end_zeros.ensures, length-take (length ds - suffix_len is_zero_digit ds) ds)
