-- What is left of a quotient that is rounded to the nearest whole number: at most half of the divisor.
use Rattle.std.proofs.Common.{◌≡◌, ℕ, suc, ◌+◌, ◌*◌, ◌/◌, ◌%◌, ◌<◌, ◌≤◌, ℤ, pos, negsuc, ◌+ℤ◌, ◌-ℤ◌, ◌*ℤ◌, ◌≤ℤ◌, neg_ℤ, unsigned_abs, refl, ap, ◌∙◌, arith, ◌^◌, FitsSigned, to_z, of_z}
use Rattle.std.specs.Int.{int_div_euclid, w64, w128}
use Rattle.std.proofs.Math.Nat.{mul_assoc, mul_comm, suc-mul}
use Rattle.std.proofs.lemmas.Int.{ints, fits_signed_from_abs, to_z-of_z}
use borrow.Author.Differences.{up, down}

halved_pos : (o : ℤ) (s a : ℕ) → 0 < s → pos 2 *ℤ o +ℤ pos s ≡ pos a → unsigned_abs (o -ℤ pos (a / (2 * s) * s)) * 2 ≤ s
halved_pos o s a some is =
    let twice : 2 * s * (a / (2 * s)) ≡ 2 * (a / (2 * s) * s) = mul_assoc 2 s (a / (2 * s)) ∙ ap (λ k. 2 * k) (mul_comm s (a / (2 * s))) in
    let whole : a ≡ 2 * s * (a / (2 * s)) + a % (2 * s) = omega arith in
    let rest : a % (2 * s) < 2 * s = omega arith in
    omega (arith, ints)

halved_neg : (o : ℤ) (s a : ℕ) → 0 < s → pos 2 *ℤ o +ℤ pos s ≡ negsuc a → unsigned_abs (o -ℤ neg_ℤ (pos (suc (a / (2 * s)) * s))) * 2 ≤ s
halved_neg o s a some is =
    let twice : 2 * s * (a / (2 * s)) ≡ 2 * (a / (2 * s) * s) = mul_assoc 2 s (a / (2 * s)) ∙ ap (λ k. 2 * k) (mul_comm s (a / (2 * s))) in
    let whole : a ≡ 2 * s * (a / (2 * s)) + a % (2 * s) = omega arith in
    let rest : a % (2 * s) < 2 * s = omega arith in
    let more : suc (a / (2 * s)) * s ≡ a / (2 * s) * s + s = suc-mul (a / (2 * s)) s in
    omega (arith, ints)

-- what is left is at most half of the size
pub halved : (o s : ℤ) → pos 1 ≤ℤ s → unsigned_abs (o -ℤ int_div_euclid (pos 2 *ℤ o +ℤ s) (pos 2 *ℤ s) *ℤ s) * 2 ≤ unsigned_abs s
halved o (negsuc s) some = absurd (omega (arith, ints))
halved o (pos s) some = by_sign (pos 2 *ℤ o +ℤ pos s) refl
  where
    by_sign : (z : ℤ) → pos 2 *ℤ o +ℤ pos s ≡ z → unsigned_abs (o -ℤ int_div_euclid z (pos (2 * s)) *ℤ pos s) * 2 ≤ s
    by_sign (pos a) is = halved_pos o s a (omega (arith, ints)) is
    by_sign (negsuc a) is = halved_neg o s a (omega (arith, ints)) is

-- The same, of numbers as the program has them.

-- a size by the two sides that the numbers are read by
pub abs_is : (z : ℤ) → unsigned_abs z ≡ up z + down z
abs_is (pos n) = omega arith
abs_is (negsuc n) = omega arith

-- a multiple that is near to a small number is small
near_fits : (o p s : ℤ) → unsigned_abs o < 2 ^ 65 → unsigned_abs s < 2 ^ 63 → unsigned_abs (o -ℤ p) * 2 ≤ unsigned_abs s → FitsSigned w128 p
near_fits o p s offset size half = fits_signed_from_abs w128 p (omega (arith, ints, abs_is o, abs_is p, abs_is s, abs_is (o -ℤ p)))

-- a whole number as its bits say it
abbrev pub bits : ℤ → ℤ
bits z = to_z w128 (of_z w128 z)

bits_is : (a o : ℤ) → FitsSigned w128 a → a ≡ o → bits a ≡ o
bits_is a o fits is = to_z-of_z w128 a fits ∙ is

-- what the program has is what is left
pub record IsLeft (o q s a n m : ℤ) : Type 0 where
  pub is : bits a -ℤ bits (bits n *ℤ bits m) ≡ o -ℤ q *ℤ s
  pub fits : FitsSigned w128 (o -ℤ q *ℤ s)
  pub few : unsigned_abs (o -ℤ q *ℤ s) ≤ 2 ^ 62

pub left_is : (o q s a n m : ℤ) → unsigned_abs a < 2 ^ 65 → FitsSigned w64 s → pos 1 ≤ℤ s → unsigned_abs (o -ℤ q *ℤ s) * 2 ≤ unsigned_abs s → FitsSigned w128 n → a ≡ o → n ≡ q → m ≡ to_z w64 (of_z w64 s) → IsLeft o q s a n m
left_is o q s a n m few size some half fits offset quotient divisor =
    let small : unsigned_abs o < 2 ^ 65 = omega (arith, ap unsigned_abs offset) in
    let sized : unsigned_abs s < 2 ^ 63 = omega (arith, ints, size, abs_is s) in
    let m_is : m ≡ s = divisor ∙ to_z-of_z w64 s size in
    let m_few : unsigned_abs m < 2 ^ 63 = omega (arith, ap unsigned_abs m_is) in
    let a_fits : FitsSigned w128 a = fits_signed_from_abs w128 a (omega arith) in
    let m_fits : FitsSigned w128 m = fits_signed_from_abs w128 m (omega arith) in
    let product : bits n *ℤ bits m ≡ q *ℤ s = λ i. bits_is n q fits quotient i *ℤ bits_is m s m_fits m_is i in
    let whole : bits (bits n *ℤ bits m) ≡ q *ℤ s = ap bits product ∙ to_z-of_z w128 (q *ℤ s) (near_fits o (q *ℤ s) s small sized half) in
    record {
      is = λ i. bits_is a o a_fits offset i -ℤ whole i;
      fits = fits_signed_from_abs w128 (o -ℤ q *ℤ s) (omega arith);
      few = omega arith;
    }
