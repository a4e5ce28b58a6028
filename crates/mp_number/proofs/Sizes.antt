-- The size of a number whose point has moved.
use Rattle.std.proofs.Common.{◌≡◌, ◌↔◌, ◌⊎◌, ℕ, ◌+◌, ◌-◌, ◌*◌, ◌/◌, ◌%◌, ◌^◌, ◌<◌, ◌≤◌, min, true, ◌&&◌, List, ◌++◌, length, take, drop, ap, sym, ◌∙◌, arith, inl, inr}
use Rattle.std.specs.List.{list_all}
use Rattle.std.specs.Str.Parse.{digits_value, digits_value_after}
use Rattle.std.proofs.Math.Nat.{one-le-pow, le-mul_of_pos_right, mul-le-mul_right, pow-le-pow_right}
use Rattle.std.proofs.lemmas.Bool.{cases_lt}
use Rattle.std.proofs.lemmas.List.{append_assoc, length-append, length-drop, take-append-drop}
use Rattle.std.proofs.lemmas.List.Folds.{list_all-append}
use Rattle.std.proofs.lemmas.Nat.{pow-add, div-mul-add, mod-mul-add, div-add-mod', mod_below}
use Rattle.mp_number.specs.Number.{all_digits, is_zero_digit}
use Rattle.mp_number.proofs.Digits.{after-append, value-append, value-below, zeros-value, value-zeros, all_digits-append, all_digits-drop, min-after, min-mul}

pub pow-some : (k : ℕ) → 0 < 10 ^ k
pow-some k = one-le-pow k 10 (omega arith)

-- a number by its quotient and what is left
pub record IsDivided (n m q r : ℕ) : Type 0 where
  pub quotient : n / m ≡ q
  pub left : n % m ≡ r

divided : (n m q r : ℕ) → n ≡ q * m + r → r < m → IsDivided n m q r
divided n m q r is below = record {
  quotient = ap (λ k. k / m) is ∙ div-mul-add q m r below;
  left = ap (λ k. k % m) is ∙ mod-mul-add q m r below;
}

-- a factor in both is none in the quotient
pub cancelled : (a b k : ℕ) → 0 < b → 0 < k → IsDivided (a * k) (b * k) (a / b) (a % b * k)
cancelled a b k some factor =
    let whole : a ≡ a / b * b + a % b = sym (div-add-mod' a b) in
    let is : a * k ≡ a / b * (b * k) + a % b * k = ap (λ n. n * k) whole ∙ omega arith in
    let left : a % b + 1 ≤ b = omega (arith, mod_below a b some) in
    let below : (a % b + 1) * k ≤ b * k = mul-le-mul_right k left in
    divided (a * k) (b * k) (a / b) (a % b * k) is (omega arith)

-- a product is 0 where its first factor is
pub times_zero : (r k : ℕ) → 0 < k → (r ≡ 0) ↔ (r * k ≡ 0)
times_zero r k some = (
  λ none. ap (λ n. n * k) none ∙ omega arith,
  λ none. let least : r ≤ r * k = le-mul_of_pos_right r some in omega arith,
)

-- digits v, then k digits worth r, after a move by p: z zeros follow, or f digits are left behind the point
moved : (d v r k p z f : ℕ) → d ≡ v * 10 ^ k + r → r < 10 ^ k → k + p ≡ z + f → (z ≡ 0) ⊎ (k ≡ 0) → IsDivided (d * 10 ^ p) (10 ^ f) (v * 10 ^ z) (r * 10 ^ p)
moved d v r k p z f is below places (inl none) =
    let size : 10 ^ f ≡ 10 ^ k * 10 ^ p = ap (λ n. 10 ^ n) (omega arith) ∙ pow-add 10 k p in
    let one : 10 ^ z ≡ 1 = ap (λ n. 10 ^ n) none in
    let left : v * 10 ^ z * 10 ^ f ≡ v * 1 * (10 ^ k * 10 ^ p) = ap (λ n. v * n * 10 ^ f) one ∙ ap (λ n. v * 1 * n) size in
    let whole : d * 10 ^ p ≡ v * 10 ^ z * 10 ^ f + r * 10 ^ p = ap (λ n. n * 10 ^ p) is ∙ omega (arith, left) in
    let more : (r + 1) * 10 ^ p ≤ 10 ^ k * 10 ^ p = mul-le-mul_right (10 ^ p) (omega arith) in
    divided (d * 10 ^ p) (10 ^ f) (v * 10 ^ z) (r * 10 ^ p) whole (omega (arith, size, pow-some p))
moved d v r k p z f is below places (inr none) =
    let size : 10 ^ p ≡ 10 ^ z * 10 ^ f = ap (λ n. 10 ^ n) (omega arith) ∙ pow-add 10 z f in
    let one : 10 ^ k ≡ 1 = ap (λ n. 10 ^ n) none in
    let rest : r ≡ 0 = omega arith in
    let gone : r * 10 ^ p ≡ 0 = ap (λ n. n * 10 ^ p) rest ∙ omega arith in
    let digits : d ≡ v = is ∙ ap (λ n. v * n + r) one ∙ omega arith in
    let whole : d * 10 ^ p ≡ v * 10 ^ z * 10 ^ f + r * 10 ^ p = ap (λ n. n * 10 ^ p) digits ∙ ap (λ n. v * n) size ∙ omega (arith, gone) in
    divided (d * 10 ^ p) (10 ^ f) (v * 10 ^ z) (r * 10 ^ p) whole (omega (arith, pow-some f))

rest_worth : (ds : List ℕ) → all_digits ds ≡ true → (list_all is_zero_digit ds ≡ true) ↔ (digits_value 10 ds ≡ 0)
rest_worth ds digits = (zeros-value ds, value-zeros ds digits)

module _ (whole fraction : List ℕ) (of_whole : all_digits whole ≡ true) (of_fraction : all_digits fraction ≡ true) (p : ℕ) where
  right_is : (t : ℕ) → t ≡ min p (length fraction) → IsDivided (digits_value 10 (whole ++ fraction) * 10 ^ p) (10 ^ length fraction) (digits_value 10 (whole ++ take t fraction) * 10 ^ (p - t)) (digits_value 10 (drop t fraction) * 10 ^ p)
  right_is t taken =
      let front : List ℕ = take t fraction in
      let rest : List ℕ = drop t fraction in
      let long : length rest ≡ length fraction - t = length-drop t fraction in
      let joined : (whole ++ front) ++ rest ≡ whole ++ fraction = append_assoc whole front rest ∙ ap (λ ds. whole ++ ds) (take-append-drop t fraction) in
      let sum : digits_value 10 (whole ++ fraction) ≡ digits_value 10 (whole ++ front) * 10 ^ length rest + digits_value 10 rest = sym (ap (digits_value 10) joined) ∙ value-append (whole ++ front) rest in
      let which : (p - t ≡ 0) ⊎ (length rest ≡ 0) = elim (cases_lt p (length fraction)) [ inl below ↦ inl (omega arith) | inr above ↦ inr (omega arith) ] in
      moved (digits_value 10 (whole ++ fraction)) (digits_value 10 (whole ++ front)) (digits_value 10 rest) (length rest) p (p - t) (length fraction) sum (value-below rest (all_digits-drop t fraction of_fraction)) (omega arith) which

  pub right_whole : (cap t first second third : ℕ) → t ≡ min p (length fraction) → first ≡ min cap (digits_value_after 10 0 whole) → second ≡ min cap (digits_value_after 10 first (take t fraction)) → third ≡ min cap (second * 10 ^ (p - t)) → third ≡ min cap (digits_value 10 (whole ++ fraction) * 10 ^ p / 10 ^ length fraction)
  right_whole cap t first second third taken is_first is_second is_third =
      let k : ℕ = 10 ^ (p - t) in
      let digits : second ≡ min cap (digits_value 10 (whole ++ take t fraction)) =
      is_second ∙ ap (λ n. min cap (digits_value_after 10 n (take t fraction))) is_first ∙ min-after cap (digits_value 10 whole) (take t fraction)
      ∙ ap (min cap) (sym (after-append 0 whole (take t fraction))) in
      is_third ∙ ap (λ n. min cap (n * k)) digits ∙ min-mul cap (digits_value 10 (whole ++ take t fraction)) k (pow-some (p - t)) ∙ ap (min cap) (sym (right_is t taken).quotient)

  pub right_exact : (t : ℕ) → t ≡ min p (length fraction) → (list_all is_zero_digit (drop t fraction) ≡ true) ↔ (digits_value 10 (whole ++ fraction) * 10 ^ p % 10 ^ length fraction ≡ 0)
  right_exact t taken =
      let rest : List ℕ = drop t fraction in
      let left = (right_is t taken).left in
      let worth = rest_worth rest (all_digits-drop t fraction of_fraction) in
      let times = times_zero (digits_value 10 rest) (10 ^ p) (pow-some p) in
      (λ zeros. left ∙ times.0 (worth.0 zeros), λ none. worth.1 (times.1 (sym left ∙ none)))

  left_is : (n : ℕ) → n ≡ length whole - p → IsDivided (digits_value 10 (whole ++ fraction)) (10 ^ (length fraction + p)) (digits_value 10 (take n whole)) (digits_value 10 (drop n whole ++ fraction))
  left_is n kept =
      let front : List ℕ = take n whole in
      let rest : List ℕ = drop n whole ++ fraction in
      let long : length rest ≡ length whole - n + length fraction = length-append (drop n whole) fraction ∙ ap (λ k. k + length fraction) (length-drop n whole) in
      let joined : front ++ rest ≡ whole ++ fraction = sym (append_assoc front (drop n whole) fraction) ∙ ap (λ ds. ds ++ fraction) (take-append-drop n whole) in
      let sum : digits_value 10 (whole ++ fraction) ≡ digits_value 10 front * 10 ^ length rest + digits_value 10 rest = sym (ap (digits_value 10) joined) ∙ value-append front rest in
      let small : digits_value 10 rest < 10 ^ length rest = value-below rest (all_digits-append (drop n whole) fraction (all_digits-drop n whole of_whole) of_fraction) in
      elim (cases_lt (length whole) p) [
        | inl short ↦
            let none : n ≡ 0 = omega arith in
            let nothing : digits_value 10 front ≡ 0 = ap (λ k. digits_value 10 (take k whole)) none in
            let gone : digits_value 10 front * 10 ^ length rest ≡ 0 = ap (λ k. k * 10 ^ length rest) nothing ∙ omega arith in
            let gone_too : digits_value 10 front * 10 ^ (length fraction + p) ≡ 0 = ap (λ k. k * 10 ^ (length fraction + p)) nothing ∙ omega arith in
            let fewer : length rest ≤ length fraction + p = omega arith in
            let wide : 10 ^ length rest ≤ 10 ^ (length fraction + p) = pow-le-pow_right (omega arith) fewer in
            divided (digits_value 10 (whole ++ fraction)) (10 ^ (length fraction + p)) (digits_value 10 front) (digits_value 10 rest) (omega (arith, sum, gone, gone_too)) (omega arith)
        | inr enough ↦
            let same : length rest ≡ length fraction + p = omega arith in
            divided (digits_value 10 (whole ++ fraction)) (10 ^ (length fraction + p)) (digits_value 10 front) (digits_value 10 rest)
            (sum ∙ ap (λ k. digits_value 10 front * 10 ^ k + digits_value 10 rest) same) (omega (arith, small, ap (λ k. 10 ^ k) same))
      ]

  pub left_whole : (cap n first : ℕ) → n ≡ length whole - p → first ≡ min cap (digits_value_after 10 0 (take n whole)) → first ≡ min cap (digits_value 10 (whole ++ fraction) / 10 ^ (length fraction + p))
  left_whole cap n first kept is = is ∙ ap (min cap) (sym (left_is n kept).quotient)

  pub left_exact : (n : ℕ) → n ≡ length whole - p → ((list_all is_zero_digit (drop n whole) && list_all is_zero_digit fraction) ≡ true) ↔ (digits_value 10 (whole ++ fraction) % 10 ^ (length fraction + p) ≡ 0)
  left_exact n kept =
      let rest : List ℕ = drop n whole ++ fraction in
      let left = (left_is n kept).left in
      let worth = rest_worth rest (all_digits-append (drop n whole) fraction (all_digits-drop n whole of_whole) of_fraction) in
      let both = list_all-append is_zero_digit (drop n whole) fraction in
      (λ zeros. left ∙ worth.0 (both ∙ zeros), λ none. sym both ∙ worth.1 (sym left ∙ none))

-- the exponent and the places moved in all, one against the other
pub over_right : (d r p l f s : ℕ) → s + l ≡ r + p → IsDivided (d * 10 ^ r * 10 ^ p) (10 ^ (f + l)) (d * 10 ^ s / 10 ^ f) (d * 10 ^ s % 10 ^ f * 10 ^ l)
over_right d r p l f s places =
    let moved_over : d * 10 ^ r * 10 ^ p ≡ d * 10 ^ s * 10 ^ l = omega (arith, ap (λ k. d * k) (sym (pow-add 10 r p) ∙ ap (λ k. 10 ^ k) (sym places) ∙ pow-add 10 s l)) in
    let c = cancelled (d * 10 ^ s) (10 ^ f) (10 ^ l) (pow-some f) (pow-some l) in
    record {
      quotient = ap (λ k. k / 10 ^ (f + l)) moved_over ∙ ap (λ k. d * 10 ^ s * 10 ^ l / k) (pow-add 10 f l) ∙ c.quotient;
      left = ap (λ k. k % 10 ^ (f + l)) moved_over ∙ ap (λ k. d * 10 ^ s * 10 ^ l % k) (pow-add 10 f l) ∙ c.left;
    }

pub over_left : (d r p l f s : ℕ) → s + (r + p) ≡ l → IsDivided (d * 10 ^ r * 10 ^ p) (10 ^ (f + l)) (d / 10 ^ (f + s)) (d % 10 ^ (f + s) * 10 ^ (r + p))
over_left d r p l f s places =
    let moved_over : d * 10 ^ r * 10 ^ p ≡ d * 10 ^ (r + p) = omega (arith, ap (λ k. d * k) (pow-add 10 r p)) in
    let under_is : 10 ^ (f + l) ≡ 10 ^ (f + s) * 10 ^ (r + p) = ap (λ k. 10 ^ k) (omega arith) ∙ pow-add 10 (f + s) (r + p) in
    let c = cancelled d (10 ^ (f + s)) (10 ^ (r + p)) (pow-some (f + s)) (pow-some (r + p)) in
    record {
      quotient = ap (λ k. k / 10 ^ (f + l)) moved_over ∙ ap (λ k. d * 10 ^ (r + p) / k) under_is ∙ c.quotient;
      left = ap (λ k. k % 10 ^ (f + l)) moved_over ∙ ap (λ k. d * 10 ^ (r + p) % k) under_is ∙ c.left;
    }
