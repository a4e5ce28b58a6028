-- What a size under a limit says of a spelling's value.
use Rattle.std.proofs.Common.{◌≡◌, ◌↔◌, ◌⊎◌, ℕ, zero, suc, ◌+◌, ◌*◌, ◌/◌, ◌%◌, ◌^◌, ◌<◌, ◌≤◌, min, Bool, true, false, cond, IsTrue, Some, Ok, Err, ap, ◌∙◌, arith, inl, inr}
use Rattle.std.specs.Prelude.{◌==◌}
use Rattle.std.specs.Int.Signed.{mag}
use Rattle.std.proofs.Math.Nat.{mul-le-mul_right}
use Rattle.std.proofs.lemmas.Bool.{cases_lt, cases_Bool, lt-ltb, le-ltb, eq-eqb, ne_eqb}
use Rattle.std.proofs.lemmas.Nat.{div-add-mod', mod_below}
use Rattle.mp_number.specs.declared.number.NumberFault.TheVariants.{OutOfRange, NotWhole}
use Rattle.mp_number.specs.Number.{Spelling, numerator, denominator, signed, whole_value, micro_value}

module _ (limit n d w : ℕ) (exact : Bool) (some : 0 < d) (is : w ≡ min (limit + 1) (n / d)) (tells : IsTrue exact ↔ (n % d ≡ 0)) where
  pub beyond : (limit < w) ⊎ ((w ≡ limit) × (exact ≡ false)) → limit * d < n
  beyond (inl above) =
      let more : (limit + 1) * d ≤ n / d * d = mul-le-mul_right d (omega arith) in
      omega (arith, div-add-mod' n d)
  beyond (inr at) =
      let same : n / d * d ≡ limit * d = ap (λ q. q * d) (omega (arith, at.0)) in
      let left : n % d ≡ 0 → ⊥ = λ none. cc (tells.1 none, at.1) in
      omega (arith, div-add-mod' n d)

  pub within : ((limit < w) ⊎ ((w ≡ limit) × (exact ≡ false)) → ⊥) → (n ≤ limit * d) × (n / d ≡ w)
  within inside =
      let most : w ≤ limit = elim (cases_lt limit w) [ inl above ↦ absurd (inside (inl above)) | inr below ↦ below ] in
      let whole : n / d ≡ w = omega arith in (
        elim (cases_lt w limit) [
          | inl below ↦
              let more : (n / d + 1) * d ≤ limit * d = mul-le-mul_right d (omega arith) in
              omega (arith, div-add-mod' n d, mod_below n d some)
          | inr at ↦
              let same : n / d * d ≡ limit * d = ap (λ q. q * d) (omega arith) in
              elim (cases_Bool exact) [
                | inl whole_so ↦ omega (arith, div-add-mod' n d, tells.0 whole_so)
                | inr part ↦ absurd (inside (inr (omega arith, part)))
              ]
        ],
        whole,
      )

pub micro_above : (s : Spelling) → 10 ^ 12 * denominator s < numerator s → micro_value (Some s) ≡ Err OutOfRange
micro_above s above = ap (λ b. cond b (Err OutOfRange) (Ok (signed s.negative (numerator s * 10 ^ 6 / denominator s)))) (lt-ltb (10 ^ 12 * denominator s) (numerator s) above)

pub micro_within : (s : Spelling) (q : ℕ) → numerator s ≤ 10 ^ 12 * denominator s → numerator s * 10 ^ 6 / denominator s ≡ q → micro_value (Some s) ≡ Ok (signed s.negative q)
micro_within s q inside is =
    ap (λ b. cond b (Err OutOfRange) (Ok (signed s.negative (numerator s * 10 ^ 6 / denominator s)))) (le-ltb (10 ^ 12 * denominator s) (numerator s) inside)
    ∙ ap (λ n. Ok (signed s.negative n)) is

pub whole_above : (s : Spelling) → 999999999 * denominator s < numerator s → whole_value (Some s) ≡ Err OutOfRange
whole_above s above =
    ap (λ b. cond b (Err OutOfRange) (cond (numerator s % denominator s == 0) (Ok (signed s.negative (numerator s / denominator s))) (Err NotWhole))) (lt-ltb (999999999 * denominator s) (numerator s) above)

pub whole_broken : (s : Spelling) → numerator s ≤ 999999999 * denominator s → (numerator s % denominator s ≡ 0 → ⊥) → whole_value (Some s) ≡ Err NotWhole
whole_broken s inside broken =
    ap (λ b. cond b (Err OutOfRange) (cond (numerator s % denominator s == 0) (Ok (signed s.negative (numerator s / denominator s))) (Err NotWhole))) (le-ltb (999999999 * denominator s) (numerator s) inside)
    ∙ ap (λ b. cond b (Ok (signed s.negative (numerator s / denominator s))) (Err NotWhole)) (ne_eqb (numerator s % denominator s) 0 broken)

pub whole_within : (s : Spelling) (q : ℕ) → numerator s ≤ 999999999 * denominator s → numerator s % denominator s ≡ 0 → numerator s / denominator s ≡ q → whole_value (Some s) ≡ Ok (signed s.negative q)
whole_within s q inside whole is =
    ap (λ b. cond b (Err OutOfRange) (cond (numerator s % denominator s == 0) (Ok (signed s.negative (numerator s / denominator s))) (Err NotWhole))) (le-ltb (999999999 * denominator s) (numerator s) inside)
    ∙ ap (λ b. cond b (Ok (signed s.negative (numerator s / denominator s))) (Err NotWhole)) (eq-eqb (numerator s % denominator s) 0 whole)
    ∙ ap (λ n. Ok (signed s.negative n)) is

pub mag-signed : (negative : Bool) (n : ℕ) → mag (signed negative n) ≤ n
mag-signed false n = omega arith
mag-signed true zero = omega arith
mag-signed true (suc n) = omega arith
