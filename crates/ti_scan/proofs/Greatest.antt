-- The greatest number up to n that passes.
use Rattle.std.proofs.Common.{◌≡◌, ◌⊎◌, ℕ, zero, suc, ◌<◌, ◌≤◌, Bool, true, false, cond, refl, inl, inr, arith, ap, sym, ◌∙◌}
use Rattle.std.proofs.lemmas.Bool.{false≢true, cases_eq, cases_lt}
use Rattle.ti_scan.specs.Prefix.{greatest}

le-step : (b : Bool) (n g : ℕ) → g ≤ n → cond b (suc n) g ≤ suc n
le-step true n g le = omega arith
le-step false n g le = omega arith

pub greatest-le : (ok : ℕ → Bool) (n : ℕ) → greatest ok n ≤ n
greatest-le ok zero = omega arith
greatest-le ok (suc n) = le-step (ok (suc n)) n (greatest ok n) (greatest-le ok n)

passes-step : (ok : ℕ → Bool) (b : Bool) (n g : ℕ) → ok (suc n) ≡ b → (ok g ≡ true) ⊎ (g ≡ 0) → (ok (cond b (suc n) g) ≡ true) ⊎ (cond b (suc n) g ≡ 0)
passes-step ok true n g e h = inl e
passes-step ok false n g e h = h

pub greatest-passes : (ok : ℕ → Bool) (n : ℕ) → (ok (greatest ok n) ≡ true) ⊎ (greatest ok n ≡ 0)
greatest-passes ok zero = inr refl
greatest-passes ok (suc n) = passes-step ok (ok (suc n)) n (greatest ok n) refl (greatest-passes ok n)

fails-step : (ok : ℕ → Bool) (b : Bool) (n g k : ℕ) → ok (suc n) ≡ b → (g < k → k ≤ n → ok k ≡ false) → cond b (suc n) g < k → k ≤ suc n → ok k ≡ false
fails-step ok true n g k e h above within = absurd (omega arith)
fails-step ok false n g k e h above within = elim (cases_eq k (suc n)) [
  | inl last ↦ ap ok last ∙ e
  | inr before ↦ h above (omega arith)
]

pub greatest-fails : (ok : ℕ → Bool) (n k : ℕ) → greatest ok n < k → k ≤ n → ok k ≡ false
greatest-fails ok zero k above within = absurd (omega arith)
greatest-fails ok (suc n) k above within = fails-step ok (ok (suc n)) n (greatest ok n) k refl (λ a w. greatest-fails ok n k a w) above within

-- it is the number that passes, or 0, above which none passes
pub greatest_is : (ok : ℕ → Bool) (n m : ℕ) → m ≤ n → (ok m ≡ true) ⊎ (m ≡ 0) → ((k : ℕ) → m < k → k ≤ n → ok k ≡ false) → greatest ok n ≡ m
greatest_is ok n m within passes fails = elim (cases_lt (greatest ok n) m) [
  | inl below ↦ elim passes [
    | inl ok_m ↦ absurd (false≢true (sym (greatest-fails ok n m below within) ∙ ok_m))
    | inr none ↦ absurd (omega arith)
  ]
  | inr not_below ↦ elim (cases_lt m (greatest ok n)) [
    | inl above ↦ elim (greatest-passes ok n) [
      | inl ok_m ↦ absurd (false≢true (sym (fails (greatest ok n) above (greatest-le ok n)) ∙ ok_m))
      | inr none ↦ absurd (omega arith)
    ]
    | inr not_above ↦ omega arith
  ]
]
