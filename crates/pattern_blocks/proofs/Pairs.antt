-- A row and a place in it, as one number.
use Rattle.std.proofs.Common.{◌≡◌, ◌⊎◌, ℕ, ◌+◌, ◌*◌, ◌<◌, ◌≤◌, ◌==◌, true, false, ◌&&◌, ap, sym, ◌∙◌, inl, inr, arith}
use Rattle.std.proofs.lemmas.Bool.{cases_eq, cases_order}
use Rattle.std.proofs.lemmas.Bool.Decides.{nat_tests}
use Rattle.std.proofs.Math.Nat.{mul-le-mul_left}

-- an item of a row lies within the rows up to the next one
pub row-fits : (a b cats x : ℕ) → a < b → x < cats → a * cats + x < b * cats
row-fits a b cats x less small =
    let next : a + 1 ≤ b = omega arith in
    omega (arith, mul-le-mul_left cats next)

pub same_row : (a b cats x y : ℕ) → x < cats → y < cats → a * cats + x ≡ b * cats + y → a ≡ b
same_row a b cats x y x_small y_small same = elim (cases_order a b) [
  | inl e ↦ e
  | inr (inl less) ↦ let f = row-fits a b cats x less x_small in absurd (omega arith)
  | inr (inr more) ↦ let f = row-fits b a cats y more y_small in absurd (omega arith)
]

pub same_place : (a b cats x y : ℕ) → x < cats → y < cats → a * cats + x ≡ b * cats + y → x ≡ y
same_place a b cats x y x_small y_small same =
    let rows = same_row a b cats x y x_small y_small same in
    let products = ap (λ n. n * cats) rows in
    omega arith

-- two places are one where row and item are one
pub same_slot : (a b cats x y : ℕ) → x < cats → y < cats → (a * cats + x == b * cats + y) ≡ (a == b && x == y)
same_slot a b cats x y x_small y_small = go (cases_eq a b) (cases_eq x y)
  where
    differ : (n m : ℕ) → (n ≡ m → ⊥) → (n == m) ≡ false
    differ n m apart = grind (arith, nat_tests)

    equal : (n m : ℕ) → n ≡ m → (n == m) ≡ true
    equal n m same = grind (arith, nat_tests)

    go : (a ≡ b) ⊎ (a ≡ b → ⊥) → (x ≡ y) ⊎ (x ≡ y → ⊥) → (a * cats + x == b * cats + y) ≡ (a == b && x == y)
    go (inl rows) (inl items) =
        equal (a * cats + x) (b * cats + y) (ap (λ n. n * cats + x) rows ∙ ap (λ m. b * cats + m) items)
        ∙ sym (ap (λ t. t && (x == y)) (equal a b rows) ∙ equal x y items)
    go (inl rows) (inr other) =
        differ (a * cats + x) (b * cats + y) (λ e. other (same_place a b cats x y x_small y_small e))
        ∙ sym (ap (λ t. t && (x == y)) (equal a b rows) ∙ differ x y other)
    go (inr other) items =
        differ (a * cats + x) (b * cats + y) (λ e. other (same_row a b cats x y x_small y_small e))
        ∙ sym (ap (λ t. t && (x == y)) (differ a b other))
