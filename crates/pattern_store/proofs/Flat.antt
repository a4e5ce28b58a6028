-- Sums over groups, blocks and items as sums over ranks, and these as counts of positions.
use Rattle.std.proofs.Common.{◌≡◌, ◌⊎◌, ℕ, zero, suc, ◌+◌, ◌*◌, ◌<◌, refl, ap, sym, ◌∙◌, inl, inr, arith}
use Rattle.std.specs.List.{range_with_len, sum_by}
use Rattle.std.proofs.lemmas.Bool.{cases_eq}
use Rattle.std.proofs.lemmas.List.Sums.{sum_by-append, sum_by-cons}
use Rattle.ti_scan.proofs.Blocks.{range-append}
use Rattle.pattern_store.proofs.Sums.{sum-more}

sum-from : (f : ℕ → ℕ) (a b n : ℕ) → sum_by (λ s. f (a + s)) (range_with_len b n) ≡ sum_by f (range_with_len (a + b) n)
sum-from f a b zero = refl
sum-from f a b (suc n) =
    let next : a + (b + 1) ≡ a + b + 1 = omega arith in
    sum_by-cons (λ s. f (a + s)) b (range_with_len (b + 1) n) ∙ ap (λ m. f (a + b) + m) (sum-from f a (b + 1) n ∙ ap (λ x. sum_by f (range_with_len x n)) next)
    ∙ sym (sum_by-cons f (a + b) (range_with_len (a + b + 1) n))

-- rows of w terms, one after another
pub sum-rows : (f : ℕ → ℕ) (w n : ℕ) → sum_by (λ g. sum_by (λ s. f (g * w + s)) (range_with_len 0 w)) (range_with_len 0 n) ≡ sum_by f (range_with_len 0 (n * w))
sum-rows f w zero =
    let none : 0 * w ≡ 0 = omega arith in
    sym (ap (λ m. sum_by f (range_with_len 0 m)) none)
sum-rows f w (suc n) =
    let more : suc n ≡ n + 1 = omega arith in
    let wide : suc n * w ≡ n * w + w = omega arith in
    let last : n * w + 0 ≡ 0 + n * w = omega arith in
    ap (λ m. sum_by (λ g. sum_by (λ s. f (g * w + s)) (range_with_len 0 w)) (range_with_len 0 m)) more
    ∙ sum-more (λ g. sum_by (λ s. f (g * w + s)) (range_with_len 0 w)) n
    ∙ ap (λ m. m + sum_by (λ s. f (n * w + s)) (range_with_len 0 w)) (sum-rows f w n)
    ∙ ap (λ m. sum_by f (range_with_len 0 (n * w)) + m) (sum-from f (n * w) 0 w ∙ ap (λ x. sum_by f (range_with_len x w)) last)
    ∙ sym (ap (λ m. sum_by f (range_with_len 0 m)) wide ∙ ap (sum_by f) (range-append 0 (n * w) w) ∙ sum_by-append f (range_with_len 0 (n * w)) (range_with_len (0 + n * w) w))

-- groups of blocks of items
pub sum-ranks : (f : ℕ → ℕ) (n : ℕ) → sum_by (λ g. sum_by (λ s. sum_by (λ u. f ((g * 64 + s) * 64 + u)) (range_with_len 0 64)) (range_with_len 0 64)) (range_with_len 0 n) ≡ sum_by f (range_with_len 0 (n * 64 * 64))
sum-ranks f n = sum-rows (λ b. sum_by (λ u. f (b * 64 + u)) (range_with_len 0 64)) 64 n ∙ sum-rows f 64 (n * 64)

-- a position with a rank, or none
pub with_place : (place : ℕ → ℕ) (n r : ℕ) → ((i : ℕ) × (i < n) × (place i ≡ r)) ⊎ ((i : ℕ) → i < n → place i ≡ r → ⊥)
with_place place zero r = inr (λ i below e. omega arith)
with_place place (suc n) r = step (cases_eq (place n) r) (with_place place n r)
  where
    step : (place n ≡ r) ⊎ (place n ≡ r → ⊥) → ((i : ℕ) × (i < n) × (place i ≡ r)) ⊎ ((i : ℕ) → i < n → place i ≡ r → ⊥) → ((i : ℕ) × (i < suc n) × (place i ≡ r)) ⊎ ((i : ℕ) → i < suc n → place i ≡ r → ⊥)
    step (inl here) rest = inl (n, omega arith, here)
    step (inr other) (inl found) = inl (found.0, omega (arith, found.1), found.2)
    step (inr other) (inr none) = inr (λ i below e. elim (cases_eq i n) [
      | inl same ↦ other (ap place (sym same) ∙ e)
      | inr differ ↦ none i (omega arith) e
    ])
