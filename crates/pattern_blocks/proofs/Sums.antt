-- Sums over numbers one after another.
use Rattle.std.proofs.Common.{◌≡◌, ℕ, zero, suc, ◌+◌, ◌*◌, ◌<◌, ◌≤◌, List, [], ◌∷◌, refl, ap, sym, ◌∙◌, arith}
use Rattle.std.specs.List.{range_with_len, sum_by}
use Rattle.std.proofs.lemmas.List.Sums.{sum_by-cons}

-- sums of equal terms
pub sum-same : (f g : ℕ → ℕ) (a n : ℕ) → ((j : ℕ) → a ≤ j → j < a + n → f j ≡ g j) → sum_by f (range_with_len a n) ≡ sum_by g (range_with_len a n)
sum-same f g a zero same = refl
sum-same f g a (suc n) same =
    sum_by-cons f a (range_with_len (a + 1) n)
    ∙ ap (λ m. m + sum_by f (range_with_len (a + 1) n)) (same a (omega arith) (omega arith))
    ∙ ap (λ m. g a + m) (sum-same f g (a + 1) n (λ j low high. same j (omega arith) (omega arith)))
    ∙ sym (sum_by-cons g a (range_with_len (a + 1) n))

pub sum-zero : (ks : List ℕ) → sum_by (λ (k : ℕ). 0) ks ≡ 0
sum-zero [] = refl
sum-zero (k ∷ ks) = omega (arith, sum-zero ks, sum_by-cons (λ (k : ℕ). 0) k ks)

pub sum-zeros : (f : ℕ → ℕ) (a n : ℕ) → ((j : ℕ) → a ≤ j → j < a + n → f j ≡ 0) → sum_by f (range_with_len a n) ≡ 0
sum-zeros f a n none = sum-same f (λ (j : ℕ). 0) a n none ∙ sum-zero (range_with_len a n)

-- sums of sums
pub sum-twice : (f g h : ℕ → ℕ) → ((k : ℕ) → h k ≡ 2 * f k + g k) → (ks : List ℕ) → sum_by h ks ≡ 2 * sum_by f ks + sum_by g ks
sum-twice f g h each [] = refl
sum-twice f g h each (k ∷ ks) = omega (arith, sum-twice f g h each ks, sum_by-cons f k ks, sum_by-cons g k ks, sum_by-cons h k ks, each k)

pub sum-shift : (f : ℕ → ℕ) (a n : ℕ) → sum_by f (range_with_len (a + 1) n) ≡ sum_by (λ s. f (s + 1)) (range_with_len a n)
sum-shift f a zero = refl
sum-shift f a (suc n) =
    sum_by-cons f (a + 1) (range_with_len (a + 1 + 1) n) ∙ ap (λ m. f (a + 1) + m) (sum-shift f (a + 1) n)
    ∙ sym (sum_by-cons (λ s. f (s + 1)) a (range_with_len (a + 1) n))

-- a sum of three sums
pub sum-three : (f g j h : ℕ → ℕ) (a n : ℕ) → ((s : ℕ) → a ≤ s → s < a + n → h s ≡ f s + g s + j s) → sum_by h (range_with_len a n) ≡ sum_by f (range_with_len a n) + sum_by g (range_with_len a n) + sum_by j (range_with_len a n)
sum-three f g j h a zero each = refl
sum-three f g j h a (suc n) each =
    omega (
      arith,
      sum_by-cons f a (range_with_len (a + 1) n),
      sum_by-cons g a (range_with_len (a + 1) n),
      sum_by-cons j a (range_with_len (a + 1) n),
      sum_by-cons h a (range_with_len (a + 1) n),
      each a (omega arith) (omega arith),
      sum-three f g j h (a + 1) n (λ s low high. each s (omega arith) (omega arith)),
    )
