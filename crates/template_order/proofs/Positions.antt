-- The position of a vector.
use Rattle.std.proofs.Common.{◌≡◌, ◌≢◌, ◌⊎◌, ℕ, zero, suc, ◌+◌, ◌<◌, ◌≤◌, length, get_or, Some, inl, inr, sym, subst, ◌∙◌, arith}
use Rattle.std.specs.List.{All, AllPairs, HoldsAt, slice_get}
use Rattle.std.proofs.lemmas.Bool.{cases_lt}
use Rattle.std.proofs.lemmas.Option.{get_or_from_slice_get, slice_get_read, slice_get_within}
use Rattle.mp_base.specs.declared.cell.Vector.{Vector}
use Rattle.template_order.specs.Template.{TemplateOf, vector_at}

-- no position has a vector that isn't there
pub nowhere : (t : TemplateOf) (v : Vector) (p : ℕ) → All (λ w. w ≢ v) t.vectors → vector_at t p ≢ Some v
nowhere t v zero missing e = cc
nowhere t v (suc i) missing e = missing i v (slice_get_within t.vectors i v e) (get_or_from_slice_get t.vectors i v v e)

pub here : (t : TemplateOf) (v : Vector) (i p : ℕ) → i < length t.vectors → HoldsAt (λ w. w ≡ v) t.vectors i → i + 1 ≡ p → vector_at t p ≡ Some v
here t v i zero within found e = absurd (omega arith)
here t v i (suc j) within found e =
    let same : i ≡ j = omega arith in
    subst (λ k. slice_get t.vectors k ≡ Some v) same (slice_get_read t.vectors (length t.vectors) i v (omega arith) within (sym (found v)))

-- vectors that differ have positions that differ
pub only_here : (t : TemplateOf) (v : Vector) (i p : ℕ) → AllPairs (λ a b. a ≢ b) t.vectors → i < length t.vectors → HoldsAt (λ w. w ≡ v) t.vectors i → vector_at t p ≡ Some v → i + 1 ≡ p
only_here t v i zero apart within found e = cc
only_here t v i (suc j) apart within found e = go (cases_lt i j) (cases_lt j i)
  where
    there : get_or t.vectors j v ≡ v
    there = get_or_from_slice_get t.vectors j v v e

    go : ((i < j) ⊎ (j ≤ i)) → ((j < i) ⊎ (i ≤ j)) → i + 1 ≡ suc j
    go (inl before) other = absurd (apart i j v before (slice_get_within t.vectors j v e) (found v ∙ sym there))
    go (inr after) (inl before) = absurd (apart j i v before within (there ∙ sym (found v)))
    go (inr after) (inr before) = omega arith
