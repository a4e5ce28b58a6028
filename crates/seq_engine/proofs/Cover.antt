-- Values with the hard data, cell after cell.
use Rattle.std.proofs.Common.{◌≡◌, ℕ, ◌+◌, ◌<◌, ◌≤◌, cond, ltb, List, map, length, get_or, set, Option, Some, None, inl, inr, ap, sym, ◌∙◌, arith}
use Rattle.std.specs.List.{range_with_len}
use Rattle.std.specs.Option.{option_or}
use Rattle.std.proofs.lemmas.Bool.{cases_eq, cases_lt, cond-true, cond-false, lt-ltb, le-ltb}
use Rattle.std.proofs.lemmas.List.{get_or-set_same, get_or-set_other, length-set}
use Rattle.std.proofs.lemmas.List.FromFn.{fill_by_all}
use Rattle.mp_base.specs.Grid.{Field, cat_of}
use Rattle.mp_base.proofs.Tallies.{cat_of-get_or}
use Rattle.hard_data.specs.Start.{datum_or_value}

module _ (hard values : Field) where
  -- the hard data of the first n cells are in
  unfoldable pub CoveredTo : ℕ → List (Option ℕ) → Type 0
  CoveredTo n cells = (k : ℕ) → k < length cells → get_or cells k None ≡ cond (ltb k n) (datum_or_value hard values k) (cat_of values.cells k)

  pub covered_none : CoveredTo 0 values.cells
  unfolding CoveredTo
  covered_none k within = sym (cond-false (ltb k 0) (datum_or_value hard values k) (cat_of values.cells k) (le-ltb k 0 (omega arith)) ∙ cat_of-get_or values.cells k)

  -- a cell before or behind cell n is as covered with it as without
  same_side : (k n : ℕ) → (k ≡ n → ⊥) → cond (ltb k n) (datum_or_value hard values k) (cat_of values.cells k) ≡ cond (ltb k (n + 1)) (datum_or_value hard values k) (cat_of values.cells k)
  same_side k n other = elim (cases_lt k n) [
    | inl before ↦
        cond-true (ltb k n) (datum_or_value hard values k) (cat_of values.cells k) (lt-ltb k n before)
        ∙ sym (cond-true (ltb k (n + 1)) (datum_or_value hard values k) (cat_of values.cells k) (lt-ltb k (n + 1) (omega arith)))
    | inr behind ↦
        cond-false (ltb k n) (datum_or_value hard values k) (cat_of values.cells k) (le-ltb k n behind)
        ∙ sym (cond-false (ltb k (n + 1)) (datum_or_value hard values k) (cat_of values.cells k) (le-ltb k (n + 1) (omega arith)))
  ]

  at_last : (k n : ℕ) → k ≡ n → cond (ltb k (n + 1)) (datum_or_value hard values k) (cat_of values.cells k) ≡ datum_or_value hard values k
  at_last k n at = cond-true (ltb k (n + 1)) (datum_or_value hard values k) (cat_of values.cells k) (lt-ltb k (n + 1) (omega arith))

  pub covered_some : (n : ℕ) (cells : List (Option ℕ)) (x : Option ℕ) (c : ℕ) → CoveredTo n cells → x ≡ Some c → x ≡ cat_of hard.cells n → n < length cells → CoveredTo (n + 1) (set cells n x)
  unfolding CoveredTo
  covered_some n cells x c before some is within k below = elim (cases_eq k n) [
    | inl at ↦
        let datum : datum_or_value hard values n ≡ x = ap (λ v. option_or v (cat_of values.cells n)) (sym is ∙ some) ∙ sym some in
        ap (λ i. get_or (set cells n x) i None) at ∙ get_or-set_same cells n x None within ∙ sym (at_last k n at ∙ ap (datum_or_value hard values) at ∙ datum)
    | inr other ↦ get_or-set_other cells n k x None other ∙ before k (omega (arith, length-set cells n x)) ∙ same_side k n other
  ]

  pub covered_same : (n : ℕ) (cells : List (Option ℕ)) → CoveredTo n cells → cat_of hard.cells n ≡ None → CoveredTo (n + 1) cells
  unfolding CoveredTo
  covered_same n cells before none k below = elim (cases_eq k n) [
    | inl at ↦
        let value : datum_or_value hard values n ≡ cat_of values.cells n = ap (λ v. option_or v (cat_of values.cells n)) none in
        before k below ∙ cond-false (ltb k n) (datum_or_value hard values k) (cat_of values.cells k) (le-ltb k n (omega arith))
        ∙ sym (at_last k n at ∙ ap (datum_or_value hard values) at ∙ value ∙ ap (cat_of values.cells) (sym at))
    | inr other ↦ before k below ∙ same_side k n other
  ]

  pub covered_all : (n k : ℕ) (cells : List (Option ℕ)) → CoveredTo k cells → length cells ≡ n → n ≤ k → cells ≡ map (datum_or_value hard values) (range_with_len 0 n)
  unfolding CoveredTo
  covered_all n k cells covered count all =
      fill_by_all (datum_or_value hard values) cells n None count
      (λ i below. covered i (omega arith) ∙ cond-true (ltb i k) (datum_or_value hard values i) (cat_of values.cells i) (lt-ltb i k (omega arith)))
