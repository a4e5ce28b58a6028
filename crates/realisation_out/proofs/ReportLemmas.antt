-- The lines of a report, one after another.
use Rattle.std.proofs.Common.{◌≡◌, ℕ, ◌+◌, ◌-◌, ◌<◌, ◌≤◌, List, [], ◌∷◌, ◌++◌, length, take, get_or, flat_map, reverse, ap, sym, ◌∙◌, arith}
use Rattle.std.specs.List.{enumerate_from}
use Rattle.std.proofs.lemmas.List.{flat_map_more, get_or-reverse, length-reverse, take_all, take_more}
use Rattle.std.proofs.lemmas.List.FromFn.{get_or-enumerate_from, length-enumerate_from}
use Rattle.mp_base.specs.Grid.{Sides}
use Rattle.realisation_out.specs.Report.{level_line, level_lines, realisation_line, realisation_lines}

-- one line more, behind the lines of the first items
line_more : {X : Type 0} (line : X → List ℕ) (before : List ℕ) (items : List X) (k : ℕ) (item d : X) → k < length items → get_or items k d ≡ item → (before ++ flat_map line (take k items)) ++ line item ≡ before ++ flat_map line (take (k + 1) items)
line_more {X = X} line before items k item d within at =
    flat_map_more line before (take k items) item
    ∙ ap (λ (x : X). before ++ flat_map line (take k items ++ x ∷ [])) (sym at)
    ∙ ap (λ (xs : List X). before ++ flat_map line xs) (sym (take_more items k d within))

-- all lines
all_lines : {X : Type 0} (line : X → List ℕ) (before : List ℕ) (items : List X) (k : ℕ) → length items ≤ k → before ++ flat_map line (take k items) ≡ before ++ flat_map line items
all_lines {X = X} line before items k over = ap (λ (xs : List X). before ++ flat_map line xs) (take_all k items over)

module _ (positions : List ℕ) where
  -- the levels with their positions, from the coarsest to the finest
  abbrev levels : List (ℕ × ℕ)
  levels = reverse (enumerate_from 1 positions)

  length-levels : length levels ≡ length positions
  length-levels = length-reverse (enumerate_from 1 positions) ∙ length-enumerate_from 1 positions

  pub level_more : (sides : Sides) (before : List ℕ) (k level count : ℕ) → k < length positions → level ≡ length positions - 1 - k + 1 → count ≡ get_or positions (length positions - 1 - k) 0 → (before ++ flat_map (level_line sides) (take k levels)) ++ level_line sides (level, count) ≡ before ++ flat_map (level_line sides) (take (k + 1) levels)
  level_more sides before k level count within numbered counted =
      let place : length (enumerate_from 1 positions) - 1 - k ≡ length positions - 1 - k = ap (λ n. n - 1 - k) (length-enumerate_from 1 positions) in
      let number : 1 + (length positions - 1 - k) ≡ level = omega arith in
      let at : get_or levels k (0, 0) ≡ (level, count) =
      get_or-reverse (enumerate_from 1 positions) k (0, 0) (omega (arith, length-enumerate_from 1 positions))
      ∙ ap (λ i. get_or (enumerate_from 1 positions) i (0, 0)) place
      ∙ get_or-enumerate_from 1 positions (length positions - 1 - k) (0, 0) (omega arith)
      ∙ (λ i. (number i, sym counted i)) in
      line_more (level_line sides) before levels k (level, count) (0, 0) (omega (arith, length-levels)) at

  pub levels_all : (sides : Sides) (before : List ℕ) (k : ℕ) → length positions ≤ k → before ++ flat_map (level_line sides) (take k levels) ≡ before ++ level_lines sides positions
  unfolding level_lines
  levels_all sides before k over = all_lines (level_line sides) before levels k (omega (arith, length-levels))

module _ (realisations : List (List ℕ)) where
  pub realisation_more : (before : List ℕ) (k : ℕ) (counts : List ℕ) → k < length realisations → counts ≡ get_or realisations k counts → (before ++ flat_map realisation_line (take k (enumerate_from 0 realisations))) ++ realisation_line (k, counts) ≡ before ++ flat_map realisation_line (take (k + 1) (enumerate_from 0 realisations))
  realisation_more before k counts within counted =
      let number : 0 + k ≡ k = omega arith in
      let at : get_or (enumerate_from 0 realisations) k (0, counts) ≡ (k, counts) = get_or-enumerate_from 0 realisations k (0, counts) within ∙ (λ i. (number i, sym counted i)) in
      line_more realisation_line before (enumerate_from 0 realisations) k (k, counts) (0, counts) (omega (arith, length-enumerate_from 0 realisations)) at

  pub realisations_all : (before : List ℕ) (k : ℕ) → length realisations ≤ k → before ++ flat_map realisation_line (take k (enumerate_from 0 realisations)) ≡ before ++ realisation_lines realisations
  unfolding realisation_lines
  realisations_all before k over = all_lines realisation_line before (enumerate_from 0 realisations) k (omega (arith, length-enumerate_from 0 realisations))
