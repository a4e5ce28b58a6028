-- Counting the known cells of a grid.
use Rattle.std.proofs.Common.{◌≡◌, ◌<◌, ◌+◌, ap, sym, ◌∙◌, ℕ, List, Option, None, true, false, length, take}
use Rattle.std.specs.Prelude.{count_by, is_some}
use Rattle.std.proofs.lemmas.List.Sums.{count_by_more_no, count_by_more_yes}
use Rattle.mp_base.specs.Grid.{cat_of}
use Rattle.mp_base.proofs.Tallies.{cat_of-get_or}

module _ (cells : List (Option ℕ)) (i known : ℕ) (within : i < length cells) (so_far : known ≡ count_by is_some (take i cells)) where
  pub known_more : is_some (cat_of cells i) ≡ true → known + 1 ≡ count_by is_some (take (i + 1) cells)
  known_more is = ap (λ n. n + 1) so_far ∙ sym (count_by_more_yes is_some cells i None within (ap is_some (sym (cat_of-get_or cells i)) ∙ is))

  pub known_same : is_some (cat_of cells i) ≡ false → known ≡ count_by is_some (take (i + 1) cells)
  known_same is = so_far ∙ sym (count_by_more_no is_some cells i None within (ap is_some (sym (cat_of-get_or cells i)) ∙ is))
