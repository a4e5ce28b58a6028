-- What entries do to the cells of a grid, and how many cells have each category.
use Rattle.std.specs.Prelude.{ℕ, List, Option, Some, fold, slice_set}
use Rattle.mp_base.specs.declared.cell.Entry.{Entry}
use Rattle.mp_base.specs.Counts.{tally}

-- the cells after these entries are set, the first of them first
abbrev pub with_entries : List (Option ℕ) → List Entry → List (Option ℕ)
with_entries cells log = fold (λ now e. slice_set now e.cell (Some e.cat)) cells log

-- how many cells have each category below cats
abbrev pub category_counts : ℕ → List (Option ℕ) → List ℕ
category_counts cats cells = tally (λ v. v) cats cells
