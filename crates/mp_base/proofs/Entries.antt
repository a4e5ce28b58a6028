-- Cells, entry after entry.
use Rattle.std.proofs.Common.{rules, ◌≡◌, ℕ, zero, suc, ◌+◌, ◌<◌, ◌≤◌, ◌^◌, List, [], ◌∷◌, ◌++◌, length, get_or, set, take, Option, Some, refl, ap, sym, ◌∙◌, subst, arith, inl, inr}
use Rattle.std.specs.List.{All, sum}
use Rattle.std.specs.Option.{IsSome}
use Rattle.std.proofs.lemmas.Bool.{cases_eq}
use Rattle.std.proofs.lemmas.List.{length-set}
use Rattle.std.proofs.lemmas.List.Elements.{All-set}
use Rattle.std.proofs.lemmas.List.Sums.{fold_more, fold_push}
use Rattle.mp_base.specs.declared.cell.Entry.{Entry}
use Rattle.mp_base.specs.Grid.{Field, IsBelow, IsGrid, cat_of}
use Rattle.mp_base.specs.Cells.{category_counts, with_entries}
use Rattle.mp_base.proofs.Tallies.{sum-tally-le}

-- what a write changes
pub cat_of-set_same : (cells : List (Option ℕ)) (c : ℕ) (v : Option ℕ) → c < length cells → cat_of (set cells c v) c ≡ v
cat_of-set_same [] c v within = absurd (omega arith)
cat_of-set_same (x ∷ cells) zero v within = same v
  where
    same : (v : Option ℕ) → cat_of (v ∷ cells) zero ≡ v
    same v = refl
cat_of-set_same (x ∷ cells) (suc c) v within = cat_of-set_same cells c v (omega arith)

pub cat_of-set_other : (cells : List (Option ℕ)) (c j : ℕ) (v : Option ℕ) → (j ≡ c → ⊥) → cat_of (set cells c v) j ≡ cat_of cells j
cat_of-set_other [] c j v apart = refl
cat_of-set_other (x ∷ cells) zero zero v apart = absurd (apart refl)
cat_of-set_other (x ∷ cells) zero (suc j) v apart = refl
cat_of-set_other (x ∷ cells) (suc c) zero v apart = refl
cat_of-set_other (x ∷ cells) (suc c) (suc j) v apart = cat_of-set_other cells c j v (λ e. apart (ap suc e))

-- one entry more
pub with_entries_push : (cells : List (Option ℕ)) (log : List Entry) (e : Entry) → with_entries cells (log ++ e ∷ []) ≡ set (with_entries cells log) e.cell (Some e.cat)
with_entries_push cells log e = fold_push (λ (now : List (Option ℕ)) (x : Entry). set now x.cell (Some x.cat)) cells log e

pub with_entries_more : (cells : List (Option ℕ)) (log : List Entry) (m : ℕ) (d : Entry) → m < length log → with_entries cells (take (m + 1) log) ≡ set (with_entries cells (take m log)) (get_or log m d).cell (Some (get_or log m d).cat)
with_entries_more cells log m d in_log = fold_more (λ (now : List (Option ℕ)) (x : Entry). set now x.cell (Some x.cat)) cells log m d in_log

pub length-with_entries : (cells : List (Option ℕ)) (log : List Entry) → length (with_entries cells log) ≡ length cells
length-with_entries cells [] = refl
length-with_entries cells (e ∷ log) = length-with_entries (set cells e.cell (Some e.cat)) log ∙ length-set cells e.cell (Some e.cat)

some_is : (k : ℕ) → IsSome (Some k)
some_is k = search rules

-- a cell that is known stays known
pub stays_known : (cells : List (Option ℕ)) (c : ℕ) (log : List Entry) → c < length cells → IsSome (cat_of cells c) → IsSome (cat_of (with_entries cells log) c)
stays_known cells c [] within some = some
stays_known cells c (e ∷ log) within some =
    stays_known (set cells e.cell (Some e.cat)) c log (omega (arith, length-set cells e.cell (Some e.cat))) (elim (cases_eq c e.cell) [
      | inl same ↦
          let at : cat_of (set cells e.cell (Some e.cat)) c ≡ Some e.cat = ap (λ x. cat_of (set cells x (Some e.cat)) c) (sym same) ∙ cat_of-set_same cells c (Some e.cat) within in
          subst IsSome (sym at) (some_is e.cat)
      | inr other ↦ subst IsSome (sym (cat_of-set_other cells e.cell c (Some e.cat) other)) some
    ])

-- the cell of each entry is known afterwards
pub known_after : (cells : List (Option ℕ)) (log : List Entry) (i : ℕ) (e : Entry) → i < length log → (get_or log i e).cell < length cells → IsSome (cat_of (with_entries cells log) (get_or log i e).cell)
known_after cells [] i e in_log within = absurd (omega arith)
known_after cells (x ∷ log) zero e in_log within =
    stays_known (set cells x.cell (Some x.cat)) x.cell log (omega (arith, length-set cells x.cell (Some x.cat))) (subst IsSome (sym (cat_of-set_same cells x.cell (Some x.cat) within)) (some_is x.cat))
known_after cells (x ∷ log) (suc i) e in_log within =
    known_after (set cells x.cell (Some x.cat)) log i e (omega arith) (omega (arith, length-set cells x.cell (Some x.cat)))

-- categories below n stay so
pub below_after : (n : ℕ) (cells : List (Option ℕ)) (log : List Entry) → All (IsBelow n) cells → All (λ e. e.cat < n) log → All (IsBelow n) (with_entries cells log)
below_after n cells [] below cats = below
below_after n cells (e ∷ log) below cats =
    below_after n (set cells e.cell (Some e.cat)) log (All-set (IsBelow n) cells e.cell (Some e.cat) (cats 0 e (omega arith)) below) (λ k d in_log. cats (suc k) d (omega arith))

-- no more cells have a category than a grid may have
pub sum-category_counts-few : (cats : ℕ) (g : Field) → IsGrid g → sum (category_counts cats g.cells) ≤ 2 ^ 20
sum-category_counts-few cats g grid = omega (arith, sum-tally-le (λ v. v) cats g.cells, grid.count, grid.shape.fits)
