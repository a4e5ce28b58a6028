-- Rows, one cell after another.
use Rattle.std.proofs.Common.{◌≡◌, ◌++◌, ◌<◌, ◌≤◌, ◌+◌, ◌-◌, ◌∙◌, ap, sym, arith, ℕ, ℤ, List, length, take, drop, Option, None, get_or, length-append}
use Rattle.std.specs.Prelude.{slice_range}
use Rattle.std.proofs.lemmas.List.{flat_map_more, get_or-drop, length-drop, take_more, take-take}
use Rattle.std.proofs.Math.Seq.{take-append_seam}
use Rattle.mp_base.specs.Grid.{cat_of}
use Rattle.mp_base.proofs.Tallies.{cat_of-get_or}
use Rattle.realisation_out.specs.Text.{rows_text, cell_line}

-- the row of one more cell, behind those from a number on
pub rows_text_more : (codes : List ℤ) (cells : List (Option ℕ)) (start n : ℕ) (before : List ℕ) → start ≤ n → n < length cells
    → (before ++ rows_text codes (slice_range cells start n)) ++ cell_line codes (cat_of cells n) ≡ before ++ rows_text codes (slice_range cells start (n + 1))
rows_text_more codes cells start n before order within =
    let rest = drop start cells in
    let later : n - start < length rest = omega (arith, length-drop start cells) in
    let place : start + (n - start) ≡ n = omega arith in
    let next : n + 1 - start ≡ n - start + 1 = omega arith in
    ap (λ v. (before ++ rows_text codes (take (n - start) rest)) ++ cell_line codes v)
    (cat_of-get_or cells n ∙ ap (λ i. get_or cells i None) (sym place) ∙ sym (get_or-drop start cells (n - start) None))
    ∙ flat_map_more (cell_line codes) before (take (n - start) rest) (get_or rest (n - start) None)
    ∙ ap (λ (some : List (Option ℕ)). before ++ rows_text codes some) (sym (take_more rest (n - start) None later))
    ∙ ap (λ k. before ++ rows_text codes (take k rest)) (sym next)

-- what begins with a longer list begins with its front
pub front_stays : (front more now : List ℕ) → take (length (front ++ more)) now ≡ front ++ more → take (length front) now ≡ front
front_stays front more now longer =
    sym (take-take (length front) (length (front ++ more)) now (omega (arith, length-append front more))) ∙ ap (take (length front)) longer ∙ take-append_seam front more
