-- Marks, one item after another.
use Rattle.std.proofs.Common.{◌≡◌, ℕ, ◌+◌, ◌<◌, ◌≤◌, Bool, cond, ◌&&◌, List, length, refl, ap, ◌∙◌, arith}
use Rattle.std.specs.List.{count_by, range_with_len}
use Rattle.std.proofs.lemmas.List.FromFn.{length-range_with_len}
use Rattle.std.proofs.lemmas.List.Sums.{sum_by_push, count_by-le-length}
use Rattle.mp_base.proofs.Ranges.{range_more}
use Rattle.ti_scan.specs.Marks.{mark, is_marked, marked, marks_in}

-- the marks of the first n items were looked at
pub record KeepsTo (passes : ℕ → Bool) (before after : List Bool) (n : ℕ) : Type 0 where
  pub count : length after ≡ length before
  pub done : (i : ℕ) → i < n → mark after i ≡ (mark before i && passes i)
  pub rest : (i : ℕ) → n ≤ i → mark after i ≡ mark before i

pub marked_none : (marks : List Bool) (bytes : List ℕ) (wanted : ℕ) → marked marks bytes wanted 0 ≡ 0
unfolding marked
marked_none marks bytes wanted = refl

pub marked_more : (marks : List Bool) (bytes : List ℕ) (wanted n : ℕ) → marked marks bytes wanted (n + 1) ≡ marked marks bytes wanted n + cond (is_marked marks bytes wanted n) 1 0
unfolding marked
marked_more marks bytes wanted n =
    ap (count_by (is_marked marks bytes wanted)) (range_more n) ∙ sum_by_push (λ i. cond (is_marked marks bytes wanted i) 1 0) (range_with_len 0 n) n

pub marked-le : (marks : List Bool) (bytes : List ℕ) (wanted n : ℕ) → marked marks bytes wanted n ≤ n
unfolding marked
marked-le marks bytes wanted n = omega (arith, count_by-le-length (is_marked marks bytes wanted) (range_with_len 0 n), length-range_with_len 0 n)

pub marks_in_more : (marks : List Bool) (n : ℕ) → marks_in marks (n + 1) ≡ marks_in marks n + cond (mark marks n) 1 0
unfolding marks_in
marks_in_more marks n = ap (count_by (mark marks)) (range_more n) ∙ sum_by_push (λ i. cond (mark marks i) 1 0) (range_with_len 0 n) n

pub marks_in-le : (marks : List Bool) (n : ℕ) → marks_in marks n ≤ n
unfolding marks_in
marks_in-le marks n = omega (arith, count_by-le-length (mark marks) (range_with_len 0 n), length-range_with_len 0 n)

pub marks_in_none : (marks : List Bool) → marks_in marks 0 ≡ 0
unfolding marks_in
marks_in_none marks = refl
