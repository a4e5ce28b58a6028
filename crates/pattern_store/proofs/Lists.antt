-- A list that was written over.
use Rattle.std.proofs.Common.{◌≡◌, ℕ, List, ◌++◌, length, take, drop, ap, sym, ◌∙◌}
use Rattle.std.proofs.Math.Seq.{take-append_seam}

-- a list that was written over one as long
pub written_over : {X : Type 0} (xs ys : List X) (n : ℕ) → length ys ≡ n → take n (ys ++ drop (length ys) xs) ≡ ys
written_over xs ys n long = ap (λ m. take m (ys ++ drop (length ys) xs)) (sym long) ∙ take-append_seam ys (drop (length ys) xs)
