-- Lists that grow by one item at a time.
use Rattle.std.proofs.Common.{◌≡◌, sym, ◌∙◌, ℕ, ◌+◌, List, [], ◌∷◌, ◌++◌, map, arith}
use Rattle.std.specs.List.{range_with_len}
use Rattle.std.proofs.lemmas.List.FromFn.{map-range_with_len_more}

-- what was made of the numbers below n, with what is made of n
pub one_more : {X : Type 0} (f : ℕ → X) (before after : List X) (x : X) (n : ℕ) → before ≡ map f (range_with_len 0 n) → after ≡ before ++ x ∷ [] → x ≡ f n → after ≡ map f (range_with_len 0 (n + 1))
one_more f before after x n so_far added is = added ∙ (λ i. so_far i ++ is i ∷ []) ∙ sym (map-range_with_len_more f 0 n n (omega arith))
