-- What passes a test among the first numbers.
use Rattle.std.proofs.Common.{ℕ, ◌<◌, ◌≤◌, Bool, length, filter, arith}
use Rattle.std.specs.List.{All, range_with_len}
use Rattle.std.proofs.lemmas.List.Elements.{All-filter}
use Rattle.std.proofs.lemmas.List.Sums.{length-filter, count_by-le-length}
use Rattle.std.proofs.lemmas.List.FromFn.{length-range_with_len, get_or-range_with_len}

-- what passes among the first n numbers is below n, and no more than n
pub filter-range-below : (p : ℕ → Bool) (n : ℕ) → All (λ c. c < n) (filter p (range_with_len 0 n))
filter-range-below p n = All-filter p (λ c. c < n) (range_with_len 0 n) (λ i d in_list. rw (get_or-range_with_len 0 n i d (rw (length-range_with_len 0 n) at in_list)) (omega (arith, length-range_with_len 0 n)))

pub length-filter-range-le : (p : ℕ → Bool) (n : ℕ) → length (filter p (range_with_len 0 n)) ≤ n
length-filter-range-le p n = omega (arith, length-filter p (range_with_len 0 n), count_by-le-length p (range_with_len 0 n), length-range_with_len 0 n)
