-- The path: the nodes after random swaps.
use Rattle.std.specs.Prelude.{ℕ, zero, suc, ◌+◌, ◌-◌, ◌*◌, ◌/◌, ◌^◌, List, length, swap}

-- xs after the swaps at i from the given number down to 1: item i with the one that word n-1-i stands for
abbrev pub swapped_down : (ℕ → ℕ) → ℕ → ℕ → List ℕ → List ℕ
swapped_down words n zero xs = xs
swapped_down words n (suc i) xs =
    swapped_down words n i (swap xs (suc i) (words (n - 1 - suc i) * (suc i + 1) / 2 ^ 32))

-- the path over these nodes, by the words of a stream
unfoldable pub path_of : (ℕ → ℕ) → List ℕ → List ℕ
path_of words nodes = swapped_down words (length nodes) (length nodes - 1) nodes
