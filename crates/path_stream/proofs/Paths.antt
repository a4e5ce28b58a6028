-- A path has each node once.
use Rattle.std.proofs.Common.{ℕ, zero, suc, ◌+◌, ◌-◌, ◌*◌, ◌/◌, ◌^◌, ◌<◌, ◌≤◌, List, length, get_or, refl, arith}
use Rattle.std.proofs.Math.Dec.{eqb}
use Rattle.std.specs.List.{swap, IsDistinct}
use Rattle.std.specs.List.Sorted.{IsPermutation, IsStrictlyIncreasing}
use Rattle.std.proofs.Math.Nat.{div-lt_iff_lt-mul, mod-lt, mul-le-mul_right}
use Rattle.std.proofs.lemmas.Bool.Decides.{nat_tests, Decides-eqb}
use Rattle.std.proofs.lemmas.List.Kept.{AllPairs-from_increasing}
use Rattle.std.proofs.lemmas.List.Sorted.{IsPermutation-refl, IsPermutation-trans, IsPermutation-swap, length_permutation}
use Rattle.std.proofs.lemmas.Map.Made.{IsDistinct-from_AllPairs}
use Rattle.std.proofs.lemmas.Map.Keys.{IsDistinct-IsPermutation}
use Rattle.rand_chacha.specs.Block.{block_word}
use Rattle.path_stream.specs.Words.{word_of}
use Rattle.path_stream.specs.Path.{path_of, swapped_down}

pub word_of-below : (seed number place : ℕ) → word_of seed number place < 2 ^ 32
unfolding word_of block_word
word_of-below seed number place = mod-lt _ (omega arith)

-- the item to swap with is no later
pub swap_below : (word i : ℕ) → word < 2 ^ 32 → word * (i + 1) / 2 ^ 32 < i + 1
swap_below word i below =
    let product : word * (i + 1) < (i + 1) * 2 ^ 32 = omega (arith, mul-le-mul_right {m = suc word} {n = 2 ^ 32} (i + 1) below) in
    (div-lt_iff_lt-mul {k = 2 ^ 32} {x = word * (i + 1)} {y = i + 1} (omega arith)).1 product

swapped_down-permutation : (words : ℕ → ℕ) (n : ℕ) → ((place : ℕ) → words place < 2 ^ 32) → (i : ℕ) (xs : List ℕ) → i ≤ length xs - 1 → IsPermutation xs (swapped_down words n i xs)
swapped_down-permutation words n below zero xs le = IsPermutation-refl xs
swapped_down-permutation words n below (suc i) xs le =
    let other = words (n - 1 - suc i) * (suc i + 1) / 2 ^ 32 in
    let within : other < length xs = omega (arith, swap_below (words (n - 1 - suc i)) (suc i) (below (n - 1 - suc i))) in
    let one : IsPermutation xs (swap xs (suc i) other) = IsPermutation-swap xs (swap xs (suc i) other) (suc i) other (omega arith) within refl in
    IsPermutation-trans xs (swap xs (suc i) other) _ one (swapped_down-permutation words n below i (swap xs (suc i) other) (omega (arith, length_permutation xs (swap xs (suc i) other) one)))

-- a path has the nodes, each as often as it is given
pub path_of-permutation : (words : ℕ → ℕ) → ((place : ℕ) → words place < 2 ^ 32) → (nodes : List ℕ) → IsPermutation nodes (path_of words nodes)
unfolding path_of
path_of-permutation words below nodes = swapped_down-permutation words (length nodes) below (length nodes - 1) nodes (omega arith)

-- of rising numbers each is at least its index
pub rising-at_least : (xs : List ℕ) → IsStrictlyIncreasing xs → (k : ℕ) → k < length xs → k ≤ get_or xs k 0
rising-at_least xs rises zero within = omega arith
rising-at_least xs rises (suc k) within =
    let before : k ≤ get_or xs k 0 = rising-at_least xs rises k (omega arith) in
    let step : get_or xs k 0 < get_or xs (suc k) 0 = AllPairs-from_increasing xs rises k (suc k) 0 (omega arith) within in
    omega arith

-- rising numbers differ
pub rising-differ : (xs : List ℕ) → IsStrictlyIncreasing xs → IsDistinct eqb xs
rising-differ xs rises =
    IsDistinct-from_AllPairs Decides-eqb xs (λ i j d before within same. let up : get_or xs i d < get_or xs j d = AllPairs-from_increasing xs rises i j d before within in omega arith)

-- the nodes of a path differ
pub path_of-differ : (words : ℕ → ℕ) → ((place : ℕ) → words place < 2 ^ 32) → (nodes : List ℕ) → IsStrictlyIncreasing nodes → IsDistinct eqb (path_of words nodes)
path_of-differ words below nodes rises =
    IsDistinct-IsPermutation eqb (λ x y. grind (arith, nat_tests)) nodes (path_of words nodes) (path_of-permutation words below nodes) (rising-differ nodes rises)
