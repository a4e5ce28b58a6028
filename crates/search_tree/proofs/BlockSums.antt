-- The sums of blocks that are built fit.
use Rattle.std.proofs.Common.{◌≡◌, ℕ, zero, suc, ◌+◌, ◌-◌, ◌*◌, ◌/◌, ◌%◌, ◌^◌, ◌<◌, ◌≤◌, true, List, ap, inl, inr, arith}
use Rattle.std.specs.List.{range_with_len, sum_by}
use Rattle.std.proofs.Math.Nat.{mod-lt}
use Rattle.std.proofs.lemmas.Bool.{cases_lt}
use Rattle.std.proofs.lemmas.List.Sums.{sum_by-cons}
use Rattle.std.proofs.lemmas.Nat.{div-add-mod'}
use Rattle.ti_scan.specs.Event.{Source, IsSource}
use Rattle.pattern_blocks.specs.Planes.{PlaneRows, marked_sum, planes_of}
use Rattle.pattern_blocks.specs.Rows.{BitRows}
use Rattle.pattern_blocks.specs.Tally.{number_of}
use Rattle.pattern_blocks.proofs.Bits.{marks_all}
use Rattle.pattern_blocks.proofs.MarkedSums.{marked_is}
use Rattle.pattern_store.specs.Building.{IsBuilt}
use Rattle.pattern_store.specs.Levels.{many}
use Rattle.pattern_store.proofs.Standing.{number-few}

bounded-sum : (f : ℕ → ℕ) (a n m : ℕ) → ((j : ℕ) → a ≤ j → j < a + n → f j ≤ m) → sum_by f (range_with_len a n) ≤ n * m
bounded-sum f a zero m le = omega arith
bounded-sum f a (suc n) m le =
    omega (arith, sum_by-cons f a (range_with_len (a + 1) n), le a (omega arith) (omega arith), bounded-sum f (a + 1) n m (λ j low high. le j (omega arith) (omega arith)))

module _ (s : Source) (is : IsSource s) (few_positions : many s ≤ 2 ^ 20) (places : List ℕ) (groups : ℕ) (shown : BitRows) (counts : PlaneRows) (built : IsBuilt s places groups shown counts) where
  -- the sum of a block's numbers fits
  pub block_sums : (r : ℕ) → r < groups * 64 * shown.cats → marked_sum (planes_of counts r) (2 ^ 64 - 1) < 2 ^ 32
  block_sums r below =
      let k_small : r % s.cats < s.cats = mod-lt r (omega (arith, is.cats_some)) in
      let whole : r / s.cats * s.cats + r % s.cats ≡ r = div-add-mod' r s.cats in
      let b_below : r / s.cats < groups * 64 = block r (r / s.cats) (r % s.cats) whole (omega (arith, below, ap (λ c. groups * 64 * c) built.cats)) in
      omega (
        arith,
        few_positions,
        ap (λ x. marked_sum (planes_of counts x) (2 ^ 64 - 1)) whole,
        marked_is (λ (x : ℕ). true) (2 ^ 64 - 1) marks_all (omega arith) (planes_of counts (r / s.cats * s.cats + r % s.cats)),
        bounded-sum (λ u. number_of counts s.cats (r / s.cats) (r % s.cats) u) 0 64 (many s) (λ u low high. number-few s places groups shown counts built (r / s.cats) u (r % s.cats) b_below (omega arith) k_small),
      )
    where
      block : (r b k : ℕ) → b * s.cats + k ≡ r → r < groups * 64 * s.cats → b < groups * 64
      block r b k is_r low = elim (cases_lt b (groups * 64)) [
        | inl less ↦ less
        | inr more ↦
            let rest : groups * 64 + (b - groups * 64) ≡ b = omega arith in
            absurd (omega (arith, ap (λ n. n * s.cats) rest))
      ]
