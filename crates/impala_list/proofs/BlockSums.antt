-- Sums over the blocks of a group.
use Rattle.std.proofs.Common.{◌≡◌, ℕ, ◌+◌, ◌-◌, ◌*◌, ◌<◌, ◌≤◌, List, refl, ap, arith}
use Rattle.std.specs.List.{range_with_len, sum_by}
use Rattle.ti_scan.specs.declared.event.Datum.{Datum}
use Rattle.pattern_blocks.specs.Rows.{BitRows}
use Rattle.pattern_blocks.specs.Planes.{PlaneRows}
use Rattle.pattern_blocks.specs.Tally.{Adds, HasRoom, block_gain}
use Rattle.pattern_blocks.proofs.Tallies.{adds-both, adds-none, adds-same, room-after}
use Rattle.pattern_store.specs.Gains.{blocks_gain, group_gain}
use Rattle.pattern_store.proofs.Sums.{sum-grows, sum-more}

module _ (shown : BitRows) (counts : PlaneRows) (group : ℕ) (event : List Datum) where
  -- what the first n blocks of the group add
  unfoldable pub gained : ℕ → ℕ → ℕ → ℕ
  gained n row k = sum_by (λ s. block_gain shown counts (group * 64 + s) event row k) (range_with_len 0 n)

  gained_more : (n row k : ℕ) → gained (n + 1) row k ≡ gained n row k + block_gain shown counts (group * 64 + n) event row k
  unfolding gained
  gained_more n row k = sum-more (λ s. block_gain shown counts (group * 64 + s) event row k) n

  gained-le : (n row k : ℕ) → n ≤ 64 → gained n row k ≤ group_gain shown counts group event row k
  unfolding gained blocks_gain
  gained-le n row k le =
      let whole : n + (64 - n) ≡ 64 = omega arith in
      omega (arith, sum-grows (λ s. block_gain shown counts (group * 64 + s) event row k) n (64 - n), ap (λ x. sum_by (λ s. block_gain shown counts (group * 64 + s) event row k) (range_with_len 0 x)) whole)

  pub none_gained : (cats least : ℕ) (tally : List ℕ) → Adds cats least (gained 0) tally tally
  unfolding gained
  none_gained cats least tally = adds-none cats least (gained 0) tally (λ row k below from. refl)

  module _ (cats least n : ℕ) (before now : List ℕ) (adds : Adds cats least (gained n) before now) where
    pub block_room : n < 64 → HasRoom cats least (group_gain shown counts group event) before → HasRoom cats least (block_gain shown counts (group * 64 + n) event) now
    block_room within room =
        room-after cats least (group_gain shown counts group event) (gained n) (block_gain shown counts (group * 64 + n) event) before now room adds
        (λ row k below from. omega (arith, gained_more n row k, gained-le (n + 1) row k (omega arith)))

    pub block_added : (after : List ℕ) → Adds cats least (block_gain shown counts (group * 64 + n) event) now after → Adds cats least (gained (n + 1)) before after
    block_added after more = adds-both cats least (gained (n + 1)) (gained n) (block_gain shown counts (group * 64 + n) event) before now after adds more (λ row k below from. gained_more n row k)

    pub all_gained : n ≡ 64 → Adds cats least (group_gain shown counts group event) before now
    unfolding gained blocks_gain
    all_gained end = adds-same cats least (group_gain shown counts group event) (gained n) before now adds (λ row k below from. ap (λ x. sum_by (λ s. block_gain shown counts (group * 64 + s) event row k) (range_with_len 0 x)) (sym_end end))
      where
        sym_end : n ≡ 64 → 64 ≡ n
        sym_end e = omega arith
