-- Sums over the groups of a store.
use Rattle.std.proofs.Common.{◌≡◌, ℕ, zero, suc, ◌+◌, ◌-◌, ◌*◌, ◌^◌, ◌<◌, ◌≤◌, List, get_or, replicate, refl, ap, arith}
use Rattle.std.specs.List.{range_with_len, sum_by}
use Rattle.ti_scan.specs.declared.event.Datum.{Datum}
use Rattle.pattern_blocks.specs.Rows.{BitRows}
use Rattle.pattern_blocks.specs.Planes.{PlaneRows}
use Rattle.pattern_blocks.specs.Tally.{Adds, HasRoom}
use Rattle.pattern_blocks.proofs.Tallies.{adds-both, adds-none, room-after}
use Rattle.pattern_store.specs.Gains.{group_gain, store_gain}
use Rattle.pattern_store.proofs.Sums.{sum-grows, sum-more}

module _ (shown : BitRows) (counts : PlaneRows) (event : List Datum) where
  abbrev pub gain : ℕ → ℕ → ℕ → ℕ
  gain n row k = store_gain shown counts n event row k

  gain_more : (n row k : ℕ) → gain (n + 1) row k ≡ gain n row k + group_gain shown counts n event row k
  unfolding store_gain
  gain_more n row k = sum-more (λ g. group_gain shown counts g event row k) n

  gain-le : (n m row k : ℕ) → n ≤ m → gain n row k ≤ gain m row k
  unfolding store_gain
  gain-le n m row k le =
      let whole : n + (m - n) ≡ m = omega arith in
      omega (arith, sum-grows (λ g. group_gain shown counts g event row k) n (m - n), ap (λ x. sum_by (λ g. group_gain shown counts g event row k) (range_with_len 0 x)) whole)

  pub none_tallied : (least : ℕ) (tally : List ℕ) → Adds shown.cats least (gain 0) tally tally
  unfolding store_gain
  none_tallied least tally = adds-none shown.cats least (gain 0) tally (λ row k below from. refl)

  module _ (groups n least : ℕ) (within : n < groups) (before now : List ℕ) (adds : Adds shown.cats least (gain n) before now) where
    pub group_room : ((row k : ℕ) → k < shown.cats → least ≤ row → get_or before (row * 8 + k) 0 ≡ 0) → ((row k : ℕ) → k < shown.cats → gain groups row k < 2 ^ 32) → HasRoom shown.cats least (group_gain shown counts n event) now
    group_room zero_ room =
        room-after shown.cats least (gain groups) (gain n) (group_gain shown counts n event) before now (record { each = λ row k below from. omega (arith, zero_ row k below from, room row k below) }) adds
        (λ row k below from. omega (arith, gain_more n row k, gain-le (n + 1) groups row k (omega arith)))

    pub group_added : (after : List ℕ) → Adds shown.cats least (group_gain shown counts n event) now after → Adds shown.cats least (gain (n + 1)) before after
    group_added after more = adds-both shown.cats least (gain (n + 1)) (gain n) (group_gain shown counts n event) before now after adds more (λ row k below from. gain_more n row k)

pub zeros : (n i : ℕ) → ◌≡◌ {A = ℕ} (get_or (replicate n 0) i 0) 0
zeros zero i = refl
zeros (suc n) zero = refl
zeros (suc n) (suc i) = zeros n i

-- an empty tally is 0 everywhere
pub zero_tally : (i : ℕ) → ◌≡◌ {A = ℕ} (get_or (replicate 520 0) i 0) 0
zero_tally i = zeros 520 i

pub zero_parts : (k : ℕ) → ◌≡◌ {A = ℕ} (get_or (replicate 8 0) k 0) 0
zero_parts k = zeros 8 k
