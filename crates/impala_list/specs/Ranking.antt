-- Keys and their places among the distinct ones of a list.
use Rattle.std.specs.Prelude.{◌≡◌, ℕ, ◌<◌, ◌^◌, ◌==◌, List, length, slice_index}
use Rattle.std.specs.List.{Contains}
use Rattle.std.specs.List.Sorted.{IsStrictlyIncreasing}
use Rattle.std.specs.Set.{distinct_count}
use Rattle.std.proofs.Math.Dec.{eqb}

-- the distinct ones of a list of keys, in rising order
pub record AreDistinct (keys distinct : List ℕ) : Type 0 where
  pub rise : IsStrictlyIncreasing distinct
  pub known : (i : ℕ) → i < length keys → Contains distinct (slice_index keys i)
  pub count : length distinct ≡ distinct_count eqb keys

-- the key is one of the distinct ones
pub record IsAmong (distinct : List ℕ) (key : ℕ) : Type 0 where
  pub rise : IsStrictlyIncreasing distinct
  pub few : length distinct < 2 ^ 32
  pub known : Contains distinct key

-- the place of the key among the distinct ones
pub record IsPlace (distinct : List ℕ) (key place : ℕ) : Type 0 where
  pub below : place < length distinct
  pub here : slice_index distinct place ≡ key

-- two lists agree about which positions are the same
pub record AreAs (before after : List ℕ) : Type 0 where
  pub count : length after ≡ length before
  pub alike : (i j : ℕ) → i < length before → j < length before → (slice_index after i == slice_index after j) ≡ (slice_index before i == slice_index before j)

-- the place of each key among the distinct ones, and how many of these there are
pub record AreRanked (keys places : List ℕ) (classes : ℕ) : Type 0 where
  pub same : AreAs keys places
  pub below : (i : ℕ) → i < length keys → slice_index places i < classes
  pub many : classes ≡ distinct_count eqb keys
