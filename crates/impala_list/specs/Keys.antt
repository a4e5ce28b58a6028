-- Keys that stand for what is shown around eroded positions.
use Rattle.std.specs.Prelude.{◌≡◌, ℕ, ◌+◌, ◌*◌, ◌<◌, ◌^◌, List, length, slice_index}
use Rattle.ti_scan.specs.Event.{Source}
use Rattle.pattern_store.specs.Levels.{AreAlike, many}
use Rattle.impala_list.specs.Ranking.{AreAs}

-- keys below a bound: positions have one key exactly where their patterns agree at the first template positions
pub record AreKeys (s : Source) (depth : ℕ) (keys : List ℕ) (bound : ℕ) : Type 0 where
  pub count : length keys ≡ many s
  pub below : (i : ℕ) → i < many s → slice_index keys i < bound
  pub alike : AreAlike s depth keys

-- each is below the bound
abbrev pub AreBelow : ℕ → List ℕ → Type 0
AreBelow bound keys = (i : ℕ) → i < length keys → slice_index keys i < bound

-- the same keys or others for them, with room for one digit more in this base
pub record HaveRoom (base : ℕ) (before after : List ℕ) (bound : ℕ) : Type 0 where
  pub same : AreAs before after
  pub below : AreBelow bound after
  pub room : bound * base < 2 ^ 64

-- each key has one digit more in this base
pub record AppendsDigits (base : ℕ) (digits before after : List ℕ) : Type 0 where
  pub count : length after ≡ length before
  pub each : (i : ℕ) → i < length before → slice_index after i ≡ slice_index before i * base + slice_index digits i
