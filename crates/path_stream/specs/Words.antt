-- The random words: those of ChaCha20 under a seed, a stream number and a place.
use Rattle.std.specs.Prelude.{ℕ, ◌+◌, ◌-◌, ◌*◌, List, ◌++◌, replicate}
use Rattle.std.specs.Int.{w64, to_le_bytes}
use Rattle.rand_chacha.specs.ChaCha.{word_at, key_of}

-- the words of a seed and a stream
pub record Stream : Type 0 where
  pub seed : ℕ
  pub number : ℕ

-- a place in a stream
pub record Place : Type 0 where
  pub seed : ℕ
  pub number : ℕ
  pub place : ℕ

-- the seed as eight bytes, the low one first, and 24 zero bytes
abbrev pub key_bytes : ℕ → List ℕ
key_bytes seed = to_le_bytes w64 seed ++ replicate 24 0

-- the word at a place of a stream; ChaCha20 has ten double rounds
unfoldable pub word_of : ℕ → ℕ → ℕ → ℕ
word_of seed number place = word_at 10 (key_of (key_bytes seed)) number place

-- the stream number of a realisation, counted from 0, at a level, counted from 1
abbrev pub stream_of : ℕ → ℕ → ℕ
stream_of realisation level = 16 * realisation + level - 1
