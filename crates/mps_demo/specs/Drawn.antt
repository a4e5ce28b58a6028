-- Random numbers, by the words of a stream that no realisation has.
use Rattle.std.specs.Prelude.{ℕ, ◌*◌, ◌/◌, ◌^◌}
use Rattle.path_stream.specs.Words.{Place, word_of}

-- a place in the stream of a seed
abbrev pub place_in : ℕ → ℕ → Place
place_in seed place = record { seed = seed; number = 4294967296; place = place }

-- the word at a place
abbrev pub demo_word : ℕ → ℕ → ℕ
demo_word seed place = word_of seed 4294967296 place

-- the number below n that the word at a place gives
abbrev pub drawn : ℕ → ℕ → ℕ → ℕ
drawn n seed place = demo_word seed place * n / 2 ^ 32
