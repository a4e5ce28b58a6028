-- Worked examples, computed.
use Rattle.std.proofs.Common.{◌≡◌, ◌∷◌, replicate, refl}
use Rattle.path_stream.specs.Words.{key_bytes}

-- the key of the seed 258
low_byte_first : key_bytes 258 ≡ 2 ∷ 1 ∷ 0 ∷ 0 ∷ 0 ∷ 0 ∷ 0 ∷ 0 ∷ replicate 24 0
low_byte_first = refl
