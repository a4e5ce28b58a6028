-- Each realisation has a stream of its own at each level.
use Rattle.std.proofs.Common.{◌≡◌, ℕ, ◌≤◌, arith}
use Rattle.path_stream.specs.Words.{stream_of}

pub stream_of-once : (r s g h : ℕ) → 1 ≤ g → g ≤ 16 → 1 ≤ h → h ≤ 16 → stream_of r g ≡ stream_of s h → (r ≡ s) × (g ≡ h)
stream_of-once r s g h g_some g_few h_some h_few same = (omega arith, omega arith)
