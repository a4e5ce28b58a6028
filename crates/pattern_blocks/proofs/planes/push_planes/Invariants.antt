use Rattle.std.proofs.Common.{ℕ, ◌≡◌, ◌+◌, ◌/◌, ◌^◌, ◌<◌, ◌≤◌, take, drop, length}
use Rattle.pattern_blocks.specs.Making.{number_at}
use Rattle.pattern_blocks.specs.Planes.{number_in}
use Rattle.pattern_blocks.proofs.planes.push_planes.Given as goal

abbrev pub invariant-loop-bit : goal.invariant-loop-bit
invariant-loop-bit l = record {
  low : l.bit ≤ 32;
  more : length l.initial.words.items ≤ length l.words.items;
  few : length l.words.items + l.bit ≤ length l.initial.words.items + 32;
  kept : take (length l.initial.words.items) l.words.items ≡ l.initial.words.items;
  numbers : (u : ℕ) → u < 64 → number_in (drop (length l.initial.words.items) l.words.items) u ≡ number_at l.numbers l.from l.step u / 2 ^ l.bit;
}

abbrev pub decreases-loop-bit : goal.decreases-loop-bit
decreases-loop-bit l = l.bit
