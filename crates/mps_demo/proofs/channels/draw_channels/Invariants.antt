use Rattle.std.proofs.Common.{◌≡◌, ◌*◌, map}
use Rattle.std.specs.List.{range_with_len}
use Rattle.mps_demo.specs.Drawn.{place_in}
use Rattle.mps_demo.specs.Image.{channel_of}
use Rattle.mps_demo.proofs.channels.draw_channels.Given as goal

-- the channels so far, each by two words
abbrev pub invariant-loop-number : goal.invariant-loop-number
invariant-loop-number l = record {
  channels : l.channels.items ≡ map (channel_of l.fn.words.seed) (range_with_len 0 l.number);
  words : l.words ≡ place_in l.fn.words.seed (2 * l.number);
}
