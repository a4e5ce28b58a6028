use Rattle.std.proofs.Common.{◌≡◌, map, take}
use Rattle.mps_demo.specs.Image.{centre_at}
use Rattle.mps_demo.proofs.channels.Centres.of.Given as goal

-- the centres so far
abbrev pub invariant-loop-channel : goal.invariant-loop-channel
invariant-loop-channel l = l.list.items ≡ map (centre_at l.x) (take l.channel-index l.channels)
