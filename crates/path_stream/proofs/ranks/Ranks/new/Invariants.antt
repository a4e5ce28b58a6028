use Rattle.std.proofs.Common.{◌≡◌, ◌<◌, ℕ, length, take, get_or}
use Rattle.mp_base.specs.Grid.{cells_of}
use Rattle.path_stream.specs.Ranks.{slot_of}
use Rattle.path_stream.proofs.ranks.Ranks.new.Given as goal

abbrev pub invariant-loop-i : goal.invariant-loop-i
invariant-loop-i l = record {
  len : length l.slots.items ≡ cells_of l.fn.shape;
  each : (c : ℕ) → c < length l.slots.items → get_or l.slots.items c 0 ≡ slot_of (take l.i l.path) c;
}
