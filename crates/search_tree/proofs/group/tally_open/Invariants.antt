use Rattle.std.proofs.Common.{◌≡◌, ℕ, ◌<◌}
use Rattle.std.specs.Int.{bit_at}
use Rattle.pattern_blocks.specs.Tally.{Adds}
use Rattle.search_tree.proofs.Opening.{opened}
use Rattle.search_tree.proofs.group.tally_open.Given as goal

abbrev pub invariant-loop-left : goal.invariant-loop-left
invariant-loop-left l = record {
  within : (s : ℕ) → s < 64 → bit_at l.left s ≡ 1 → bit_at l.entered s ≡ 1;
  added : Adds l.blocks.shown.cats l.least (opened l.blocks.shown l.blocks.counts l.group l.event l.entered l.left) l.initial.tally l.tally;
}

abbrev pub decreases-loop-left : goal.decreases-loop-left
decreases-loop-left l = l.left
