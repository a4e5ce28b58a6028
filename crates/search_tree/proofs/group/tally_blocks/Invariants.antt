use Rattle.std.proofs.Common.{nat_le}
use Rattle.pattern_blocks.specs.Bits.{AreMarks}
use Rattle.pattern_blocks.specs.Rows.{matched}
use Rattle.pattern_blocks.specs.Tally.{Adds}
use Rattle.search_tree.proofs.Grouping.{settled}
use Rattle.search_tree.proofs.group.tally_blocks.Given as goal

abbrev pub invariant-loop-i : goal.invariant-loop-i
invariant-loop-i l = record {
  marks : AreMarks (λ s. nat_le l.i (matched l.groups.all l.group l.event s)) l.alive;
  added : Adds l.blocks.shown.cats l.least (settled l.blocks.shown l.blocks.counts l.groups.all l.group l.event l.i) l.initial.tally l.tally;
}
