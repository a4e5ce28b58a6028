use Rattle.std.proofs.Common.{nat_le}
use Rattle.pattern_blocks.specs.Bits.{AreMarks}
use Rattle.pattern_blocks.specs.Rows.{matched}
use Rattle.pattern_blocks.proofs.block.items_with.Given as goal

abbrev pub invariant-loop-i : goal.invariant-loop-i
invariant-loop-i l = AreMarks (λ s. nat_le l.i (matched l.rows l.block l.event s)) l.marks
