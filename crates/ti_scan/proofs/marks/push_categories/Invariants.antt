use Rattle.std.proofs.Common.{◌≡◌, ◌++◌, map}
use Rattle.std.specs.List.{range_with_len}
use Rattle.mp_base.specs.Grid.{category_of}
use Rattle.ti_scan.specs.Marks.{category_marked}
use Rattle.ti_scan.proofs.marks.push_categories.Given as goal

abbrev pub invariant-loop-i : goal.invariant-loop-i
invariant-loop-i l = map category_of l.to.items ≡ map category_of l.initial.to.items ++ map (category_marked l.marks l.bytes) (range_with_len 0 l.i)
