use Rattle.std.proofs.Common.{◌≡◌, length, map}
use Rattle.std.specs.List.{range_with_len}
use Rattle.impala_list.specs.Parts.{part_sum}
use Rattle.impala_list.proofs.many.many_counts.Given as goal

abbrev pub invariant-loop-event : goal.invariant-loop-event
invariant-loop-event g l = l.many.items ≡ map (λ j. map (part_sum l.parts.items (length l.events) j l.groups) (range_with_len 0 l.cats)) (range_with_len 0 l.event)
