use Rattle.std.proofs.Common.{◌≡◌, ◌++◌}
use Rattle.std.specs.List.{flat_map, range_with_len}
use Rattle.ti_scan.specs.Event.{counts_of}
use Rattle.mps_scan.specs.Text.{prefix_line}
use Rattle.mps_scan.proofs.text.push_prefixes.Given as goal

abbrev pub invariant-loop-len : goal.invariant-loop-len
invariant-loop-len l = l.to.items ≡ l.initial.to.items ++ flat_map (prefix_line (counts_of l._plan.source) l._event) (range_with_len 0 l.len)
