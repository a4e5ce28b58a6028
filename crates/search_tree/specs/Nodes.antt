-- The nodes of a search tree.
use Rattle.std.specs.Prelude.{ℕ, ◌+◌, length}
use Rattle.std.specs.List.{range_with_len, sum_by}
use Rattle.ti_scan.specs.Event.{Source}
use Rattle.pattern_store.specs.Prefixes.{prefixes}

-- how many distinct prefixes there are over all lengths; the empty one counts even without positions
abbrev pub all_prefixes : Source → ℕ
all_prefixes s = 1 + sum_by (prefixes s) (range_with_len 1 (length s.template))
