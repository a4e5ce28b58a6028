-- What a search tree answers: its patterns, and how many nodes it has.
use Rattle.std.specs.Prelude.{ℕ, List}
use Rattle.ti_scan.specs.declared.event.Datum.{Datum}
use Rattle.pattern_store.specs.Patterns.{Patterns, bits_of, pattern_counts, reach_of}

-- the patterns at the ends of the branches, and how many distinct beginnings they have
pub record Tree : Type 0 where
  pub patterns : Patterns
  pub nodes : ℕ

abbrev pub tree_counts : Tree → List Datum → List ℕ
tree_counts t event = pattern_counts t.patterns event

abbrev pub tree_reach : Tree → ℕ
tree_reach t = reach_of t.patterns

abbrev pub tree_bits : Tree → ℕ
tree_bits t = bits_of t.patterns
