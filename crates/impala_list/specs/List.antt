-- What a list of patterns answers, and how many entries it has.
use Rattle.std.specs.Prelude.{ℕ, List}
use Rattle.ti_scan.specs.declared.event.Datum.{Datum}
use Rattle.pattern_store.specs.Patterns.{Patterns, bits_of, pattern_counts, reach_of}

-- the patterns, and how many entries there are: one for each distinct pattern
pub record Listed : Type 0 where
  pub patterns : Patterns
  pub entries : ℕ

abbrev pub list_counts : Listed → List Datum → List ℕ
list_counts l event = pattern_counts l.patterns event

abbrev pub list_reach : Listed → ℕ
list_reach l = reach_of l.patterns

abbrev pub list_bits : Listed → ℕ
list_bits l = bits_of l.patterns
