-- The distinct prefixes of the patterns of an image.
use Rattle.std.specs.Prelude.{ℕ, zero, suc, Bool, true, not, ◌&&◌, is_some, length, Option, Some, None}
use Rattle.std.specs.Set.{distinct_count}
use Rattle.mp_base.specs.Counts.{is_cat}
use Rattle.ti_scan.specs.Eroded.{positions_of}
use Rattle.ti_scan.specs.Event.{Source, cat_around}

-- both are one category, or neither is one
abbrev pub same_cat : Option ℕ → Option ℕ → Bool
same_cat a (Some k) = is_cat a k
same_cat a None = not (is_some a)

-- around both cells the first d template positions have the same categories
abbrev pub same_prefix : Source → ℕ → ℕ → ℕ → Bool
same_prefix s zero a b = true
same_prefix s (suc d) a b = same_prefix s d a b && same_cat (cat_around s a (suc d)) (cat_around s b (suc d))

-- how many distinct lists are the categories at the first d template positions of an eroded position
abbrev pub prefixes : Source → ℕ → ℕ
prefixes s d = distinct_count (same_prefix s d) (positions_of s.image s.template)

-- how many distinct full patterns the eroded positions show
abbrev pub distinct_patterns : Source → ℕ
distinct_patterns s = prefixes s (length s.template)
