-- The fields of a text, and texts without the blanks at their ends.
use Rattle.std.specs.Prelude.{ℕ, ◌-◌, Bool, true, ◌==◌, ◌||◌, not, nat_lt, List, [], ◌∷◌, length, take, drop, filter}
use Rattle.std.specs.List.{position_or_len, slice_split, suffix_len}

-- a space or a tab
abbrev pub is_blank : ℕ → Bool
is_blank b = b == 32 || b == 9

-- it has a byte
abbrev pub is_filled : List ℕ → Bool
is_filled piece = nat_lt 0 (length piece)

-- the longest pieces without blanks
unfoldable pub fields_of : List ℕ → List (List ℕ)
fields_of text = filter is_filled (slice_split is_blank text)

abbrev pub is_visible : ℕ → Bool
is_visible b = not (is_blank b)

-- without the blanks in front
abbrev pub from_visible : List ℕ → List ℕ
from_visible text = drop (position_or_len is_visible text) text

-- without the blanks at the end
abbrev pub to_visible : List ℕ → List ℕ
to_visible text = take (length text - suffix_len is_blank text) text

-- without the blanks at either end
abbrev pub trimmed : List ℕ → List ℕ
trimmed text = to_visible (from_visible text)

-- nothing, or a text that begins with `#`
abbrev pub is_remark : List ℕ → Bool
is_remark [] = true
is_remark (b ∷ bs) = b == 35

-- blanks alone, or blanks and a remark
abbrev pub is_skipped : List ℕ → Bool
is_skipped line = is_remark (from_visible line)
