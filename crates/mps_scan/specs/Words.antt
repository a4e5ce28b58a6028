-- The words of `scan` after the parameter file: a level, and a data event by positions and codes; and how they fit the parameters.
use Rattle.std.specs.Prelude.{ℕ, ℤ, Bool, ◌&&◌, ◌==◌, nat_le, List, [], ◌∷◌, ◌++◌, drop, map, Option, Some, None, option_map, option_and_then, if◌then◌else◌, codes}
use Rattle.std.specs.List.{after_first, before_first, list_all, position_or_len, slice_split}
use Rattle.std.specs.Ordering.{int_eq}
use Rattle.std.specs.Str.{bytes_eq}
use Rattle.std.specs.Str.Parse.{starts_with_minus}
use Rattle.mp_base.specs.Number.{short_number, signed}
use Rattle.mp_values.specs.Values.{all_read, is_between, is_code, where_so}
use Rattle.ti_scan.specs.declared.event.Datum.{Datum}
use Rattle.mps_scan.specs.declared.coded.CodedDatum.{CodedDatum}
use Rattle.mps_scan.specs.declared.words.ScanWords.{ScanWords}
use Rattle.mps_scan.specs.Coded.{coded, positions_rise, next_position}

-- `,`
abbrev pub is_comma : ℕ → Bool
is_comma b = b == 44

-- `=`
abbrev pub is_equals : ℕ → Bool
is_equals b = b == 61

-- the number, where it is from 1 to `last`
abbrev pub up_to : ℕ → Option ℕ → Option ℕ
up_to last number = option_and_then (where_so (is_between 1 last)) number

-- a level: one to four digits, from 1 to 8
abbrev pub level_of : List ℕ → Option ℕ
level_of text = up_to 8 (short_number 4 text)

-- a template position: one or two digits, from 1 to 64
abbrev pub position_of : List ℕ → Option ℕ
position_of text = up_to 64 (short_number 2 text)

-- without the `-` in front, if there is one
abbrev pub without_minus : List ℕ → List ℕ
without_minus text = if starts_with_minus text then drop 1 text else text

-- a code: one to nine digits, with or without a `-` in front
unfoldable pub code_of : List ℕ → Option ℤ
code_of text = option_map (signed (starts_with_minus text)) (short_number 9 (without_minus text))

-- a datum: a position, a `=` and a code
unfoldable pub datum_of : List ℕ → Option CodedDatum
datum_of text =
    option_and_then
    (λ position. option_map (coded position) (code_of (after_first is_equals text)))
    (position_of (before_first is_equals text))

-- an event and a datum behind it, where its position is beyond all others
abbrev pub with_datum : List CodedDatum → CodedDatum → Option (List CodedDatum)
with_datum event d = if nat_le (next_position event) d.position then Some (event ++ d ∷ []) else None

-- an event and the datum that a text is
abbrev pub with_part : List CodedDatum → List ℕ → Option (List CodedDatum)
with_part event text = option_and_then (with_datum event) (datum_of text)

-- data with a comma between each two, at rising positions: so there are at most 64
unfoldable pub data_in : List ℕ → Option (List CodedDatum)
data_in text = option_and_then (where_so (positions_rise 1)) (all_read datum_of (slice_split is_comma text))

-- an event: the word `none` for no data, or else at least one datum
abbrev pub event_in : List ℕ → Option (List CodedDatum)
event_in text = if bytes_eq text (codes "none") then Some [] else data_in text

-- a level and an event that are asked for
abbrev pub asked : ℕ → List CodedDatum → ScanWords
asked level event = record { level = level; event = event }

-- a level and an event, where the two words are that
unfoldable pub scan_words : List ℕ → List ℕ → Option ScanWords
scan_words level event = option_and_then (λ n. option_map (asked n) (event_in event)) (level_of level)

-- a position of the template, and the code of a category
abbrev pub is_datum : ℕ → List ℤ → CodedDatum → Bool
is_datum last categories d = nat_le d.position last && is_code d.code categories

-- the words fit: the level is one of the levels, and each datum has a position of the template and the code of a category
abbrev pub fits : ℕ → ℕ → List ℤ → ScanWords → Bool
fits levels last categories words = nat_le words.level levels && list_all (is_datum last categories) words.event

-- the index of a code among the categories
abbrev pub index_of : List ℤ → ℤ → ℕ
index_of categories code = position_or_len (λ c. int_eq c code) categories

-- the same datum by the category
abbrev pub decoded : List ℤ → CodedDatum → Datum
decoded categories d = record { position = d.position; cat = index_of categories d.code }

-- the event that the words ask for, where they fit
unfoldable pub event_for : ℕ → ℕ → List ℤ → ScanWords → Option (List Datum)
event_for levels last categories words = if fits levels last categories words then Some (map (decoded categories) words.event) else None
