-- Ranks: the inverse of a path.
use Rattle.std.specs.Prelude.{◌≡◌, ℕ, ◌+◌, ◌<◌, ◌==◌, nat_lt, nat_le, Bool, false, if◌then◌else◌, List, length, map, position, Option, slice_index}
use Rattle.std.specs.List.{position_or_len, range_with_len}
use Rattle.std.specs.Option.{option_map_or}

-- the rank of a cell: its index in the path, or nothing where it isn't on the path
abbrev pub rank_in : List ℕ → ℕ → Option ℕ
rank_in path c = position (λ x. x == c) path

-- the cell stands on the path, at index i or behind it
abbrev pub comes_later : List ℕ → ℕ → ℕ → Bool
comes_later path i c = option_map_or (λ r. nat_le i r) (rank_in path c) false

-- what is kept of a cell: one more than its rank, or 0 where it isn't on the path
abbrev pub slot_of : List ℕ → ℕ → ℕ
slot_of path c =
    let r = position_or_len (λ x. x == c) path in
    if nat_lt r (length path) then r + 1 else 0

-- the path of so many cells that these slots stand for: item i is the cell whose slot is i + 1
unfoldable pub path_from : ℕ → List ℕ → List ℕ
path_from count slots = map (λ i. position_or_len (λ s. s == i + 1) slots) (range_with_len 0 count)

-- the slots are those of a path whose cells are inside
pub record IsRanked (slots path : List ℕ) : Type 0 where
  pub inside : (i : ℕ) → i < length path → slice_index path i < length slots
  pub each : (c : ℕ) → c < length slots → slice_index slots c ≡ slot_of path c
