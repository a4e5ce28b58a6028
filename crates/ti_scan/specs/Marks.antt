-- Marks of cells one after another, and the bytes of these cells.
use Rattle.std.specs.Prelude.{◌≡◌, ℕ, ◌-◌, ◌<◌, Bool, false, if◌then◌else◌, Option, None, filter, ◌&&◌, ◌==◌, nat_lt, List, length, map, slice_index, slice_index_or, count_by}
use Rattle.std.specs.List.{range_with_len}
use Rattle.mp_base.specs.Grid.{category_of}

-- the mark of item i
abbrev pub mark : List Bool → ℕ → Bool
mark marks i = slice_index_or marks i false

-- item i of the bytes is this one
abbrev pub has_byte : List ℕ → ℕ → ℕ → Bool
has_byte bytes wanted i = slice_index bytes i == wanted

-- item i of the bytes stands for a category
abbrev pub has_category : List ℕ → ℕ → Bool
has_category bytes i = nat_lt (slice_index bytes i) 8

-- the marks that are left are those of the items that pass
pub record Keeps (passes : ℕ → Bool) (before after : List Bool) : Type 0 where
  pub count : length after ≡ length before
  pub each : (i : ℕ) → i < length before → mark after i ≡ (mark before i && passes i)

-- item i is marked, and has this byte
abbrev pub is_marked : List Bool → List ℕ → ℕ → ℕ → Bool
is_marked marks bytes wanted i = mark marks i && has_byte bytes wanted i

-- how many of the first n items are marked and have this byte
unfoldable pub marked : List Bool → List ℕ → ℕ → ℕ → ℕ
marked marks bytes wanted n = count_by (is_marked marks bytes wanted) (range_with_len 0 n)

-- how many of the first n items are marked
unfoldable pub marks_in : List Bool → ℕ → ℕ
marks_in marks n = count_by (mark marks) (range_with_len 0 n)

-- the first n cells from here on that are marked
unfoldable pub cells_marked : List Bool → ℕ → ℕ → List ℕ
cells_marked marks from n = filter (λ c. mark marks (c - from)) (range_with_len from n)

-- the category of item i, where it's marked
abbrev pub category_marked : List Bool → List ℕ → ℕ → Option ℕ
category_marked marks bytes i = if mark marks i then category_of (slice_index bytes i) else None

-- the same of all items
abbrev pub categories_marked : List Bool → List ℕ → List (Option ℕ)
categories_marked marks bytes = map (category_marked marks bytes) (range_with_len 0 (length marks))
