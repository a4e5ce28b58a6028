-- Slots: a place, and the category that is shown next.
use Rattle.std.specs.Prelude.{ℕ, ◌+◌, ◌*◌, ◌<◌, List, length, map, slice_index}
use Rattle.std.specs.List.{range_with_len}

-- the slot of position i: that of its place and of the category that it shows next
abbrev pub place_slot : List ℕ → ℕ → List ℕ → ℕ → ℕ
place_slot places cats shown i = slice_index places i * cats + slice_index shown i

-- the slots of the first n positions
abbrev pub slots_of : List ℕ → ℕ → List ℕ → ℕ → List ℕ
slots_of places cats shown n = map (place_slot places cats shown) (range_with_len 0 n)

-- each position has a slot among so many
abbrev pub HaveSlots : List ℕ → ℕ → List ℕ → ℕ → Type 0
HaveSlots places cats shown slots = (i : ℕ) → i < length places → place_slot places cats shown i < slots
