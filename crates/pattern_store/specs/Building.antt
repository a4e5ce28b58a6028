-- What is built of the patterns of a source, by rank.
use Rattle.std.specs.Prelude.{◌≡◌, ℕ, ◌+◌, ◌*◌, ◌/◌, ◌<◌, ◌≤◌, ◌==◌, ◌&&◌, List, length, slice_index}
use Rattle.std.specs.List.{count_by, range_with_len}
use Rattle.ti_scan.specs.Event.{Source}
use Rattle.pattern_blocks.specs.Drawn.{IsAmong, bit_of}
use Rattle.pattern_blocks.specs.Planes.{PlaneRows}
use Rattle.pattern_blocks.specs.Rows.{BitRows}
use Rattle.pattern_blocks.specs.Tally.{number_of}
use Rattle.pattern_store.specs.Levels.{Table, around, centre, many, table}
use Rattle.pattern_store.specs.Slots.{place_slot}

-- each of n patterns is marked at its place with what it shows at the first template positions, and nothing else is
pub record AreDrawn (pattern : Table) (place : ℕ → ℕ) (n reach cats depth : ℕ) (words : List ℕ) : Type 0 where
  pub marked : (i q : ℕ) → i < n → q < depth → bit_of words reach cats (place i) q (pattern i q) ≡ 1
  pub only : (r q k : ℕ) → q < reach → k < cats → bit_of words reach cats r q k ≡ 1 → IsAmong place (λ i. pattern i q) n r k

-- the same of the patterns around these cells
abbrev pub AreDrawnAround : Source → List ℕ → List ℕ → ℕ → List ℕ → Type 0
AreDrawnAround s cells places depth words = AreDrawn (around s cells) (slice_index places) (length places) (length s.template) s.cats depth words

-- the same of the patterns of all positions
abbrev pub IsDrawn : Source → (ℕ → ℕ) → ℕ → List ℕ → Type 0
IsDrawn s place depth words = AreDrawn (table s) place (many s) (length s.template) s.cats depth words

-- for each rank that a position has, one position with that rank
pub record ArePicks (places picks : List ℕ) : Type 0 where
  pub within : (r : ℕ) → r < length picks → slice_index picks r < length places
  pub known : (i : ℕ) → i < length places → slice_index places i < length picks
  pub own : (i : ℕ) → i < length places → slice_index places (slice_index picks (slice_index places i)) ≡ slice_index places i

-- there are so many words for each block up to that of a pattern
abbrev pub HasBlock : ℕ → ℕ → List ℕ → Type 0
HasBlock width place words = (place / 64 + 1) * width ≤ length words

-- the picked items of a list
pub record ArePicked (items picks chosen : List ℕ) : Type 0 where
  pub count : length chosen ≡ length picks
  pub each : (r : ℕ) → r < length picks → slice_index chosen r ≡ slice_index items (slice_index picks r)

-- how many of the first n positions have slot j
unfoldable pub in_slot : List ℕ → ℕ → List ℕ → ℕ → ℕ → ℕ
in_slot places cats shown n j = count_by (λ i. place_slot places cats shown i == j) (range_with_len 0 n)

-- the blocks of so many groups have what the positions of each rank show, and how many of these have each category at their centre
pub record IsBuilt (s : Source) (places : List ℕ) (groups : ℕ) (shown : BitRows) (counts : PlaneRows) : Type 0 where
  pub reach : shown.reach ≡ length s.template
  pub cats : shown.cats ≡ s.cats
  pub drawn : IsDrawn s (slice_index places) (length s.template) shown.words
  pub numbers : (b u k : ℕ) → b < groups * 64 → u < 64 → k < s.cats → number_of counts s.cats b k u ≡ count_by (λ i. slice_index places i == b * 64 + u && centre s i == k) (range_with_len 0 (many s))
