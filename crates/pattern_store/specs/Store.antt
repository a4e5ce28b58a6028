-- What a store of blocks and groups keeps, and the patterns that it stands for.
use Rattle.std.specs.Prelude.{◌≡◌, ◌⊎◌, ℕ, ◌+◌, ◌-◌, ◌*◌, ◌^◌, ◌<◌, ◌≤◌, ◌==◌, List, [], map}
use Rattle.std.specs.List.{flat_map, position_or_len, range_with_len}
use Rattle.ti_scan.specs.declared.event.Datum.{Datum}
use Rattle.pattern_blocks.specs.Rows.{BitRows, has}
use Rattle.pattern_blocks.specs.Planes.{PlaneRows}
use Rattle.pattern_blocks.specs.Tally.{number_of}
use Rattle.pattern_store.specs.Holding.{holders}
use Rattle.pattern_store.specs.Patterns.{Pattern, Patterns}

-- the category of pattern u of a block at template position q + 1: the first whose bit is set
abbrev pub shown_at : BitRows → ℕ → ℕ → ℕ → ℕ
shown_at shown b u q = position_or_len (λ k. has shown b u (record { position = q + 1; cat = k })) (range_with_len 0 shown.cats)

-- pattern u of a block
abbrev pub pattern_at : BitRows → PlaneRows → ℕ → ℕ → Pattern
pattern_at shown counts b u = record { shown = map (shown_at shown b u) (range_with_len 0 shown.reach); centres = map (λ k. number_of counts shown.cats b k u) (range_with_len 0 shown.cats) }

-- the patterns of the first n groups
unfoldable pub patterns_in : BitRows → PlaneRows → ℕ → List Pattern
patterns_in shown counts n = flat_map (λ g. flat_map (λ s. map (pattern_at shown counts (g * 64 + s)) (range_with_len 0 64)) (range_with_len 0 64)) (range_with_len 0 n)

-- item u of a block has one category at each template position
abbrev pub IsWhole : BitRows → ℕ → ℕ → Type 0
IsWhole shown b u = (d : Datum) → 1 ≤ d.position → d.position ≤ shown.reach → has shown b u d ≡ (shown_at shown b u (d.position - 1) == d.cat)

-- item u of a block is there to fill it up
abbrev pub IsFilling : BitRows → PlaneRows → ℕ → ℕ → Type 0
IsFilling shown counts b u = (k : ℕ) → k < shown.cats → number_of counts shown.cats b k u ≡ 0

-- what a store keeps of so many groups: each item is a pattern or fills up, and there are few
pub record IsStore (shown : BitRows) (counts : PlaneRows) (groups : ℕ) : Type 0 where
  pub short : shown.reach ≤ 64
  pub few_cats : shown.cats ≤ 8
  pub few_groups : groups ≤ 2 ^ 18
  pub items : (g s u : ℕ) → g < groups → s < 64 → u < 64 → IsWhole shown (g * 64 + s) u ⊎ IsFilling shown counts (g * 64 + s) u
  pub few : (k : ℕ) → k < shown.cats → holders shown counts groups [] k ≤ 2 ^ 20

-- the patterns that so many groups stand for
abbrev pub stored : BitRows → PlaneRows → ℕ → Patterns
stored shown counts groups = record { reach = shown.reach; cats = shown.cats; list = patterns_in shown counts groups }
