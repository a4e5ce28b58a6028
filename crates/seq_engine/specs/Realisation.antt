-- A realisation: what the sequential simulation of the levels gives.
use Rattle.std.specs.Prelude.{ℕ, zero, suc, ◌-◌, nat_lt, Bool, List, length, map, replicate, find, Option, None, option_map}
use Rattle.std.specs.List.{range_with_len}
use Rattle.mp_base.specs.Grid.{Field, field, cells_of}
use Rattle.multigrid.specs.Levels.{stretched}
use Rattle.hard_data.specs.Start.{datum_or_value, start_of, values_after}
use Rattle.path_stream.specs.Words.{word_of, stream_of}
use Rattle.path_stream.specs.Path.{path_of}
use Rattle.ti_scan.specs.Event.{Source}
use Rattle.ti_scan.specs.Eroded.{positions_of}
use Rattle.event_retrieve.specs.Plan.{Plan, plan, unknown_nodes}
use Rattle.event_retrieve.specs.Sequential.{sequential}
use Rattle.seq_engine.specs.declared.setup.RunError.{RunError}
use Rattle.seq_engine.specs.declared.setup.RunError.TheVariants.{TooFewPositions}
use Rattle.seq_engine.specs.declared.setup.Setup.{Setup}

-- what is counted in at a level: the image with the template stretched for the level
abbrev pub source_of : Setup → ℕ → Source
source_of s level = record { image = s.image; template = stretched s.template.vectors level; cats = s.cats }

-- the eroded positions of a level
abbrev pub level_positions : Setup → ℕ → List ℕ
level_positions s level = positions_of s.image (stretched s.template.vectors level)

-- how many there are by level, the finest level first
abbrev pub positions_by_level : Setup → List ℕ
positions_by_level s = map (λ level. length (level_positions s level)) (range_with_len 1 s.levels)

-- the levels from the coarsest to the finest
abbrev pub levels_down : Setup → List ℕ
levels_down s = map (λ k. s.levels - k) (range_with_len 0 s.levels)

-- a level has fewer eroded positions than the replicates that are wanted
abbrev pub is_short : Setup → ℕ → Bool
is_short s level = nat_lt (length (level_positions s level)) s.min_replicates

-- the coarsest such level
unfoldable pub short_level : Setup → Option ℕ
short_level s = find (is_short s) (levels_down s)

-- why a setup has no realisation: its coarsest such level, with what it has and what is wanted
abbrev pub too_few : Setup → Option RunError
too_few s = option_map (λ level. TooFewPositions level (length (level_positions s level)) s.min_replicates) (short_level s)

-- the plan of a level of a realisation, over what is known at the start of the level
abbrev pub level_plan : Setup → ℕ → ℕ → Field → Plan
level_plan s realisation level start =
    let stream = stream_of realisation level in
    plan level (source_of s level) start (path_of (word_of s.seed stream) (unknown_nodes start level)) s.seed stream s.target s.servo s.min_replicates s.max_data

-- the plan of a level, over the hard data and the values of the coarser levels
abbrev pub plan_over : Setup → ℕ → ℕ → Field → Plan
plan_over s realisation level values = level_plan s realisation level (start_of s.hard values level)

-- The values after the coarsest k levels. Before the coarsest nothing is simulated; each level sets the entries of its
-- sequential log in the values before it.
unfoldable pub values_at : Setup → ℕ → ℕ → Field
values_at s realisation zero = field s.shape (replicate (cells_of s.shape) None)
values_at s realisation (suc k) =
    values_after (values_at s realisation k) (sequential (plan_over s realisation (s.levels - k) (values_at s realisation k)))

-- the plans of a realisation, from the coarsest level to the finest
abbrev pub plans_of : Setup → ℕ → List Plan
plans_of s realisation = map (λ k. plan_over s realisation (s.levels - k) (values_at s realisation k)) (range_with_len 0 s.levels)

-- a realisation: each cell has its hard datum, or else its value; a moved datum is part of neither
abbrev pub realised : Setup → ℕ → Field
realised s realisation = field s.shape (map (datum_or_value s.hard (values_at s realisation s.levels)) (range_with_len 0 (cells_of s.shape)))
