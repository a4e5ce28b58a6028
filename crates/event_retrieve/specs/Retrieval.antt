-- The retained part of an event, and how far it reaches.
use Rattle.std.specs.Prelude.{ℕ, ◌-◌, nat_le, nat_lt, ◌==◌, if◌then◌else◌, List, length, take, map, filter, slice_index}
use Rattle.ti_scan.specs.declared.event.Datum.{Datum}
use Rattle.ti_scan.specs.Event.{counts_of}
use Rattle.ti_scan.specs.Prefix.{longest}
use Rattle.event_retrieve.specs.declared.retrieval.Retained.{Retained}
use Rattle.event_retrieve.specs.Plan.{Plan}

-- the first `max_data` data
abbrev pub cut : Plan → List Datum → List Datum
cut p event = take p.max_data event

-- how many data of a cut the longest prefix with enough replicates has
abbrev pub kept_len : Plan → List Datum → ℕ
kept_len p first = longest (counts_of p.source) p.min_replicates first (length first)

-- the retained part of an event
abbrev pub retained : Plan → List Datum → List Datum
retained p event = take (kept_len p (cut p event)) (cut p event)

-- the position of datum number i of an event, counted from 0
abbrev pub position_at : List Datum → ℕ → ℕ
position_at event i = slice_index (map (λ d. d.position) event) i

-- Up to this position a cut's data decide, where so many of them are kept. It is that of the first that is dropped;
-- where none is, and the most data are held, of the last; else the template's length.
abbrev pub reach_by : List Datum → ℕ → ℕ → ℕ → ℕ
reach_by first kept most last =
    if nat_lt kept (length first) then position_at first kept
    else if length first == most then position_at first (most - 1) else last

unfoldable pub reach : Plan → List Datum → ℕ
reach p event = reach_by (cut p event) (kept_len p (cut p event)) p.max_data (length p.source.template)

-- what is retained of an event
abbrev pub retained_of : Plan → List Datum → Retained
retained_of p event = record { len = kept_len p (cut p event); reach = reach p event; counts = counts_of p.source (retained p event) }

-- the data at positions up to r
abbrev pub up_to : ℕ → List Datum → List Datum
up_to r event = filter (λ d. nat_le d.position r) event
