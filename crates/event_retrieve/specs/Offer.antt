-- Offers: what is retained of a node's event ahead of its turn, when that is sound, and when it is stale.
use Rattle.std.specs.Prelude.{◌≡◌, ℕ, ◌-◌, ◌<◌, ◌≤◌, Bool, false, not, ◌&&◌, ◌==◌, List, length, Option, Some, None, is_some, option_and_then, option_map}
use Rattle.std.specs.List.{list_any, find, range_with_len}
use Rattle.ti_scan.specs.declared.event.Datum.{Datum}
use Rattle.ti_scan.specs.Event.{IsEvent, IsWithin, counts_of}
use Rattle.event_retrieve.specs.declared.retrieval.Retained.{Retained}
use Rattle.event_retrieve.specs.declared.offer.Offer.{Offer}
use Rattle.event_retrieve.specs.declared.offer.Missed.{Missed}
use Rattle.event_retrieve.specs.Plan.{Plan, nodes_in, cell_of, cell_at_position, known}
use Rattle.event_retrieve.specs.Retrieval.{cut, kept_len, retained, reach}
use Rattle.event_retrieve.specs.Sequential.{sequential}

-- what is retained of an event
pub record IsRetained (p : Plan) (event : List Datum) (r : Retained) : Type 0 where
  pub len : r.len ≡ kept_len p (cut p event)
  pub reach : r.reach ≡ reach p event
  pub counts : r.counts ≡ counts_of p.source (retained p event)

-- the event of a path node's turn
abbrev pub event_of_turn : Plan → ℕ → List Datum
event_of_turn p i = known p (sequential p) i i

-- A sound offer's event lies between the known event after the entries that were seen and that of the node's turn.
-- It need not be the known event after any number of entries.
pub record IsSound (p : Plan) (o : Offer) : Type 0 where
  pub in_path : o.index < nodes_in p
  pub before : o.seen ≤ o.index
  pub event : IsEvent (length p.source.template) o.event
  pub lower : IsWithin (known p (sequential p) o.seen o.index) o.event
  pub upper : IsWithin o.event (event_of_turn p o.index)
  pub retained : IsRetained p o.event o.retained

-- the event has a datum at this position
abbrev pub has_position : List Datum → ℕ → Bool
has_position event position = list_any (λ d. d.position == position) event

-- there is a cell, and it is c
abbrev pub is_cell : Option ℕ → ℕ → Bool
is_cell (Some other) c = other == c
is_cell None c = false

-- the cell is at this template position of a path node, and the event has no datum there
abbrev pub is_missed : Plan → ℕ → List Datum → ℕ → ℕ → Bool
is_missed p i event c position = is_cell (cell_at_position p i position) c && not (has_position event position)

-- the first position, up to an offer's reach, at which its event misses the cell
abbrev pub missed_at : Plan → Offer → ℕ → Option ℕ
missed_at p o c = find (is_missed p o.index o.event c) (range_with_len 1 o.retained.reach)

-- the first entry, from those that were seen up to the node's own, whose cell the event misses
abbrev pub missed_entry : Plan → Offer → Option ℕ
missed_entry p o = find (λ e. is_some (missed_at p o (cell_of p e))) (range_with_len o.seen (o.index - o.seen))

-- what makes an offer stale, if anything does: the first entry that it misses, with its position
unfoldable pub stale_by : Plan → Offer → Option Missed
stale_by p o =
    option_and_then (λ e. option_map (λ q. record { entry = e; position = q }) (missed_at p o (cell_of p e))) (missed_entry p o)

-- The offer is stale by an entry that came after those that were seen and before the node's own. It lies at a template
-- position of the node, up to the offer's reach, at which the event has no datum.
pub record IsStaleBy (p : Plan) (o : Offer) (m : Missed) : Type 0 where
  pub later : o.seen ≤ m.entry
  pub earlier : m.entry < o.index
  pub first : 1 ≤ m.position
  pub within : m.position ≤ o.retained.reach
  pub here : cell_at_position p o.index m.position ≡ Some (cell_of p m.entry)
  pub missing : has_position o.event m.position ≡ false

-- the least entry by which the offer is stale
pub record IsFirstMissed (p : Plan) (o : Offer) (m : Missed) : Type 0 where
  pub by : IsStaleBy p o m
  pub least : (other : Missed) → IsStaleBy p o other → m.entry ≤ other.entry
