-- What `scan` is asked, and what it tells.
use Rattle.std.specs.Prelude.{◌≡◌, ◌⊎◌, ℕ, List, length, Result, Err, ok_or}
use Rattle.mp_params.specs.Params.{ParamsValue}
use Rattle.mp_values.specs.declared.choice.StoreChoice.{StoreChoice}
use Rattle.mp_values.specs.declared.choice.StoreChoice.TheVariants.{Tree, List as Listed}
use Rattle.pattern_store.specs.Prefixes.{distinct_patterns}
use Rattle.search_tree.specs.Nodes.{all_prefixes}
use Rattle.seq_engine.specs.Realisation.{source_of}
use Rattle.seq_engine.specs.declared.setup.Setup.{Setup}
use Rattle.template_order.specs.Radii.{radii_in}
use Rattle.template_order.specs.Template.{template_of}
use Rattle.ti_scan.specs.Event.{Source}
use Rattle.ti_scan.specs.declared.event.Datum.{Datum}
use Rattle.mps_scan.specs.Text.{scan_plan, scan_text}
use Rattle.mps_scan.specs.Words.{event_for}
use Rattle.mps_inputs.specs.declared.fault.Fault.{Fault}
use Rattle.mps_inputs.specs.declared.fault.Fault.TheVariants.{Usage, OutOfMemory}
use Rattle.mps_scan.specs.declared.words.ScanWords.{ScanWords}

-- how many positions the template has, which may be fewer than are asked for
abbrev pub positions_in : ParamsValue → ℕ
positions_in p = length (template_of (radii_in p.radii) p.template)

-- the event that the words ask for, where they fit the parameters
abbrev pub event_asked : ParamsValue → ScanWords → Result (List Datum) Fault
event_asked p words = ok_or (event_for p.levels (positions_in p) p.categories words) Usage

-- why no event is asked: want of memory, or words that don't fit
abbrev pub IsUnfit : ParamsValue → ScanWords → Fault → Type 0
IsUnfit p words fault = (fault ≡ OutOfMemory) ⊎ ((fault ≡ Usage) × (event_asked p words ≡ Err Usage))

-- how large a store is: the nodes of the tree, or the entries of the list
abbrev pub size_of : StoreChoice → Source → ℕ
size_of Tree source = all_prefixes source
size_of Listed source = distinct_patterns source

-- what is told of an event at a level, by the level's store
abbrev pub level_text : StoreChoice → Setup → ℕ → List Datum → List ℕ
level_text store s level event = scan_text store (size_of store (source_of s level)) (scan_plan s level) event
