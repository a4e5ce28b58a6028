-- What files and sinks that never fail hold.
use Rattle.std.specs.Prelude.{ℕ, true, List, [], Some}
use Rattle.std.specs.Option.{option_map_or}
use Rattle.std.specs.BTreeMap.{get_by_text}
use Rattle.mp_outside.specs.Contents.{Held}
use Rattle.mp_outside.specs.Seen.{FilesSeen, SinkSeen}
use Rattle.mp_outside.specs.declared.no_fault.NoFaultFiles.{NoFaultFiles}
use Rattle.mp_outside.specs.declared.no_fault.NoFaultSink.{NoFaultSink}

-- the bytes under a name: none where nothing was put or created there
abbrev pub content : NoFaultFiles → Held
content m name = Some (option_map_or (λ v. v.items) (get_by_text m.files name) [])

abbrev pub files_seen : NoFaultFiles → FilesSeen
files_seen m = record { tells = true; held = content m; reads = λ _. 0; writes = λ _. 0 }

abbrev pub sink_bytes : NoFaultSink → List ℕ
sink_bytes s = s.bytes.items

abbrev pub sink_seen : NoFaultSink → SinkSeen
sink_seen s = record { tells = true; written = sink_bytes s; faults = 0 }
