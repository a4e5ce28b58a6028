-- The counts of the host's files and streams, which tell no contents.
use Rattle.std.specs.Prelude.{ℕ, false, List, [], None}
use Rattle.mp_outside.specs.Seen.{FilesSeen, SinkSeen}
use Rattle.mp_outside.specs.declared.host.files.HostFiles.{HostFiles}
use Rattle.mp_outside.specs.declared.host.sink.HostSink.{HostSink}

-- one count of reads and one of writes serve all names
abbrev pub read_count : HostFiles → List ℕ → ℕ
read_count f name = f.failed_reads

abbrev pub write_count : HostFiles → List ℕ → ℕ
write_count f name = f.failed_writes

abbrev pub files_seen : HostFiles → FilesSeen
files_seen f = record { tells = false; held = λ _. None; reads = read_count f; writes = write_count f }

abbrev pub sink_faults : {W : Type 0} → HostSink W → ℕ
sink_faults s = s.failed_writes

abbrev pub sink_seen : {W : Type 0} → HostSink W → SinkSeen
sink_seen s = record { tells = false; written = []; faults = sink_faults s }
