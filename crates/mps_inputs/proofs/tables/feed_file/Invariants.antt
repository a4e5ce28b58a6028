use Rattle.std.proofs.Common.{◌-◌, ◌^◌}
use Rattle.mp_outside.specs.Seen.{OnlyReads}
use Rattle.mps_inputs.specs.Tables.{WasFedTo}
use Rattle.mps_inputs.proofs.tables.feed_file.Given as goal

-- the reader was fed the file up to the place
abbrev pub invariant-loop-count : goal.invariant-loop-count
invariant-loop-count g l =
    record {
      only : OnlyReads (g.F.Files.seen l.initial.files) (g.F.Files.seen l.files);
      fed : WasFedTo l.want l.initial.reader.codes l.reader (g.F.Files.seen l.files) l.name l.at;
    }

abbrev pub decreases-loop-count : goal.decreases-loop-count
decreases-loop-count g l = 2 ^ 28 - l.at
