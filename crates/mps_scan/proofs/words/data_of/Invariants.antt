use Rattle.std.proofs.Common.{◌≡◌, true, length}
use Rattle.std.specs.List.{slice_split}
use Rattle.mps_scan.specs.Coded.{positions_rise}
use Rattle.mps_scan.specs.Words.{data_in, is_comma}
use Rattle.mps_scan.proofs.Parts.{followed}
use Rattle.mps_scan.proofs.words.data_of.Given as goal

abbrev pub invariant-loop-part : goal.invariant-loop-part
invariant-loop-part l = record {
  reads : data_in l.word ≡ followed l.event (slice_split is_comma l.rest);
  rise : positions_rise 1 l.event ≡ true;
}

abbrev pub decreases-loop-part : goal.decreases-loop-part
decreases-loop-part l = length l.rest
