use Rattle.std.proofs.Common.{◌≡◌, None, length}
use Rattle.gslib_grid.proofs.Feeding.{HasTaken}
use Rattle.gslib_grid.proofs.reader.TableReader.take_piece.Given as goal

abbrev pub invariant-loop-part : goal.invariant-loop-part
invariant-loop-part l = record {
  untold : l.self.told ≡ None;
  taken : HasTaken l.initial.self l.self l.piece l.rest;
}

abbrev pub decreases-loop-part : goal.decreases-loop-part
decreases-loop-part l = length l.rest
