use Rattle.std.proofs.Common.{◌≡◌, ◌-◌, ◌++◌, ℕ, List, [], length, take}
use Rattle.mp_outside.specs.Seen.{NoWriteFailed, OnlyWrites}
use Rattle.realisation_out.specs.Pieces.{HasPut}
use Rattle.realisation_out.specs.Text.{rows_text}
use Rattle.mps_run.specs.Putting.{IsOpen}
use Rattle.mps_run.proofs.putting.put_rows.Given as goal

-- the rows so far are put
abbrev pub invariant-loop-from : goal.invariant-loop-from
invariant-loop-from g l = record {
  cleared : l.rows.items ≡ [];
  going : IsOpen l.pieces (g.F.Files.seen l.files);
  name : l.pieces.name ≡ l.initial.pieces.name;
  put : (text : List ℕ) → HasPut l.initial.pieces (g.F.Files.seen l.initial.files) text → HasPut l.pieces (g.F.Files.seen l.files) (text ++ rows_text l.codes.categories (take l.from l.grid.cells));
  uncounted : NoWriteFailed (g.F.Files.seen l.initial.files) (g.F.Files.seen l.files);
  only : OnlyWrites l.initial.pieces.name (g.F.Files.seen l.initial.files) (g.F.Files.seen l.files);
}

abbrev pub decreases-loop-from : goal.decreases-loop-from
decreases-loop-from g l = length l.grid.cells - l.from
