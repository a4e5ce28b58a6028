use Rattle.std.proofs.Common.{◌≡◌}
use Rattle.mp_outside.specs.Seen.{NoWriteFailed, OnlyWrites}
use Rattle.realisation_out.specs.Pieces.{HasPut}
use Rattle.mps_run.specs.Putting.{IsOpen}
use Rattle.mps_run.specs.Texts.{counts_of, file_text, realisations_to}
use Rattle.mps_run.proofs.realisations.put_realisations.Given as goal

-- the realisations so far
abbrev pub invariant-loop-realisation : goal.invariant-loop-realisation
invariant-loop-realisation g l = record {
  counts : l.counts.items ≡ counts_of l.setup l.realisation;
  going : IsOpen l.pieces (g.F.Files.seen l.files);
  name : l.pieces.name ≡ l.initial.pieces.name;
  put : HasPut l.pieces (g.F.Files.seen l.files) (file_text l.parameters (realisations_to l.setup l.realisation));
  uncounted : NoWriteFailed (g.F.Files.seen l.initial.files) (g.F.Files.seen l.files);
  only : OnlyWrites l.initial.pieces.name (g.F.Files.seen l.initial.files) (g.F.Files.seen l.files);
  ready : g.R.LevelRunner.ready l.runner;
}
