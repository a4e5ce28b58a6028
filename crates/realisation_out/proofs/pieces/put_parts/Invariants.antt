use Rattle.std.proofs.Common.{◌≡◌, ◌<◌, ◌≤◌, ◌+◌, ◌-◌, ◌++◌, ℕ, List, None, length, take}
use Rattle.std.specs.Prelude.{IsSome, IsTrue}
use Rattle.mp_outside.specs.Seen.{NoWriteFailed, OnlyWrites}
use Rattle.realisation_out.specs.Pieces.{IsPut}
use Rattle.realisation_out.proofs.pieces.put_parts.Given as goal

-- the bytes so far are put
abbrev pub invariant-loop-at : goal.invariant-loop-at
invariant-loop-at g l = record {
  within : l.at ≤ length l.bytes;
  short : length l.kept.items < 8192;
  held : IsTrue (g.F.Files.seen l.initial.files).tells → IsSome ((g.F.Files.seen l.files).held l.name);
  put : (text : List ℕ) → IsTrue (g.F.Files.seen l.initial.files).tells → IsPut ((g.F.Files.seen l.initial.files).held l.name) l.initial.kept.items None text → IsPut ((g.F.Files.seen l.files).held l.name) l.kept.items None (text ++ take l.at l.bytes);
  waits : length l.initial.kept.items + l.at < 8192 → l.files ≡ l.initial.files;
  keeps : length l.initial.kept.items + l.at < 8192 → length l.kept.items ≡ length l.initial.kept.items + l.at;
  uncounted : NoWriteFailed (g.F.Files.seen l.initial.files) (g.F.Files.seen l.files);
  only : OnlyWrites l.name (g.F.Files.seen l.initial.files) (g.F.Files.seen l.files);
}

abbrev pub decreases-loop-at : goal.decreases-loop-at
decreases-loop-at g l = length l.bytes - l.at
