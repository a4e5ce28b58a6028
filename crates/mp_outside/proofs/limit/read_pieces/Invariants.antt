use Rattle.std.proofs.Common.{◌≡◌, ◌+◌, ◌-◌, ◌≤◌, [], length, take}
use Rattle.std.specs.Bool.{IsTrue}
use Rattle.std.specs.Option.{MatchOption}
use Rattle.mp_outside.specs.Seen.{OnlyReads, NoReadFailed}
use Rattle.mp_outside.proofs.limit.read_pieces.Given as goal

abbrev pub invariant-loop-bytes : goal.invariant-loop-bytes
invariant-loop-bytes g l = record {
  size : length l.bytes.items ≤ l.limit + 1;
  uncounted : NoReadFailed (g.F.Files.seen l.initial.files) (g.F.Files.seen l.files);
  only : OnlyReads (g.F.Files.seen l.initial.files) (g.F.Files.seen l.files);
  front : IsTrue (g.F.Files.seen l.initial.files).tells → MatchOption ((g.F.Files.seen l.initial.files).held l.name) (l.bytes.items ≡ []) (λ bs. l.bytes.items ≡ take (length l.bytes.items) bs);
}

abbrev pub decreases-loop-bytes : goal.decreases-loop-bytes
decreases-loop-bytes g l = l.limit + 1 - length l.bytes.items
