use Rattle.std.proofs.Common.{◌≡◌, ◌+◌, ◌*◌, map}
use Rattle.std.specs.List.{range_with_len}
use Rattle.mps_demo.specs.Drawn.{place_in}
use Rattle.mps_demo.specs.Wells.{well_of}
use Rattle.mps_demo.proofs.wells.draw_wells.Given as goal

-- the wells so far, each by two words
abbrev pub invariant-loop-number : goal.invariant-loop-number
invariant-loop-number l = record {
  rows : l.rows ≡ map (well_of l.fn.words.seed l.image) (range_with_len 0 l.number);
  words : l.words ≡ place_in l.fn.words.seed (10 + 2 * l.number);
}
