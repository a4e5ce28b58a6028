use Rattle.std.proofs.Common.{◌≡◌, ◌∷◌, map, take}
use Rattle.shared_grid.specs.Rule.{word_of}
use Rattle.shared_grid.proofs.words.words_of.Given as goal

abbrev pub invariant-loop-number : goal.invariant-loop-number
invariant-loop-number l = l.words.items ≡ 0 ∷ map word_of (take l.number l.start.cells)
