use Rattle.std.proofs.Common.{◌≡◌, ◌-◌, length}
use Rattle.path_stream.specs.Words.{word_of}
use Rattle.path_stream.specs.Path.{path_of, swapped_down}
use Rattle.path_stream.proofs.order.draw_path.Given as goal

abbrev pub invariant-loop-i : goal.invariant-loop-i
invariant-loop-i l = record {
  len : length l.path.items ≡ length l.nodes;
  cursor : l.cursor ≡ record { seed = l.words.seed; number = l.words.number; place = length l.nodes - l.i };
  rest : swapped_down (word_of l.words.seed l.words.number) (length l.nodes) (l.i - 1) l.path.items ≡ path_of (word_of l.words.seed l.words.number) l.nodes;
}
