use Rattle.std.proofs.Common.{◌≡◌, ◌+◌, ◌≤◌, ◌<◌, ℕ, true, length, get_or}
use Rattle.std.specs.List.{list_all}
use Rattle.mp_text.specs.Fields.{fields_of}
use Rattle.mp_values.specs.Values.{all_read, is_between, number_in}
use Rattle.mp_values.proofs.Gathered.{behind}
use Rattle.mp_values.proofs.lists.numbers_in.Given as goal

abbrev pub invariant-loop-field : goal.invariant-loop-field
invariant-loop-field l = record {
  reads : all_read (number_in l.low l.high) (fields_of l.text) ≡ behind l.numbers.items (all_read (number_in l.low l.high) (fields_of l.rest));
  count : length (fields_of l.text) ≡ length l.numbers.items + length (fields_of l.rest);
  few : length l.numbers.items ≤ 8;
  all : list_all (is_between l.low l.high) l.numbers.items ≡ true;
  range : (k : ℕ) → k < length l.numbers.items → get_or l.numbers.items k 0 ≤ l.high;
}

abbrev pub decreases-loop-field : goal.decreases-loop-field
decreases-loop-field l = length l.rest
