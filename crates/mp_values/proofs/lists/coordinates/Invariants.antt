use Rattle.std.proofs.Common.{◌≡◌, ◌+◌, ◌≤◌, true, length}
use Rattle.std.specs.List.{list_all}
use Rattle.mp_text.specs.Fields.{fields_of}
use Rattle.mp_values.specs.Values.{all_read, is_coordinate, coordinate_of}
use Rattle.mp_values.proofs.Gathered.{behind}
use Rattle.mp_values.proofs.lists.coordinates.Given as goal

abbrev pub invariant-loop-field : goal.invariant-loop-field
invariant-loop-field l = record {
  reads : all_read coordinate_of (fields_of l.text) ≡ behind l.coordinates.items (all_read coordinate_of (fields_of l.rest));
  count : length (fields_of l.text) ≡ length l.coordinates.items + length (fields_of l.rest);
  few : length l.coordinates.items ≤ 8;
  all : list_all is_coordinate l.coordinates.items ≡ true;
}

abbrev pub decreases-loop-field : goal.decreases-loop-field
decreases-loop-field l = length l.rest
