use Rattle.std.proofs.Common.{◌≡◌, ◌<◌, ℕ, Some, length, slice_index, slice_index_or}
use Rattle.mp_base.specs.declared.cell.Vector.{Vector}
use Rattle.mp_base.specs.Grid.{cell_at}
use Rattle.event_retrieve.proofs.around.cells_from_first.Given as goal

abbrev pub invariant-loop-v : goal.invariant-loop-v
invariant-loop-v l = record {
  count : length l.cells.items ≡ l.v-index;
  each : (i : ℕ) (w : Vector) → i < l.v-index → cell_at l.ground.image.now.sides l.ground.span.first (slice_index_or l.ground.vectors.now i w) ≡ Some (slice_index l.cells.items i);
}
