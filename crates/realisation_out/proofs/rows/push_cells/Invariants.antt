use Rattle.std.proofs.Common.{◌≡◌, ◌++◌}
use Rattle.std.specs.Prelude.{slice_range}
use Rattle.realisation_out.specs.Text.{rows_text}
use Rattle.realisation_out.proofs.rows.push_cells.Given as goal

abbrev pub invariant-loop-number : goal.invariant-loop-number
invariant-loop-number l = l.to.items ≡ l.initial.to.items ++ rows_text l.codes.categories (slice_range l.grid.cells l.from l.number)
