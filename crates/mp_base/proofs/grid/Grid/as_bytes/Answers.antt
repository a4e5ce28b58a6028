use Rattle.std.proofs.Common.{subst}
use Rattle.mp_base.specs.Grid.{IsGrid}
use Rattle.mp_base.proofs.Bytes.{is_grid}
use Rattle.mp_base.proofs.grid.Grid.as_bytes.Goals as goal

pub returns-clause-grid : goal.returns-clause-grid
returns-clause-grid c = subst IsGrid c.self.view_is (is_grid _ _ c.self.invariant)
