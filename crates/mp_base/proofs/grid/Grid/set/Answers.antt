use Rattle.mp_base.proofs.Bytes.{set_cell}
use Rattle.mp_base.proofs.grid.Grid.set.Goals as goal

pub returns : goal.returns
returns c = set_cell c.self.inside.shape c.self.inside.bytes.items c.args.self.now _ _ _ _ c.self.view_is c.cell.view_is c.byte_of.ensures
