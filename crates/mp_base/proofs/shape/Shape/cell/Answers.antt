use Rattle.std.proofs.Common.{arith}
use Rattle.mp_base.proofs.Numbers.{read_number-below, cells-fit}
use Rattle.mp_base.proofs.shape.Shape.cell.Goals as goal

pub overflow_mul-result-2 : goal.overflow_mul-result-2
overflow_mul-result-2 c =
    omega (
      arith,
      read_number-below _ _ c.args.x c.args.y c.args.z c.self.view_is c.requires.x c.requires.y c.requires.z,
      cells-fit _ _ c.self.view_is c.self.invariant,
    )

pub overflow_add-result-2 : goal.overflow_add-result-2
overflow_add-result-2 c =
    omega (
      arith,
      read_number-below _ _ c.args.x c.args.y c.args.z c.self.view_is c.requires.x c.requires.y c.requires.z,
      cells-fit _ _ c.self.view_is c.self.invariant,
    )

pub returns-clause-inside : goal.returns-clause-inside
returns-clause-inside c = omega (arith, read_number-below _ _ c.args.x c.args.y c.args.z c.self.view_is c.requires.x c.requires.y c.requires.z)
