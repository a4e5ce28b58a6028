-- Shares of categories.
use Rattle.std.proofs.Common.{◌≡◌, ◌≤◌, ◌^◌, ℕ, List, ap, arith}
use Rattle.std.specs.List.{sum}
use Rattle.mp_base.specs.Counts.{tally}
use Rattle.mp_base.specs.Grid.{Field, IsGrid}
use Rattle.mp_base.proofs.Tallies.{sum-tally-le}

-- no category has more cells than a grid may have
pub shares_few : (counts : List ℕ) (g : Field) (cats : ℕ) → IsGrid g → counts ≡ tally (λ v. v) cats g.cells → sum counts ≤ 2 ^ 20
shares_few counts g cats grid is = omega (arith, ap sum is, sum-tally-le (λ v. v) cats g.cells, grid.count, grid.shape.fits)
