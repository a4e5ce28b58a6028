use Rattle.std.proofs.Common.{ℕ, ◌∙◌, sym, subst, arith}
use Rattle.shared_grid.specs.Reads.{ShowsSince}
use Rattle.shared_grid.proofs.Steps.{cells_as}
use Rattle.shared_grid.proofs.Found.{found_shows}
use Rattle.shared_grid.proofs.Moments.{some_of_story, none_unknown}
use Rattle.shared_grid.proofs.grid.SharedGrid.read.Goals as goal

pub load-word-requires : goal.load-word-requires
load-word-requires g c =
    let s = c.self.invariant in
    let i = c.pass.invariant in (
      i.0 ∙ sym s.0,
      omega (arith, s.1, c.requires, c.cell.view_is),
      cells_as g.N.Naming.plan g.N.Naming.story s.2.is_plan.path s.2.is_log _ _ _ _ _ i.1,
    )

pub returns-clause-moment : goal.returns-clause-moment
returns-clause-moment g c =
    let there = found_shows g.N.Naming.plan g.N.Naming.story _ _ _ c.category_from.result c.load-word.ensures.2.2 c.category_from.ensures in
    subst (λ (x : ℕ × ℕ). ShowsSince g.N.Naming.plan g.N.Naming.story x.0 x.1 c.category_from.result) (λ i. (c.pass.view_is i, c.cell.view_is i)) there

pub returns-clause-some : goal.returns-clause-some
returns-clause-some g c =
    let named = c.self.invariant.2 in
    some_of_story g.N.Naming.plan g.N.Naming.story named.is_plan.path named.is_log c.args.cell c.args.pass.now c.category_from.result (returns-clause-moment g c)

pub returns-clause-none : goal.returns-clause-none
returns-clause-none g c =
    let named = c.self.invariant.2 in
    none_unknown g.N.Naming.plan g.N.Naming.story named.is_plan.path named.is_log c.args.cell c.args.pass.now c.category_from.result (returns-clause-moment g c)
