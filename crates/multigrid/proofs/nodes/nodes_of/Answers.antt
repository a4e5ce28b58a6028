use Rattle.std.proofs.Common.{◌≡◌, ◌<◌, ◌++◌, ℕ, ap, sym, subst, ◌∙◌}
use Rattle.std.specs.Int.{div_ceil}
use Rattle.std.specs.List.{All}
use Rattle.std.specs.List.Sorted.{IsStrictlyIncreasing}
use Rattle.mp_base.specs.Grid.{cells_of}
use Rattle.multigrid.specs.Levels.{nodes_of}
use Rattle.multigrid.specs.Rows.{nodes_of_rows, rows_of_planes}
use Rattle.multigrid.proofs.Stepping.{nodes_are, nodes-rise, nodes-inside}
use Rattle.multigrid.proofs.nodes.nodes_of.Goals as goal

pub returns : goal.returns
returns c =
    let s = c.args.shape in
    let level = c.args.level in
    let rows = λ (m : ℕ). nodes_of_rows s m (rows_of_planes s m (div_ceil s.nz m)) in
    let is : c.push_planes.new.nodes.items ≡ nodes_of s level =
    c.in_ok-push_planes.ensures ∙ ap (λ l. l ++ rows c.spacing.result) c.in_ok-nodes.ensures.items ∙ ap rows c.spacing.ensures.spacing ∙ sym (nodes_are s level) in
    record {
      nodes = is;
      rising = subst IsStrictlyIncreasing (sym is) (nodes-rise s level);
      inside = subst (All (λ k. k < cells_of s)) (sym is) (nodes-inside s level);
    }
