use Rattle.std.proofs.Common.{◌≡◌, ◌++◌, ◌∷◌, [], ap, sym, ◌∙◌, subst, List, length, eqb, ◌<◌, ◌^◌}
use Rattle.std.proofs.lemmas.Bool.{eqb-true}
use Rattle.gslib_grid.specs.declared.row.Row.{Row}
use Rattle.gslib_grid.specs.declared.held.BareRow.{BareRow}
use Rattle.gslib_grid.specs.declared.held.PointRow.{PointRow}
use Rattle.gslib_grid.specs.Held.{rows_held}
use Rattle.gslib_grid.specs.Rows.{AreRows}
use Rattle.gslib_grid.proofs.HeldRows.{bare_of, bare_push, point_push, rows_push}
use Rattle.gslib_grid.proofs.row.Rows.push.Goals as goal

pub invariant_of-self-then-not-has_coordinate : goal.invariant_of-self-then-not-has_coordinate
invariant_of-self-then-not-has_coordinate c =
    let bare = c.self.inside.bare.items in
    let points = c.self.inside.points.items in
    let row = c.args.row in
    let held : BareRow = record { line = row.line; cat = row.cat } in
    let none = eqb-true (length points) 0 (ap (λ k. eqb k 0) (sym c.self.inside.points.ok.0) ∙ sym c.is_empty.ensures ∙ c.if-is_empty.true) in
    let few = subst (λ (rows : List Row). length rows < 2 ^ 28) (sym c.self.view_is) c.requires.few in
    subst AreRows (sym (ap (λ (rows : List BareRow). rows_held rows points) c.in_ok-push_bare.ensures.ok ∙ bare_push bare points held row none (bare_of row (sym c.has_coordinate.ensures ∙ c.if-not-has_coordinate.true))))
    (rows_push (rows_held bare points) row c.self.invariant few c.requires.below)

pub invariant_of-self-2 : goal.invariant_of-self-2
invariant_of-self-2 c =
    let bare = c.self.inside.bare.items in
    let points = c.self.inside.points.items in
    let held = c.of.result in
    let new : c.extend_from_slice.new.self.items ≡ points ++ held ∷ [] = c.in_ok-extend_from_slice.ensures.items ∙ ap (λ (rows : List PointRow). points ++ rows) c.from_ref.ensures.value in
    let few = subst (λ (rows : List Row). length rows < 2 ^ 28) (sym c.self.view_is) c.requires.few in
    subst AreRows (sym (ap (λ (rows : List PointRow). rows_held bare rows) new ∙ point_push bare points held c.args.row c.of.ensures))
    (rows_push (rows_held bare points) c.args.row c.self.invariant few c.requires.below)
