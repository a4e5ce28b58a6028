use Rattle.std.proofs.Common.{◌≡◌, ◌-◌, ◌<◌, ◌≤◌, ap, sym, ◌∙◌, Some, List, length, arith, get_or}
use Rattle.std.specs.Prelude.{slice_get}
use Rattle.gslib_grid.specs.declared.row.Row.{Row}
use Rattle.gslib_grid.specs.Held.{rows_held}
use Rattle.gslib_grid.proofs.HeldRows.{bare_at, none_at, point_at, row_below}
use Rattle.gslib_grid.proofs.row.Rows.get.Goals as goal
use Rattle.gslib_grid.proofs.row.Rows.get.Goals.{After-row, After-row-2}

-- the row that is found
found_bare : (c : After-row) → Some c.row.result ≡ slice_get (rows_held c.self.inside.bare.items c.self.inside.points.items) c.args.number
found_bare c =
    let inside : c.args.number < length c.self.inside.bare.items = omega (arith, c.if-number-len.true, c.len.ensures, c.self.inside.bare.ok.0) in
    ap Some c.row.ensures ∙ sym (bare_at c.self.inside.bare.items c.self.inside.points.items c.args.number c.index.result.now inside c.index.ensures)

found_point : (c : After-row-2) → Some c.row-2.result ≡ slice_get (rows_held c.self.inside.bare.items c.self.inside.points.items) c.args.number
found_point c =
    let bare = c.self.inside.bare.items in
    let points = c.self.inside.points.items in
    let number = c.args.number in
    let count : c.len-2.result ≡ length bare = c.len-2.ensures ∙ c.self.inside.bare.ok.0 in
    let behind : length bare ≤ number = omega (arith, c.if-number-len.false, c.len.ensures, c.self.inside.bare.ok.0) in
    let at = c.in_ok-held.ensures.lookup.3 in
    let inside : number - length bare < length points = omega (arith, at.0, count, ap length c.deref.ensures.value) in
    let is : c.in_ok-held.held.now ≡ get_or points (number - length bare) c.in_ok-held.held.now =
    at.1 c.in_ok-held.held.now ∙ (λ i. get_or (c.deref.ensures.value i) (number - count i) c.in_ok-held.held.now) in
    ap Some c.row-2.ensures ∙ sym (point_at bare points number c.in_ok-held.held.now behind inside is)

pub returns-then-number-len-clause-row : goal.returns-then-number-len-clause-row
returns-then-number-len-clause-row c = found_bare c ∙ ap (λ (rows : List Row). slice_get rows c.args.number) c.self.view_is

pub returns-then-number-len-clause-below : goal.returns-then-number-len-clause-below
returns-then-number-len-clause-below c = row_below (rows_held c.self.inside.bare.items c.self.inside.points.items) c.args.number c.row.result c.self.invariant (sym (found_bare c))

pub returns-in_err-held-clause-row : goal.returns-in_err-held-clause-row
returns-in_err-held-clause-row c =
    let bare = c.self.inside.bare.items in
    let points = c.self.inside.points.items in
    let number = c.args.number in
    let count : c.len-2.result ≡ length bare = c.len-2.ensures ∙ c.self.inside.bare.ok.0 in
    let behind : length bare ≤ number = omega (arith, c.if-number-len.false, c.len.ensures, c.self.inside.bare.ok.0) in
    let past : length points ≤ number - length bare = omega (arith, c.in_err-held.ensures.lookup.3, count, ap length c.deref.ensures.value) in
    c.from_residual.ensures ∙ sym (none_at bare points number behind past) ∙ ap (λ (rows : List Row). slice_get rows number) c.self.view_is

pub returns-clause-row : goal.returns-clause-row
returns-clause-row c = found_point c ∙ ap (λ (rows : List Row). slice_get rows c.args.number) c.self.view_is

pub returns-clause-below : goal.returns-clause-below
returns-clause-below c = row_below (rows_held c.self.inside.bare.items c.self.inside.points.items) c.args.number c.row-2.result c.self.invariant (sym (found_point c))
