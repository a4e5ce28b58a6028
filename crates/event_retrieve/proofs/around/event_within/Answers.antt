use Rattle.std.proofs.Common.{arith, ◌≡◌, ◌≤◌, ◌<◌, ◌∙◌, ℕ, ◌+◌, ◌-◌, ◌++◌, ap, sym, subst, take, get_or, pos, length, List, Option, Some, option_and_then, option_to_list}
use Rattle.std.proofs.lemmas.List.{take_all, get_or_read}
use Rattle.mp_base.specs.declared.cell.Vector.{Vector}
use Rattle.mp_base.specs.Grid.{Sides, IsShape, cat_at, cat_of, cell_at, cells_of}
use Rattle.ti_scan.specs.Rising.{RisesFrom, next_position}
use Rattle.event_retrieve.specs.Plan.{data_by, datum_at}
use Rattle.event_retrieve.proofs.AroundLemmas.{further, as_many}
use Rattle.event_retrieve.proofs.Data.{data_by-rises, data_by_more, next_position-data_by}
use Rattle.event_retrieve.proofs.around.event_within.Goals as goal

abbrev zero_vector : Vector
zero_vector = record { dx = pos 0; dy = pos 0; dz = pos 0 }

pub push_found-requires-clause-after : goal.push_found-requires-clause-after
push_found-requires-clause-after c =
    let g = c.args.ground.now in
    let count = as_many g.image.now.sides g.vectors.now g.span.first g.span.cells c.args.cells.now c.args.cell g.inside.span c.requires.cells c.requires.cell c.requires.inside in
    let next = next_position-data_by (λ (_ : ℕ) (v : Vector). cat_at c.args.grid.now c.args.cell v) g.vectors.now c.loop-i.i (omega (arith, count, c.loop-i-test.true)) in
    subst (λ e. next_position e ≤ c.loop-i.i + 1) (sym c.loop-i.invariant) next

pub push_found-requires-clause-last : goal.push_found-requires-clause-last
push_found-requires-clause-last c =
    let g = c.args.ground.now in
    let count = as_many g.image.now.sides g.vectors.now g.span.first g.span.cells c.args.cells.now c.args.cell g.inside.span c.requires.cells c.requires.cell c.requires.inside in
    omega (arith, count, c.loop-i-test.true, c.requires.short)

pub get-requires : goal.get-requires
get-requires c =
    let g = c.args.ground.now in
    let shape : IsShape g.image.now.sides = subst IsShape c.requires.sides c.shape.ensures.grid.shape in
    let far = further g.image.now.sides g.vectors.now g.span.first g.span.cells c.args.cells.now c.args.cell c.loop-i.i zero_vector shape g.inside.span c.requires.cells c.requires.cell c.requires.inside c.loop-i-test.true in
    let first_is : c.first.inside.0 ≡ get_or c.args.cells.now c.loop-i.i 0 =
    c.first.view_is ∙ get_or_read c.args.cells.now c.loop-i.i c.index-cells-i.result c.loop-i-test.true c.index-cells-i.is 0 in
    let cell_is : c.cell.inside.0 ≡ c.args.cell = c.cell.view_is in
    omega (arith, far.inside, first_is, cell_is, ap cells_of c.requires.sides)

pub overflow_add-first-inside : goal.overflow_add-first-inside
overflow_add-first-inside c =
    let g = c.args.ground.now in
    let shape : IsShape g.image.now.sides = subst IsShape c.requires.sides c.shape.ensures.grid.shape in
    let far = further g.image.now.sides g.vectors.now g.span.first g.span.cells c.args.cells.now c.args.cell c.loop-i.i zero_vector shape g.inside.span c.requires.cells c.requires.cell c.requires.inside c.loop-i-test.true in
    let first_is : c.first.inside.0 ≡ get_or c.args.cells.now c.loop-i.i 0 =
    c.first.view_is ∙ get_or_read c.args.cells.now c.loop-i.i c.index-cells-i.result c.loop-i-test.true c.index-cells-i.is 0 in
    let cell_is : c.cell.inside.0 ≡ c.args.cell = c.cell.view_is in
    omega (arith, far.inside, first_is, cell_is, shape.fits)

pub loop-i-preserved : goal.loop-i-preserved
loop-i-preserved c =
    let g = c.args.ground.now in
    let grid = c.args.grid.now in
    let cell = c.args.cell in
    let cells = c.args.cells.now in
    let i = c.loop-i.i in
    let v = get_or g.vectors.now i zero_vector in
    let f : ℕ → Vector → Option ℕ = λ _ w. cat_at grid cell w in
    let shape : IsShape g.image.now.sides = subst IsShape c.requires.sides c.shape.ensures.grid.shape in
    let count = as_many g.image.now.sides g.vectors.now g.span.first g.span.cells cells cell g.inside.span c.requires.cells c.requires.cell c.requires.inside in
    let far = further g.image.now.sides g.vectors.now g.span.first g.span.cells cells cell i zero_vector shape g.inside.span c.requires.cells c.requires.cell c.requires.inside c.loop-i-test.true in
    let first_is : c.first.inside.0 ≡ get_or cells i 0 = c.first.view_is ∙ get_or_read cells i c.index-cells-i.result c.loop-i-test.true c.index-cells-i.is 0 in
    let cell_is : c.cell.inside.0 ≡ cell = c.cell.view_is in
    let number : c.first.inside.0 + (c.cell.inside.0 - g.span.first) ≡ get_or cells i 0 + (cell - g.span.first) =
    ap (λ k. k + (c.cell.inside.0 - g.span.first)) first_is ∙ ap (λ k. get_or cells i 0 + (k - g.span.first)) cell_is in
    let at : cell_at grid.sides cell v ≡ Some (get_or cells i 0 + (cell - g.span.first)) = ap (λ (t : Sides). cell_at t cell v) c.requires.sides ∙ far.is in
    let value : c.get.result ≡ cat_at grid cell v = c.get.ensures.value ∙ ap (cat_of grid.cells) number ∙ sym (ap (option_and_then (cat_of grid.cells)) at) in
    let in_template : i < length g.vectors.now = omega (arith, count, c.loop-i-test.true) in
    c.push_found.ensures ∙ ap (λ e. e ++ option_to_list (datum_at (i + 1) c.get.result)) c.loop-i.invariant
    ∙ ap (λ x. data_by f (take i g.vectors.now) ++ option_to_list (datum_at (i + 1) x)) value ∙ sym (data_by_more f g.vectors.now i zero_vector in_template)

pub returns-clause-data_ : goal.returns-clause-data_
returns-clause-data_ c =
    let g = c.args.ground.now in
    let count = as_many g.image.now.sides g.vectors.now g.span.first g.span.cells c.args.cells.now c.args.cell g.inside.span c.requires.cells c.requires.cell c.requires.inside in
    let all : take c.loop-i.i g.vectors.now ≡ g.vectors.now = take_all c.loop-i.i g.vectors.now (omega (arith, count, c.loop-i-test.false)) in
    c.loop-i.invariant ∙ ap (λ (vs : List Vector). data_by (λ _ v. cat_at c.args.grid.now c.args.cell v) vs) all

pub returns-clause-event : goal.returns-clause-event
returns-clause-event c =
    let g = c.args.ground.now in
    subst (λ e. RisesFrom 1 (length g.vectors.now) e) (sym (returns-clause-data_ c)) (data_by-rises (λ (_ : ℕ) (v : Vector). cat_at c.args.grid.now c.args.cell v) g.vectors.now)
