use Rattle.std.proofs.Common.{◌≡◌, ◌<◌, ◌+◌, ◌++◌, ◌∷◌, [], sym, ◌∙◌, ap, ℕ, List, length, map, take, get_or, Some, arith}
use Rattle.std.specs.List.{range_with_len}
use Rattle.std.proofs.Math.Seq.{take-length}
use Rattle.std.proofs.lemmas.List.{length-set, take_more_set}
use Rattle.std.proofs.lemmas.List.FromFn.{get_or-map-range_with_len, length-map-range_with_len, map-range_with_len_more}
use Rattle.mp_base.specs.Grid.{Field, Sides, cells_of, field, x_of, y_of}
use Rattle.mps_demo.specs.Image.{category_in, category_of_cell, centres_at, image_of, image_sides}
use Rattle.mps_demo.proofs.image.image_of.Goals as goal

pub index-requires : goal.index-requires
index-requires c =
    let shape = ap (λ (s : Sides). s.nx) c.image_shape-in-loop-number.ensures in
    let columns = ap length c.in_ok-columns.ensures ∙ length-map-range_with_len (centres_at c.args.channels.now) 0 image_sides.nx in
    omega (arith, shape, columns, c.place-x.ensures.inside.0)

pub loop-number-preserved : goal.loop-number-preserved
loop-number-preserved c =
    let channels = c.args.channels.now in
    let cells = c.loop-number.image.cells in
    let n = c.loop-number.number in
    let given = c.loop-number.invariant in
    let in_cells : n < length cells = omega (arith, given.count, c.cells-number-end.ensures.count, ap cells_of c.image_shape-2.ensures, c.loop-number-test.true) in
    let shape = c.image_shape-in-loop-number.ensures in
    let column = c.place-x.result.0 in
    let x : column ≡ x_of image_sides n = c.place-x.ensures.x ∙ ap (λ (s : Sides). x_of s n) shape in
    let y : c.place-x.result.1 ≡ y_of image_sides n = c.place-x.ensures.y ∙ ap (λ (s : Sides). y_of s n) shape in
    let within : column < image_sides.nx = omega (arith, ap (λ (s : Sides). s.nx) shape, c.place-x.ensures.inside.0) in
    let centres : c.index.result.now ≡ centres_at channels (x_of image_sides n) =
    c.index.ensures
    ∙ ap (λ (items : List (List ℕ)). get_or items column c.index.result.now) c.in_ok-columns.ensures
    ∙ get_or-map-range_with_len (centres_at channels) 0 image_sides.nx column column c.index.result.now within (omega arith)
    ∙ ap (centres_at channels) x in
    let value : c.category.result ≡ category_of_cell channels n = c.category.ensures ∙ (λ i. category_in (centres i) (y i)) in
    record {
      sides = ap (λ (g : Field). g.sides) c.set.ensures ∙ given.sides;
      count = ap (λ (g : Field). length g.cells) c.set.ensures ∙ length-set cells n (Some c.category.result) ∙ given.count;
      front =
          ap (λ (g : Field). take (n + 1) g.cells) c.set.ensures
          ∙ take_more_set cells n (Some c.category.result) in_cells
          ∙ (λ i. given.front i ++ Some (value i) ∷ [])
          ∙ sym (map-range_with_len_more (λ cell. Some (category_of_cell channels cell)) 0 n n (omega arith));
    }

pub returns : goal.returns
unfolding image_of
returns c =
    let channels = c.args.channels.now in
    let cells = c.loop-number.image.cells in
    let given = c.loop-number.invariant in
    let all : c.loop-number.number ≡ length cells = omega (arith, given.count, c.cells-number-end.ensures.count, ap cells_of c.image_shape-2.ensures, c.loop-number-test.false, c.loop-number.auto.number-end) in
    let made : cells ≡ map (λ cell. Some (category_of_cell channels cell)) (range_with_len 0 (cells_of image_sides)) =
    sym (take-length cells)
    ∙ ap (λ n. take n cells) (sym all)
    ∙ given.front
    ∙ ap (λ n. map (λ cell. Some (category_of_cell channels cell)) (range_with_len 0 n)) (all ∙ given.count) in
    λ i. field (given.sides i) (made i)
