use Rattle.std.proofs.Common.{arith, ◌≡◌, ◌+◌, ◌∙◌, ap, sym}
use Rattle.std.specs.List.{count_by, range_with_len}
use Rattle.mp_base.specs.Grid.{Field, cells_of}
use Rattle.ti_scan.specs.Eroded.{is_eroded}
use Rattle.ti_scan.proofs.Whole.{length-positions, count-le, counts_more}
use Rattle.ti_scan.proofs.eroded.count_positions.Goals as goal

pub overflow_add-count : goal.overflow_add-count
overflow_add-count c =
    let p = is_eroded c.ground_of-ground.result.image.now c.ground_of-ground.result.vectors.now in
    let first = c.ground_of-ground.result.span.first in
    omega (
      arith,
      counts_more p first c.loop-start.start c.min-len.result c.loop-start.count c.count_block-count.result c.loop-start.invariant.count c.count_block-count.ensures,
      count-le p first (c.loop-start.start + c.min-len.result),
      c.ground_of-ground.result.inside.span.within,
      ap (λ (f : Field). cells_of f.sides) c.ground_of-ground.ensures.image,
      c.shape.ensures.grid.shape.fits,
      c.min-len.ensures,
    )

pub loop-start-preserved : goal.loop-start-preserved
loop-start-preserved c =
    let p = is_eroded c.ground_of-ground.result.image.now c.ground_of-ground.result.vectors.now in
    record {
      within = omega (arith, c.min-len.ensures);
      count = counts_more p c.ground_of-ground.result.span.first c.loop-start.start c.min-len.result c.loop-start.count c.count_block-count.result c.loop-start.invariant.count c.count_block-count.ensures;
    }

pub returns-clause-count : goal.returns-clause-count
returns-clause-count c =
    let whole : c.loop-start.start ≡ c.ground_of-ground.result.span.cells = omega arith in
    let first = c.ground_of-ground.result.span.first in
    let template = c.vectors.ensures.vectors in
    let counted = c.loop-start.invariant.count ∙ ap (λ n. count_by (is_eroded c.ground_of-ground.result.image.now c.ground_of-ground.result.vectors.now) (range_with_len first n)) whole in
    let span = rw (c.ground_of-ground.ensures.image, c.ground_of-ground.ensures.vectors) at c.ground_of-ground.result.inside.span in
    let of_args = rw (c.ground_of-ground.ensures.image, c.ground_of-ground.ensures.vectors) at counted in
    rw (← template) (of_args ∙ sym (length-positions c.args.image.now c.vectors.result.now first c.ground_of-ground.result.span.cells span))

pub returns-clause-few : goal.returns-clause-few
returns-clause-few c =
    let p = is_eroded c.ground_of-ground.result.image.now c.ground_of-ground.result.vectors.now in
    omega (
      arith,
      c.loop-start.invariant.count,
      count-le p c.ground_of-ground.result.span.first c.loop-start.start,
      c.ground_of-ground.result.inside.span.within,
      ap (λ (f : Field). cells_of f.sides) c.ground_of-ground.ensures.image,
      c.shape.ensures.grid.shape.fits,
    )
