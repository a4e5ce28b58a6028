use Rattle.std.proofs.Common.{arith, ◌≡◌, ◌∙◌, ap, map, filter}
use Rattle.std.specs.List.{range_with_len}
use Rattle.mp_base.specs.Grid.{category_of}
use Rattle.ti_scan.specs.Eroded.{is_eroded}
use Rattle.ti_scan.specs.Window.{centre_in}
use Rattle.ti_scan.proofs.Whole.{filters_more, maps_more, scanned}
use Rattle.ti_scan.proofs.eroded.Eroded.new.Goals as goal

pub loop-start-preserved : goal.loop-start-preserved
loop-start-preserved c =
    let image = c.ground_of-ground.result.image.now in
    let template = c.ground_of-ground.result.vectors.now in
    let first = c.ground_of-ground.result.span.first in
    record {
      within = omega (arith, c.min-len.ensures);
      positions = filters_more (is_eroded image template) first c.loop-start.start c.min-len.result c.loop-start.positions.items c.push_block.new.positions.items c.loop-start.invariant.positions c.in_ok-push_block.ensures.positions;
      centres = maps_more (centre_in image template) first c.loop-start.start c.min-len.result (map category_of c.loop-start.centres.items) (map category_of c.push_block.new.centres.items) c.loop-start.invariant.centres c.in_ok-push_block.ensures.centres;
    }

pub invariant_of-result : goal.invariant_of-result
invariant_of-result c =
    let whole : c.loop-start.start ≡ c.ground_of-ground.result.span.cells = omega arith in
    let first = c.ground_of-ground.result.span.first in
    let positions = c.loop-start.invariant.positions ∙ ap (λ n. filter (is_eroded c.ground_of-ground.result.image.now c.ground_of-ground.result.vectors.now) (range_with_len first n)) whole in
    let centres = c.loop-start.invariant.centres ∙ ap (λ n. map (centre_in c.ground_of-ground.result.image.now c.ground_of-ground.result.vectors.now) (range_with_len first n)) whole in
    let template = c.vectors.ensures.vectors in
    scanned (record { image = c.args.image.now; template = c.args.template.now.vectors; cats = c.args.cats }) c.ground_of-ground.result.margins c.loop-start.positions.items first c.ground_of-ground.result.span.cells c.loop-start.centres.items
    (record {
      image = c.shape.ensures.grid;
      short = rw (← template) (rw template c.vectors.ensures.template.few);
      cats_some = c.requires.cats_some;
      cats_few = c.requires.cats_few;
      below = c.requires.below;
    })
    (rw (← template) (rw (c.ground_of-ground.ensures.image, c.ground_of-ground.ensures.vectors) at c.ground_of-ground.result.inside))
    (rw (← template) (rw (c.ground_of-ground.ensures.image, c.ground_of-ground.ensures.vectors) at positions))
    (rw (← template) (rw (c.ground_of-ground.ensures.image, c.ground_of-ground.ensures.vectors) at centres))
