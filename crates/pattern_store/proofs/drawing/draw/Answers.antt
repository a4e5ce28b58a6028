use Rattle.std.proofs.Common.{◌≡◌, ◌<◌, ◌∙◌, ap, length, refl, slice_index, arith}
use Rattle.pattern_store.specs.Levels.{around}
use Rattle.pattern_store.proofs.Bitwise.{adds_as, drawn_more, nothing_drawn, shown_around, word_fits_as}
use Rattle.pattern_store.proofs.Source.{around-small}
use Rattle.pattern_store.proofs.drawing.draw.Goals as goal

pub loop-position-preserved : goal.loop-position-preserved
loop-position-preserved c =
    let s = c.args.eroded.now in
    let reach : c.len-reach.result ≡ length s.template = c.len-reach.ensures.len ∙ ap length c.template.ensures in
    let short : c.loop-position.position < length s.template = omega (arith, reach, c.loop-position-test.true) in
    let cells = c.args.cells.now in
    let places = c.args.places.now in
    let shown = c.read_around.new.shown in
    record {
      shown = omega (arith, c.read_around.ensures.count, c.requires.same);
      count = c.mark_shown.ensures.count ∙ c.loop-position.invariant.count;
      drawn = drawn_more (around s cells) (slice_index places) (length places) (length s.template) s.cats c.loop-position.position c.loop-position.words c.mark_shown.new.words shown short
          (λ i q within low. around-small s c.positions.ensures.source cells i q (c.requires.cells.eroded i (omega (arith, c.requires.places))) (omega arith))
          (λ i within. shown_around s c.loop-position.position cells shown c.read_around.ensures i (omega (arith, c.requires.places)))
          c.loop-position.invariant.drawn
          (adds_as (slice_index places) (slice_index shown) c.loop-position.position c.loop-position.words c.mark_shown.new.words c.len-reach.result (length s.template) c.cats-cats.result s.cats (length places) reach c.cats-cats.ensures c.mark_shown.ensures);
    }

pub loop-position-init : goal.loop-position-init
loop-position-init c = record {
  shown = refl;
  count = refl;
  drawn = nothing_drawn (around c.args.eroded.now c.args.cells.now) (slice_index c.args.places.now) (length c.args.places.now) (length c.args.eroded.now.template) c.args.eroded.now.cats c.args.words.now c.requires.clear;
}

pub mark_shown-requires-clause-shown : goal.mark_shown-requires-clause-shown
mark_shown-requires-clause-shown c = λ i within.
    let s = c.args.eroded.now in
    let reach : c.len-reach.result ≡ length s.template = c.len-reach.ensures.len ∙ ap length c.template.ensures in
    let inside : i < length c.args.cells.now = omega (arith, c.requires.places) in
    omega (
      arith,
      shown_around s c.loop-position.position c.args.cells.now c.read_around.new.shown c.read_around.ensures i inside,
      around-small s c.positions.ensures.source c.args.cells.now i c.loop-position.position (c.requires.cells.eroded i inside) (omega (arith, reach, c.loop-position-test.true)),
      c.cats-cats.ensures,
    )

pub mark_shown-requires-clause-words : goal.mark_shown-requires-clause-words
mark_shown-requires-clause-words c = λ i within.
    let s = c.args.eroded.now in
    let reach : c.len-reach.result ≡ length s.template = c.len-reach.ensures.len ∙ ap length c.template.ensures in
    let inside : i < length c.args.cells.now = omega (arith, c.requires.places) in
    word_fits_as (slice_index c.args.places.now i) c.loop-position.position (slice_index c.read_around.new.shown i) c.len-reach.result (length s.template) c.cats-cats.result s.cats (length c.args.words.now) c.loop-position.words reach c.cats-cats.ensures c.loop-position.invariant.count (c.requires.room i within) c.loop-position-test.true
    (omega (
      arith,
      shown_around s c.loop-position.position c.args.cells.now c.read_around.new.shown c.read_around.ensures i inside,
      around-small s c.positions.ensures.source c.args.cells.now i c.loop-position.position (c.requires.cells.eroded i inside) (omega (arith, reach, c.loop-position-test.true)),
      c.cats-cats.ensures,
    ))
