use Rattle.std.proofs.Common.{◌≡◌, ◌≢◌, ◌+◌, ◌-◌, ◌<◌, ◌∙◌, ap, sym, subst, ℕ, Some, true, get_or, set, below_more, arith}
use Rattle.std.proofs.lemmas.Grind.{get_or_default_zero}
use Rattle.std.proofs.lemmas.List.{get_or-set_other, get_or-set_same, length-set}
use Rattle.mp_base.specs.Grid.{cells_of}
use Rattle.ti_scan.specs.Eroded.{is_eroded}
use Rattle.ti_scan.specs.Event.{cat_around}
use Rattle.pattern_store.proofs.Reading.{around-below, around_fits, around_reads}
use Rattle.pattern_store.proofs.filling.read_moved.Goals as goal

pub overflow_sub-shown : goal.overflow_sub-shown
overflow_sub-shown c =
    let s = c.args.eroded.now in
    let cells = c.args.cells.now in
    let cell = c.index-cells-i.result in
    let first : get_or cells c.loop-i.i 0 ≡ cell = sym (get_or_default_zero cells c.loop-i.i cell c.loop-i-test.true) ∙ sym c.index-cells-i.is in
    let below = subst (λ (k : ℕ). k < cells_of s.image.sides) first (c.requires.cells.inside c.loop-i.i c.loop-i-test.true) in
    let there = subst (λ (k : ℕ). is_eroded s.image s.template k ≡ true) first (c.requires.cells.eroded c.loop-i.i c.loop-i-test.true) in
    omega (arith, c.cell.view_is, around_fits s c.positions.ensures.source.image.shape c.args.position c.args.from c.args.to cell c.requires.first c.requires.last c.requires.moved below there)

pub bounds-bytes-cell-inside : goal.bounds-bytes-cell-inside
bounds-bytes-cell-inside c =
    let s = c.args.eroded.now in
    let cells = c.args.cells.now in
    let cell = c.index-cells-i.result in
    let first : get_or cells c.loop-i.i 0 ≡ cell = sym (get_or_default_zero cells c.loop-i.i cell c.loop-i-test.true) ∙ sym c.index-cells-i.is in
    let below = subst (λ (k : ℕ). k < cells_of s.image.sides) first (c.requires.cells.inside c.loop-i.i c.loop-i-test.true) in
    let there = subst (λ (k : ℕ). is_eroded s.image s.template k ≡ true) first (c.requires.cells.eroded c.loop-i.i c.loop-i-test.true) in
    let count = rw c.image.ensures at c.as_bytes-bytes.ensures.count in
    omega (arith, c.cell.view_is, count, around-below s c.positions.ensures.source.image.shape c.args.position c.args.from c.args.to cell c.requires.first c.requires.last c.requires.moved below there)

pub loop-i-preserved : goal.loop-i-preserved
loop-i-preserved c =
    let s = c.args.eroded.now in
    let cells = c.args.cells.now in
    let bytes = c.as_bytes-bytes.result.now in
    let cell = c.index-cells-i.result in
    let i = c.loop-i.i in
    let shown = c.loop-i.shown in
    let value = get_or bytes (c.cell.inside.0 + c.args.to - c.args.from) 0 in
    let same = rw c.image.ensures at c.as_bytes-bytes.ensures.cells in
    let count = rw c.image.ensures at c.as_bytes-bytes.ensures.count in
    let first : get_or cells i 0 ≡ cell = sym (get_or_default_zero cells i cell c.loop-i-test.true) ∙ sym c.index-cells-i.is in
    let below = subst (λ (k : ℕ). k < cells_of s.image.sides) first (c.requires.cells.inside i c.loop-i-test.true) in
    let there = subst (λ (k : ℕ). is_eroded s.image s.template k ≡ true) first (c.requires.cells.eroded i c.loop-i-test.true) in
    let reads = around_reads s c.positions.ensures.source.image.shape c.args.position c.args.from c.args.to cell c.requires.first c.requires.last c.requires.moved below there bytes same count in
    record {
      count = length-set shown i value ∙ c.loop-i.invariant.count;
      each =
          below_more (λ (j : ℕ). cat_around s (get_or cells j 0) c.args.position ≡ Some (get_or (set shown i value) j 0)) i
          (λ j earlier. let other : j ≢ i = omega arith in c.loop-i.invariant.each j earlier ∙ ap Some (sym (get_or-set_other shown i j value 0 other)))
          (ap (λ (k : ℕ). cat_around s k c.args.position) first ∙ reads ∙ ap (λ (k : ℕ). Some (get_or bytes (k + c.args.to - c.args.from) 0)) (sym c.cell.view_is) ∙ ap Some (sym (get_or-set_same shown i value 0 (omega (arith, c.loop-i.invariant.count, c.loop-i-test.true)))));
    }
