use Rattle.std.proofs.Common.{arith, ◌≡◌, ◌<◌, ◌∙◌, sym, ap, take, length, None, Some}
use Rattle.std.proofs.lemmas.List.{length-take}
use Rattle.mp_base.specs.Grid.{cat_of, cells_of}
use Rattle.mp_base.specs.Counts.{one_more}
use Rattle.mp_base.proofs.Tallies.{tally_none, length-tally, tally-le-length, tally_take_some, tally_take_none, cat_of-below, below_if_some}
use Rattle.mp_base.proofs.grid.Grid.counts.Goals as goal
use Rattle.mp_base.proofs.grid.Grid.counts.Goals.{in-Some, in_default}

pub loop-number-init : goal.loop-number-init
loop-number-init c = c.zero-counts.ensures ∙ sym (tally_none (λ v. v) c.args.cats)

pub add_one-requires-clause-cat : goal.add_one-requires-clause-cat
add_one-requires-clause-cat c =
    let below = below_if_some c.args.cats _ c.in-Some.cat (cat_of-below c.args.cats c.args.self.now.cells c.loop-number.number c.requires.below) (sym c.get.ensures.value ∙ c.in-Some.is) in
    rw (c.loop-number.invariant, length-tally (λ v. v) c.args.cats (take c.loop-number.number c.args.self.now.cells)) below

pub add_one-requires-clause-room : goal.add_one-requires-clause-room
add_one-requires-clause-room c =
    let below = below_if_some c.args.cats _ c.in-Some.cat (cat_of-below c.args.cats c.args.self.now.cells c.loop-number.number c.requires.below) (sym c.get.ensures.value ∙ c.in-Some.is) in
    rw c.loop-number.invariant
    (omega (
      arith,
      tally-le-length (λ v. v) c.args.cats (take c.loop-number.number c.args.self.now.cells) c.in-Some.cat below,
      length-take c.loop-number.number c.args.self.now.cells,
      c.shape.ensures.grid.count,
      c.shape.ensures.grid.shape.fits,
    ))

pub loop-number-preserved : goal.loop-number-preserved
loop-number-preserved c =
    let cells = c.args.self.now.cells in
    let n = c.args.cats in
    let i = c.loop-number.number in
    let within : i < length cells = omega (arith, c.loop-number-test.true, c.cells-number-end.ensures.count, ap cells_of c.shape.ensures.sides, c.shape.ensures.grid.count) in
    elim c.match-get.branch [
      | in-Some w ↦
          let at : cat_of cells i ≡ Some w.in-Some.cat = sym c.get.ensures.value ∙ w.in-Some.is in
          let below = below_if_some n _ w.in-Some.cat (cat_of-below n cells i c.requires.below) at in
          w.counts-is ∙ w.add_one.ensures ∙ ap (λ t. one_more t w.in-Some.cat) c.loop-number.invariant ∙ sym (tally_take_some n cells i w.in-Some.cat within at below)
      | in_default w ↦
          let at : cat_of cells i ≡ None = sym c.get.ensures.value ∙ w.in_default.is in
          w.counts-is ∙ c.loop-number.invariant ∙ sym (tally_take_none n cells i within at)
    ]
