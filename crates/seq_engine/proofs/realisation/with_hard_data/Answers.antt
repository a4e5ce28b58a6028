use Rattle.std.proofs.Common.{arith, ◌≡◌, ◌∙◌, ◌+◌, ◌<◌, ap, sym, subst, length, set, is_some, true, false}
use Rattle.std.proofs.lemmas.List.{length-set}
use Rattle.mp_base.specs.Grid.{Field, field, cells_of}
use Rattle.event_retrieve.proofs.Fronts.{some_value, none_value}
use Rattle.seq_engine.proofs.Cover.{CoveredTo, covered_none, covered_some, covered_same, covered_all}
use Rattle.seq_engine.proofs.realisation.with_hard_data.Goals as goal
use Rattle.seq_engine.proofs.realisation.with_hard_data.Goals.{then-is_some, else-is_some}

pub loop-number-init : goal.loop-number-init
loop-number-init c = record { sides = c.requires; count = c.shape.ensures.grid.count ∙ ap cells_of c.requires; covered = covered_none c.args.hard.now c.args.values }

pub loop-number-preserved : goal.loop-number-preserved
loop-number-preserved c =
    let hard = c.args.hard.now in
    let n = c.loop-number.number in
    let cells = c.loop-number.values.cells in
    let datum = c.get-datum.result in
    let given = c.loop-number.invariant in
    let within : n < length cells = omega (arith, given.count, c.loop-number-test.true, c.cells-number-end.ensures.count, ap cells_of c.shape.ensures.sides, ap cells_of c.requires) in
    elim c.if-is_some.branch [
      | then-is_some w ↦
          let is : c.if-is_some.values ≡ field c.loop-number.values.sides (set cells n datum) = w.values-is ∙ w.set.ensures in
          let some : is_some datum ≡ true = sym c.is_some.ensures ∙ w.if-is_some.true in
          record {
            sides = ap (λ (f : Field). f.sides) is ∙ given.sides;
            count = ap (λ (f : Field). length f.cells) is ∙ length-set cells n datum ∙ given.count;
            covered =
                let told = some_value datum some in
                subst (λ (f : Field). CoveredTo hard c.args.values (n + 1) f.cells) (sym is) (covered_some hard c.args.values n cells datum told.0 given.covered told.1 c.get-datum.ensures.value within);
          }
      | else-is_some w ↦
          let none : is_some datum ≡ false = sym c.is_some.ensures ∙ w.if-is_some.false in
          record {
            sides = ap (λ (f : Field). f.sides) w.values-is ∙ given.sides;
            count = ap (λ (f : Field). length f.cells) w.values-is ∙ given.count;
            covered = subst (λ (f : Field). CoveredTo hard c.args.values (n + 1) f.cells) (sym w.values-is) (covered_same hard c.args.values n cells given.covered (sym c.get-datum.ensures.value ∙ none_value datum none));
          }
    ]

pub returns : goal.returns
returns c =
    let given = c.loop-number.invariant in
    let cells = covered_all c.args.hard.now c.args.values (cells_of c.args.hard.now.sides) c.loop-number.number c.loop-number.values.cells given.covered given.count
    (omega (arith, c.loop-number-test.false, c.cells-number-end.ensures.count, ap cells_of c.shape.ensures.sides, ap cells_of c.requires)) in
    λ i. field (given.sides i) (cells i)
