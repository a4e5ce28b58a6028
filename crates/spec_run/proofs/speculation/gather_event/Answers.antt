use Rattle.std.proofs.Common.{arith, ◌<◌, ◌+◌, ◌∙◌, ap, ℕ, List, Option, length}
use Rattle.mp_base.specs.Grid.{cells_of}
use Rattle.event_retrieve.specs.Around.{Around}
use Rattle.event_retrieve.specs.Gather.{Gathering}
use Rattle.spec_run.proofs.Finding.{found_next, found_put, found_read}
use Rattle.spec_run.proofs.speculation.gather_event.Goals as goal

pub centre-centre-requires : goal.centre-centre-requires
centre-centre-requires g c =
    let p = c.args.plan.now in
    let plan = c.length.ensures.plan in
    omega (arith, plan.path.inside c.args.index c.requires.index, plan.start.count, ap (λ (a : Around). cells_of a.sides) c.requires.around, c.cell_of.ensures)

pub loop-value-init : goal.loop-value-init
loop-value-init g c = record {
  index = ap (λ (x : Gathering). x.index) c.new-gather.ensures.empty;
  position = ap (λ (x : Gathering). x.position) c.new-gather.ensures.empty;
  between = c.new-gather.ensures.between c.args.plan.now c.args.pass.now;
}

pub put-requires-clause-wanted : goal.put-requires-clause-wanted
put-requires-clause-wanted g c =
    let p = c.args.plan.now in
    let kept = c.loop-value.invariant in
    let many : c.loop-value.value-index < length p.source.template = omega (arith, c.loop-value-test.true, ap (λ (xs : List (Option ℕ)). length xs) c.deref-value-items.ensures.0, c.values_around-values.ensures.count) in
    let found = found_next p c.args.pass.now c.args.index c.loop-value.value-index c.loop-value.gather c.values_around-values.result.items c.deref-value-items.result.now c.value-item.result
    kept.index kept.position c.deref-value-items.ensures.0 c.loop-value-test.true c.value-item.is c.values_around-values.ensures.found in
    found_put p c.loop-value.gather (omega (arith, kept.position, many)) c.args.pass.now c.value-item.result found

pub loop-value-preserved : goal.loop-value-preserved
loop-value-preserved g c =
    let p = c.args.plan.now in
    let kept = c.loop-value.invariant in
    let many : c.loop-value.value-index < length p.source.template = omega (arith, c.loop-value-test.true, ap (λ (xs : List (Option ℕ)). length xs) c.deref-value-items.ensures.0, c.values_around-values.ensures.count) in
    let found = found_next p c.args.pass.now c.args.index c.loop-value.value-index c.loop-value.gather c.values_around-values.result.items c.deref-value-items.result.now c.value-item.result
    kept.index kept.position c.deref-value-items.ensures.0 c.loop-value-test.true c.value-item.is c.values_around-values.ensures.found in
    record {
      index = ap (λ (x : Gathering). x.index) c.put.ensures.put ∙ kept.index;
      position = ap (λ (x : Gathering). x.position) c.put.ensures.put ∙ ap (λ n. n + 1) kept.position;
      between = c.put.ensures.between c.args.pass.now (omega (arith, c.requires.seen, kept.index)) kept.between
          (found_read p c.loop-value.gather (omega (arith, kept.position, many)) c.args.pass.now c.value-item.result found);
    }

pub returns-clause-done : goal.returns-clause-done
returns-clause-done g c =
    omega (arith, c.loop-value.invariant.position, ap (λ (xs : List (Option ℕ)). length xs) c.deref-value-items.ensures.0, c.values_around-values.ensures.count, c.loop-value-test.false, c.loop-value.auto.value-index-end)
