use Rattle.std.proofs.Common.{arith, ◌≡◌, ◌∙◌, ap, sym, Some}
use Rattle.mp_base.specs.declared.cell.Vector.{Vector}
use Rattle.event_retrieve.specs.Around.{vector_between}
use Rattle.event_retrieve.specs.Plan.{cell_of}
use Rattle.event_retrieve.proofs.Vectors.{position_of_vector}
use Rattle.event_retrieve.proofs.known.position_of_cell.Goals as goal

pub returns : goal.returns
returns c = λ q.
    let p = c.args.plan.now in
    let plan = c.length.ensures.plan in
    let sides : c.shape.result ≡ p.start.sides = c.shape.ensures.sides ∙ ap (λ g. g.sides) c.start.ensures.start in
    let vector : c.vector_between-vector.result ≡ vector_between p.start.sides (cell_of p c.args.index) c.args.cell =
    c.vector_between-vector.ensures ∙ ap (λ s. vector_between s c.cell_of.result c.args.cell) sides ∙ ap (λ a. vector_between p.start.sides a c.args.cell) c.cell_of.ensures in
    let template = c.template.ensures ∙ ap (λ s. s.template) c.eroded.ensures.source in
    let lies = position_of_vector p c.args.index c.args.cell q c.template.result.now plan.start.shape (omega (arith, plan.path.inside c.args.index c.requires.index, plan.start.count)) c.requires.cell template in
    let found = c.position_of.ensures.inverse q in
    let has = ap (λ (v : Vector). Some v) vector in
    (λ is. lies.0 (found.0 is ∙ has), λ at. found.1 (lies.1 at ∙ sym has))
