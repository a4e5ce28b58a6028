use Rattle.std.proofs.Common.{arith, ◌≡◌, ◌∙◌, ◌<◌, ℕ, ◌-◌, Some, length, slice_get, sym}
use Rattle.mp_base.specs.Grid.{cells_of}
use Rattle.event_retrieve.specs.Plan.{Plan, IsPlan, cell_of, cell_at_position}
use Rattle.event_retrieve.proofs.AroundLemmas.{step_inside}
use Rattle.event_retrieve.proofs.gather.Gather.wanted_at.Goals as goal

-- a cell at a template position is inside
inside : (p : Plan) (i position c : ℕ) → IsPlan p → i < length p.path → cell_at_position p i position ≡ Some c → c < cells_of p.start.sides
inside p i position c plan on_path at =
    let in_node : cell_of p i < cells_of p.start.sides = omega (arith, plan.path.inside i on_path, plan.start.count) in
    step_inside p.start.sides (cell_of p i) (slice_get p.source.template (position - 1)) c plan.start.shape in_node at

pub is_early-requires : goal.is_early-requires
is_early-requires c = record { cell = inside c.args.plan.now c.args.self.now.index c.args.self.now.position c.in-Some.cell c.template_len.ensures.plan c.requires.index (sym c.requires.cell ∙ c.in-Some.is) }

pub returns-in-Some-clause-inside : goal.returns-in-Some-clause-inside
returns-in-Some-clause-inside c = inside c.args.plan.now c.args.self.now.index c.args.self.now.position c.in-Some.cell c.template_len.ensures.plan c.requires.index (sym c.requires.cell ∙ c.in-Some.is)
