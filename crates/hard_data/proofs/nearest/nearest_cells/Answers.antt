use Rattle.std.proofs.Common.{arith, rules, ◌≡◌, ◌∙◌, ◌+◌, ◌<◌, ◌≤◌, ℕ, ap, subst, sym, get_or, replicate, set, Some, Vec}
use Rattle.std.specs.List.{All}
use Rattle.std.proofs.lemmas.List.{get_or_read}
use Rattle.std.proofs.lemmas.List.Elements.{All-replicate, All-set}
use Rattle.mp_base.specs.Grid.{Field, Sides, cells_of}
use Rattle.hard_data.specs.Nearest.{nearer_of}
use Rattle.hard_data.specs.Start.{distance_in_cells, nearest_node}
use Rattle.hard_data.specs.Kept.{cell_in}
use Rattle.hard_data.proofs.KeptCells.{CellsAreKept, no_cell_kept, cell_stays, cell_moves, nearest_kept}
use Rattle.hard_data.proofs.nearest.nearest_cells.Goals as goal
use Rattle.hard_data.proofs.nearest.nearest_cells.Goals.{then-is_off_nodes, else-is_off_nodes}

abbrev few : Field → ℕ → Type 0
few hard slot = slot ≤ cells_of hard.sides

pub loop-number-init : goal.loop-number-init
loop-number-init c =
    let items : c.in_ok-slots.slots.items ≡ replicate c.cells.result 0 = search rules in
    record {
      kept = no_cell_kept c.args.hard.now c.args.level c.in_ok-slots.slots.items c.cells.result items (c.cells.ensures.count ∙ ap cells_of c.shape-shape.ensures.sides);
      inside = subst (All (few c.args.hard.now)) (sym items) (All-replicate (few c.args.hard.now) c.cells.result 0 (omega arith));
    }

pub loop-number-preserved : goal.loop-number-preserved
loop-number-preserved c = elim c.if-is_off_nodes.branch [
  | then-is_off_nodes w ↦
      let hard = c.args.hard.now in
      let level = c.args.level in
      let n = c.loop-number.number in
      let slots = c.loop-number.slots.items in
      let same : c.shape-shape.result ≡ hard.sides = c.shape-shape.ensures.sides in
      let node = w.node.inside.0 in
      let kept = c.loop-number.invariant.kept in
      let within : node < cells_of hard.sides = omega (arith, w.node.view_is, w.nearest_node-node.ensures.inside, ap cells_of same) in
      let here : nearest_node hard.sides level n ≡ node = ap (λ (s : Sides). nearest_node s level n) (sym same) ∙ sym w.nearest_node-node.ensures.node ∙ sym w.node.view_is in
      let slot : w.index-slot.result.now ≡ get_or slots node 0 = get_or_read slots node w.index-slot.result.now (omega (arith, kept.count)) w.index-slot.ensures 0 in
      let told : cell_in w.nearer.result ≡ Some (nearer_of (distance_in_cells hard.sides node) (cell_in (get_or slots node 0)) n) =
      w.nearer.ensures.nearer ∙ (λ i. Some (nearer_of (distance_in_cells (same i) (sym w.node.view_is i)) (cell_in (slot i)) n)) in
      let items : c.if-is_off_nodes.slots.items ≡ set slots node w.nearer.result = search rules in
      record {
        kept = subst (CellsAreKept hard level (n + 1)) (sym items) (cell_moves hard level n slots node w.nearer.result kept within (sym c.is_off_nodes.ensures ∙ w.if-is_off_nodes.true) here told);
        inside = subst (All (few hard)) (sym items) (All-set (few hard) slots node w.nearer.result (omega (arith, w.nearer.ensures.inside, ap cells_of same)) c.loop-number.invariant.inside);
      }
  | else-is_off_nodes w ↦
      let items : c.if-is_off_nodes.slots.items ≡ c.loop-number.slots.items = ap (λ (v : Vec ℕ _). v.items) w.slots-is in
      record {
        kept = subst (CellsAreKept c.args.hard.now c.args.level (c.loop-number.number + 1)) (sym items) (cell_stays c.args.hard.now c.args.level c.loop-number.number c.loop-number.slots.items c.loop-number.invariant.kept (sym c.is_off_nodes.ensures ∙ w.if-is_off_nodes.false));
        inside = subst (All (few c.args.hard.now)) (sym items) c.loop-number.invariant.inside;
      }
]

pub returns-clause-nearest : goal.returns-clause-nearest
returns-clause-nearest c = λ v below.
    let all : c.loop-number.number ≡ cells_of c.args.hard.now.sides = omega (arith, c.loop-number-test.false, c.loop-number.auto.number-end, c.cells-number-end.ensures.count, ap cells_of c.shape-shape.ensures.sides) in
    nearest_kept c.args.hard.now c.args.level c.loop-number.slots.items v (subst (λ n. CellsAreKept c.args.hard.now c.args.level n c.loop-number.slots.items) all c.loop-number.invariant.kept) below
