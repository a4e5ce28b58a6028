use Rattle.std.proofs.Common.{rules, ◌≡◌, ◌∙◌, ◌<◌, ◌++◌, ℕ, ap, sym, length, get_or, map, set, subst, replicate, List, None}
use Rattle.std.specs.Prelude.{option_to_list}
use Rattle.std.specs.List.Sorted.{IsStrictlyIncreasing}
use Rattle.std.proofs.lemmas.List.{get_or_read, take_all}
use Rattle.mp_base.specs.Grid.{Field, field, Sides, cells_of}
use Rattle.multigrid.specs.Levels.{nodes_of}
use Rattle.hard_data.specs.declared.moves.Move.{Move}
use Rattle.hard_data.specs.Start.{node_start, move_to}
use Rattle.hard_data.proofs.Nodes.{with_nodes, with_none, with_more, start_is, moves_among, moves_none, moves_more, moves_all, moves-rise}
use Rattle.hard_data.proofs.moves.relocate.Goals as goal

pub loop-node-init : goal.loop-node-init
loop-node-init c =
    let hard = c.args.hard.now in
    record {
      grid = c.in_ok-grid.ensures ∙ ap (λ (s : Sides). field s (replicate (cells_of s) None)) c.shape-2.ensures.sides ∙ ap (field hard.sides) (sym (with_none hard c.args.values.now c.args.level));
      moves = c.new-moves.ensures.items ∙ sym (moves_none hard c.args.values.now c.args.level);
    }

pub loop-node-preserved : goal.loop-node-preserved
loop-node-preserved c =
    let hard = c.args.hard.now in
    let values = c.args.values.now in
    let level = c.args.level in
    let nodes = c.as_slice-node-items.result.now in
    let i = c.loop-node.node-index in
    let node = c.node-item.result in
    let within : i < length nodes = c.loop-node-test.true in
    let at : node ≡ get_or nodes i 0 = get_or_read nodes i node within c.node-item.is 0 in
    let grid : c.set_node.new.grid ≡ field c.loop-node.grid.sides (set c.loop-node.grid.cells node (node_start hard values level node)) = search rules in
    let moves : c.set_node.new.moves.items ≡ c.loop-node.moves.items ++ option_to_list (move_to hard values level node) = search rules in
    record {
      grid =
          grid ∙ ap (λ (g : Field). field g.sides (set g.cells node (node_start hard values level node))) c.loop-node.invariant.grid
          ∙ ap (field hard.sides) (sym (with_more hard values level nodes i node within at));
      moves =
          moves ∙ ap (λ (l : List Move). l ++ option_to_list (move_to hard values level node)) c.loop-node.invariant.moves
          ∙ sym (moves_more hard values level nodes i node within at);
    }

pub returns-clause-grid : goal.returns-clause-grid
returns-clause-grid c =
    let hard = c.args.hard.now in
    let all = take_all c.loop-node.node-index c.as_slice-node-items.result.now c.loop-node-test.false ∙ c.as_slice-node-items.ensures.value ∙ c.in_ok-nodes.ensures.nodes ∙ ap (λ (s : Sides). nodes_of s c.args.level) c.shape.ensures.sides in
    c.loop-node.invariant.grid ∙ ap (λ (l : List ℕ). field hard.sides (with_nodes hard c.args.values.now c.args.level l)) all ∙ start_is hard c.args.values.now c.args.level

pub returns-clause-moves : goal.returns-clause-moves
returns-clause-moves c =
    let hard = c.args.hard.now in
    let all = take_all c.loop-node.node-index c.as_slice-node-items.result.now c.loop-node-test.false ∙ c.as_slice-node-items.ensures.value ∙ c.in_ok-nodes.ensures.nodes ∙ ap (λ (s : Sides). nodes_of s c.args.level) c.shape.ensures.sides in
    c.loop-node.invariant.moves ∙ ap (λ (l : List ℕ). moves_among hard c.args.values.now c.args.level l) all ∙ moves_all hard c.args.values.now c.args.level

pub returns-clause-rising : goal.returns-clause-rising
returns-clause-rising c =
    subst (λ (l : List Move). IsStrictlyIncreasing (map (λ (m : Move). m.to) l)) (sym (returns-clause-moves c)) (moves-rise c.args.hard.now c.args.values.now c.args.level)
