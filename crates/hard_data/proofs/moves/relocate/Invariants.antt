use Rattle.std.proofs.Common.{◌≡◌, take}
use Rattle.mp_base.specs.Grid.{field}
use Rattle.hard_data.proofs.Nodes.{with_nodes, moves_among}
use Rattle.hard_data.proofs.moves.relocate.Given as goal

-- what is known at the nodes so far, and the moves to them
abbrev pub invariant-loop-node : goal.invariant-loop-node
invariant-loop-node l = record {
  grid : l.grid ≡ field l.hard.sides (with_nodes l.hard l.values l.level (take l.node-index l.node-items));
  moves : l.moves.items ≡ moves_among l.hard l.values l.level (take l.node-index l.node-items);
}
