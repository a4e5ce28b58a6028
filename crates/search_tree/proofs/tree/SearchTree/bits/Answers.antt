use Rattle.std.proofs.Common.{◌∙◌, ap}
use Rattle.search_tree.specs.Tree.{tree_bits}
use Rattle.pattern_store.proofs.Stored.{bits-product}
use Rattle.search_tree.proofs.tree.SearchTree.bits.Goals as goal

pub returns : goal.returns
returns c =
    let inside = c.self.inside in
    bits-product inside.blocks.shown inside.blocks.counts inside.groups.count c.from.result c.from-2.result c.from-3.result c.from-4.result c.from.ensures c.from-2.ensures (c.from-3.ensures ∙ c.reach.ensures) (c.from-4.ensures ∙ c.cats.ensures)
    ∙ ap tree_bits c.self.view_is
