use Rattle.std.proofs.Common.{◌∙◌, List, length, ap, sym, subst}
use Rattle.ti_scan.specs.declared.event.Datum.{Datum}
use Rattle.ti_scan.specs.Rising.{RisesFrom}
use Rattle.pattern_store.specs.Longest.{prefix_counts}
use Rattle.pattern_store.proofs.Stored.{whole_counts}
use Rattle.search_tree.specs.Tree.{Tree, tree_reach}
use Rattle.search_tree.proofs.tree.SearchTreeCountStore.counts.Goals as goal

pub returns : goal.returns
returns c =
    let inside = c.self.inside in
    let event = c.args.event.now in
    let rising = subst (λ (v : Tree). RisesFrom 1 (tree_reach v) event) (sym c.self.view_is) c.requires in
    c.counts_of.ensures ∙ ap (λ (e : List Datum). prefix_counts inside.blocks.shown inside.blocks.counts inside.groups.count e (length e)) c.items-known.ensures.items
    ∙ whole_counts inside.blocks.shown inside.blocks.counts inside.groups.count c.self.invariant.store c.args.self.now.patterns (ap (λ (v : Tree). v.patterns) c.self.view_is) event rising
