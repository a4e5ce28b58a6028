use Rattle.std.proofs.Common.{List, take, ap, sym, subst}
use Rattle.ti_scan.specs.declared.event.Datum.{Datum}
use Rattle.ti_scan.specs.Rising.{RisesFrom}
use Rattle.pattern_store.specs.Longest.{IsLongest}
use Rattle.pattern_store.proofs.Stored.{longest_counts, longest_is}
use Rattle.search_tree.specs.Tree.{Tree, tree_reach}
use Rattle.search_tree.proofs.tree.SearchTreeCountStore.longest_prefix.Goals as goal

pub returns-clause-len : goal.returns-clause-len
returns-clause-len c =
    let inside = c.self.inside in
    let event = c.args.event.now in
    let rising = subst (λ (v : Tree). RisesFrom 1 (tree_reach v) event) (sym c.self.view_is) c.requires.event in
    let is = subst (λ (e : List Datum). IsLongest inside.blocks.shown inside.blocks.counts inside.groups.count (take c.args.most e) c.args.min c.longest_of.result.len c.longest_of.result.counts) c.items.ensures.items c.longest_of.ensures in
    longest_is inside.blocks.shown inside.blocks.counts inside.groups.count c.self.invariant.store c.args.self.now.patterns (ap (λ (v : Tree). v.patterns) c.self.view_is) event c.args.most c.args.min c.longest_of.result.len c.longest_of.result.counts c.requires.most rising is

pub returns-clause-counts : goal.returns-clause-counts
returns-clause-counts c =
    let inside = c.self.inside in
    let event = c.args.event.now in
    let rising = subst (λ (v : Tree). RisesFrom 1 (tree_reach v) event) (sym c.self.view_is) c.requires.event in
    let is = subst (λ (e : List Datum). IsLongest inside.blocks.shown inside.blocks.counts inside.groups.count (take c.args.most e) c.args.min c.longest_of.result.len c.longest_of.result.counts) c.items.ensures.items c.longest_of.ensures in
    longest_counts inside.blocks.shown inside.blocks.counts inside.groups.count c.self.invariant.store c.args.self.now.patterns (ap (λ (v : Tree). v.patterns) c.self.view_is) event c.args.most c.args.min c.longest_of.result.len c.longest_of.result.counts c.requires.most rising is
