use Rattle.std.proofs.Common.{◌≡◌, List, ℕ, ap, sym, ◌∙◌, map, subst}
use Rattle.std.specs.List.{All}
use Rattle.ti_scan.specs.declared.event.Datum.{Datum}
use Rattle.ti_scan.specs.Event.{IsEvent, Source, StandsFor}
use Rattle.search_tree.specs.Tree.{tree_counts, tree_reach}
use Rattle.mps_scan.proofs.TextLemmas.{counts_same, prefixes_fit}
use Rattle.mps_scan.proofs.counting.tree_text.Goals as goal

pub counts_of_each-requires-after_bounds : goal.counts_of_each-requires-after_bounds
counts_of_each-requires-after_bounds c = λ _.
    let event = c.args.event.now in
    let tree = c.in_ok-tree.tree in
    let source = c.args.plan.now.source in
    let stands = subst (λ (s : Source). StandsFor tree_counts tree_reach tree s) c.eroded.ensures.source c.in_ok-tree.ensures.stands in
    subst (λ (events : List (List Datum)). All (IsEvent (tree_reach tree)) events) (sym (c.deref.ensures.value ∙ c.in_ok-prefixes.ensures)) (prefixes_fit tree_counts tree_reach tree source stands event c.requires)

pub push_scan_text-requires-clause-counts : goal.push_scan_text-requires-clause-counts
push_scan_text-requires-clause-counts c = λ _.
    let event = c.args.event.now in
    let tree = c.in_ok-tree.tree in
    let source = c.args.plan.now.source in
    let stands = subst (λ (s : Source). StandsFor tree_counts tree_reach tree s) c.eroded.ensures.source c.in_ok-tree.ensures.stands in
    c.deref-2.ensures.value ∙ c.in_ok-counts.ensures ∙ ap (λ (events : List (List Datum)). map (tree_counts tree) events) (c.deref.ensures.value ∙ c.in_ok-prefixes.ensures)
    ∙ counts_same tree_counts tree_reach tree source stands event c.requires
