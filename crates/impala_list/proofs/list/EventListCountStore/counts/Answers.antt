use Rattle.std.proofs.Common.{◌∙◌, List, length, ap, sym, subst}
use Rattle.ti_scan.specs.declared.event.Datum.{Datum}
use Rattle.ti_scan.specs.Rising.{RisesFrom}
use Rattle.pattern_store.specs.Longest.{prefix_counts}
use Rattle.pattern_store.proofs.Stored.{whole_counts}
use Rattle.impala_list.specs.List.{Listed, list_reach}
use Rattle.impala_list.proofs.list.EventListCountStore.counts.Goals as goal

pub returns : goal.returns
returns c =
    let inside = c.self.inside in
    let event = c.args.event.now in
    let rising = subst (λ (v : Listed). RisesFrom 1 (list_reach v) event) (sym c.self.view_is) c.requires in
    c.counts_of.ensures ∙ ap (λ (e : List Datum). prefix_counts inside.blocks.shown inside.blocks.counts inside.groups e (length e)) c.items-known.ensures.items
    ∙ whole_counts inside.blocks.shown inside.blocks.counts inside.groups c.self.invariant c.args.self.now.patterns (ap (λ (v : Listed). v.patterns) c.self.view_is) event rising
