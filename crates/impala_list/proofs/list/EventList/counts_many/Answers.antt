use Rattle.std.proofs.Common.{◌∙◌, List, [], get_or, length, ap, subst, sym}
use Rattle.ti_scan.specs.declared.event.Datum.{Datum}
use Rattle.ti_scan.specs.Rising.{RisesFrom}
use Rattle.rayon.proofs.ListFacts.{IfOk-then}
use Rattle.pattern_store.specs.Longest.{prefix_counts}
use Rattle.pattern_store.proofs.Stored.{whole_counts}
use Rattle.impala_list.specs.List.{Listed, list_counts, list_reach}
use Rattle.impala_list.proofs.PartSums.{same_answers}
use Rattle.impala_list.proofs.list.EventList.counts_many.Goals as goal

pub returns : goal.returns
returns g c =
    let inside = c.self.inside in
    let events = c.args.events.now in
    IfOk-then c.many_counts.result _ _ c.many_counts.ensures (λ many h.
    h ∙ same_answers (λ (event : List Datum). prefix_counts inside.blocks.shown inside.blocks.counts inside.groups event (length event)) (list_counts c.args.self.now) events
    (λ j within.
    let rising = subst (λ (v : Listed). RisesFrom 1 (list_reach v) (get_or events j [])) (sym c.self.view_is) (c.requires j [] within) in
    whole_counts inside.blocks.shown inside.blocks.counts inside.groups c.self.invariant c.args.self.now.patterns (ap (λ (v : Listed). v.patterns) c.self.view_is) (get_or events j []) rising))
