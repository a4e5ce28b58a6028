use Rattle.std.proofs.Common.{◌≡◌, ◌++◌, List, ℕ, ap, sym, ◌∙◌, map, subst}
use Rattle.std.specs.List.{All}
use Rattle.ti_scan.specs.declared.event.Datum.{Datum}
use Rattle.ti_scan.specs.Event.{IsEvent, Source, StandsFor}
use Rattle.impala_list.specs.List.{list_counts, list_reach}
use Rattle.mp_values.specs.declared.choice.StoreChoice.TheVariants.{List as Listed}
use Rattle.pattern_store.specs.Prefixes.{distinct_patterns}
use Rattle.mps_scan.specs.Text.{scan_text}
use Rattle.mps_scan.proofs.TextLemmas.{counts_same, prefixes_fit}
use Rattle.mps_scan.proofs.counting.list_text.Goals as goal

pub counts_many-requires-after_bounds : goal.counts_many-requires-after_bounds
counts_many-requires-after_bounds g c = λ _ _.
    let event = c.args.event.now in
    let list = c.in_ok-list.list in
    let source = c.args.plan.now.source in
    let stands = subst (λ (s : Source). StandsFor list_counts list_reach list s) c.eroded.ensures.source c.in_ok-list.ensures.stands in
    subst (λ (events : List (List Datum)). All (IsEvent (list_reach list)) events) (sym (c.deref.ensures.value ∙ c.in_ok-prefixes.ensures)) (prefixes_fit list_counts list_reach list source stands event c.requires)

pub push_scan_text-requires-clause-counts : goal.push_scan_text-requires-clause-counts
push_scan_text-requires-clause-counts g c = λ _.
    let event = c.args.event.now in
    let list = c.in_ok-list.list in
    let source = c.args.plan.now.source in
    let stands = subst (λ (s : Source). StandsFor list_counts list_reach list s) c.eroded.ensures.source c.in_ok-list.ensures.stands in
    c.deref-2.ensures.value ∙ c.in_ok-counts.ensures ∙ ap (λ (events : List (List Datum)). map (list_counts list) events) (c.deref.ensures.value ∙ c.in_ok-prefixes.ensures)
    ∙ counts_same list_counts list_reach list source stands event c.requires

pub returns : goal.returns
returns g c =
    let size : c.entries.result ≡ distinct_patterns c.args.plan.now.source = c.entries.ensures ∙ c.in_ok-list.ensures.entries ∙ ap distinct_patterns c.eroded.ensures.source in
    c.in_ok-push_scan_text.ensures.text ∙ (λ i. c.new-text.ensures.items i ++ scan_text Listed (size i) c.args.plan.now c.args.event.now)
