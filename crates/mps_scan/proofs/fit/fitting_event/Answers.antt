use Rattle.std.proofs.Common.{◌≡◌, List, pos, true, get_or, map, take, ap, sym, subst, ◌∙◌, arith}
use Rattle.std.specs.List.{list_all}
use Rattle.std.proofs.lemmas.List.{take_all}
use Rattle.ti_scan.specs.declared.event.Datum.{Datum}
use Rattle.ti_scan.specs.Event.{IsEvent}
use Rattle.ti_scan.specs.Rising.{next_position}
use Rattle.mps_scan.specs.declared.coded.CodedDatum.{CodedDatum}
use Rattle.mps_scan.specs.Coded.{coded}
use Rattle.mps_scan.specs.Words.{decoded, is_datum}
use Rattle.mps_scan.proofs.Fitting.{may_follow, rises_within}
use Rattle.mp_text.proofs.Places.{chosen}
use Rattle.mps_scan.proofs.fit.fitting_event.Goals as goal

pub push-requires-clause-after : goal.push-requires-clause-after
push-requires-clause-after c =
    let categories = c.args.categories.now in
    let items = c.items-coded-items.result.now in
    let i = c.loop-coded.coded-index in
    let d : CodedDatum = coded 0 (pos 0) in
    let is = chosen (is_datum c.args.template_len categories (get_or items i d)) c.in-Some.datum (decoded categories (get_or items i d)) c.in-Some.ensures in
    omega (arith, ap next_position c.loop-coded.invariant.event, may_follow categories items i d c.loop-coded.invariant.coded c.loop-coded-test.true, ap (λ (x : Datum). x.position) is.1)

pub returns-clause-event : goal.returns-clause-event
returns-clause-event c =
    let categories = c.args.categories.now in
    let items = c.items-coded-items.result.now in
    let i = c.loop-coded.coded-index in
    let whole : take i items ≡ items = take_all i items c.loop-coded-test.false in
    let event : c.loop-coded.event ≡ map (decoded categories) items = c.loop-coded.invariant.event ∙ ap (λ (xs : List CodedDatum). map (decoded categories) xs) whole in
    let all : list_all (is_datum c.args.template_len categories) items ≡ true = sym (ap (λ (xs : List CodedDatum). list_all (is_datum c.args.template_len categories) xs) whole) ∙ c.loop-coded.invariant.all in
    subst (IsEvent c.args.template_len) (sym event) (rises_within categories 1 c.args.template_len items c.loop-coded.invariant.coded.rise all)
