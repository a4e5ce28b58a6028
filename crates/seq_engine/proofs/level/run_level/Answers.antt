use Rattle.std.proofs.Common.{arith, ◌≡◌, ◌<◌, ℕ, ◌+◌, ◌∙◌, ◌++◌, ◌∷◌, [], List, sym, ap, subst, length, Some, set}
use Rattle.mp_base.specs.declared.cell.Vector.{Vector}
use Rattle.mp_base.specs.Grid.{field, Field, cells_of}
use Rattle.ti_scan.specs.Event.{IsEvent}
use Rattle.event_retrieve.specs.Around.{Around}
use Rattle.path_stream.specs.Words.{Place}
use Rattle.mp_base.specs.Cells.{category_counts}
use Rattle.event_retrieve.specs.Plan.{Plan, grid_at}
use Rattle.event_retrieve.specs.Sequential.{log_of, entry_after}
use Rattle.event_retrieve.proofs.Logs.{log_of_more, length-log_of}
use Rattle.event_retrieve.proofs.LogLemmas.{grid_at-push, unknown_at_turn, length-grid_at, known_is}
use Rattle.mp_base.specs.declared.cell.Entry.{Entry}
use Rattle.std.proofs.lemmas.List.Elements.{All-push}
use Rattle.seq_engine.proofs.level.run_level.Goals as goal

-- a place in the words of a plan
abbrev place_of : Plan → ℕ → Place
place_of p n = record { seed = p.seed; number = p.stream; place = n }

pub loop-i-init : goal.loop-i-init
unfolding log_of
loop-i-init g c =
    let start : c.in_ok-now.now ≡ c.args.plan.now.start = c.in_ok-now.ensures ∙ c.start-start.ensures.start in
    record {
      log = c.in_ok-log.ensures.items;
      now = start;
      cats = rw c.in_ok-log.ensures.items (λ k d in_list. absurd (omega arith));
      words = c.draw_words-words.ensures ∙ ap (place_of c.args.plan.now) (omega arith);
      known = c.start_counts-known.ensures ∙ ap (λ (g : Field). category_counts c.args.plan.now.source.cats g.cells) (sym start);
    }

pub event_on-event-requires-clause-sides : goal.event_on-event-requires-clause-sides
event_on-event-requires-clause-sides g c =
    ap (λ (f : Field). f.sides) (c.loop-i.invariant.now) ∙ ap (λ (f : Field). f.sides) (sym c.start-start.ensures.start) ∙ sym (ap (λ (a : Around). a.sides) c.in_ok-around.ensures)

pub event_on-event-requires-clause-cell : goal.event_on-event-requires-clause-cell
event_on-event-requires-clause-cell g c =
    let plan = c.start-start.ensures.plan in
    let inside = plan.path.inside c.loop-i.i (omega (arith, c.loop-i-test.true, c.length-i-end.ensures.value)) in
    omega (arith, inside, plan.start.count, ap (λ (f : Field). cells_of f.sides) c.loop-i.invariant.now, c.cell_of.ensures)

pub event_on-event-requires-clause-short : goal.event_on-event-requires-clause-short
event_on-event-requires-clause-short g c =
    omega (arith, ap (λ (a : Around). length a.template) c.in_ok-around.ensures, c.vectors.ensures.template.few, ap length c.vectors.ensures.vectors)

pub next_entry-entry-requires-clause-event : goal.next_entry-entry-requires-clause-event
next_entry-entry-requires-clause-event g c = λ _ _.
    let p = c.args.plan.now in
    let i = c.loop-i.i in
    let log = c.as_slice.result.now in
    let template = ap (λ (a : Around). a.template) c.in_ok-around.ensures ∙ c.vectors.ensures.vectors ∙ c.template.ensures ∙ ap (λ s. s.template) c.eroded-eroded.ensures.source in
    let now = c.loop-i.invariant.now ∙ ap (λ l. grid_at p l i) (sym c.as_slice.ensures.value) in
    c.event_on-event.ensures.data_ ∙ known_is p log c.loop-i.now c.in_ok-around.around.template c.cell_of.result i now template c.cell_of.ensures

pub next_entry-entry-requires-clause-rising : goal.next_entry-entry-requires-clause-rising
next_entry-entry-requires-clause-rising g c = λ _ _.
    let template = ap (λ (a : Around). a.template) c.in_ok-around.ensures ∙ c.vectors.ensures.vectors ∙ c.template.ensures ∙ ap (λ s. s.template) c.eroded-eroded.ensures.source in
    subst (λ (t : List Vector). IsEvent (length t) c.event_on-event.result) template c.event_on-event.ensures.event

pub next_entry-entry-requires-clause-known : goal.next_entry-entry-requires-clause-known
next_entry-entry-requires-clause-known g c = λ _ _.
    let p = c.args.plan.now in
    let now = c.loop-i.invariant.now ∙ ap (λ l. grid_at p l c.loop-i.i) (sym c.as_slice.ensures.value) in
    c.loop-i.invariant.known ∙ ap (λ (f : Field). category_counts p.source.cats f.cells) now

pub commit-requires-clause-cell : goal.commit-requires-clause-cell
commit-requires-clause-cell g c =
    let p = c.args.plan.now in
    rw (c.next_entry-entry.ensures.cell, c.loop-i.invariant.now)
    (omega (arith, length-grid_at p c.loop-i.log.items c.loop-i.i, c.start-start.ensures.plan.path.inside c.loop-i.i (omega (arith, c.loop-i-test.true, c.length-i-end.ensures.value))))

pub commit-requires-clause-unknown : goal.commit-requires-clause-unknown
commit-requires-clause-unknown g c =
    let p = c.args.plan.now in
    rw (c.next_entry-entry.ensures.cell, c.loop-i.invariant.now, c.loop-i.invariant.log)
    (unknown_at_turn p c.loop-i.i c.start-start.ensures.plan.path (omega (arith, c.loop-i-test.true, c.length-i-end.ensures.value)))

pub loop-i-preserved : goal.loop-i-preserved
loop-i-preserved g c =
    let p = c.args.plan.now in
    let i = c.loop-i.i in
    let log = c.loop-i.log.items in
    let e = c.next_entry-entry.result in
    let is : e ≡ entry_after p (log_of p i) i =
    c.next_entry-entry.ensures.entry ∙ ap (λ l. entry_after p l i) (c.as_slice.ensures.value ∙ c.loop-i.invariant.log) in
    let items : c.push.new.self.items ≡ log ++ e ∷ [] = c.in_ok-push.ensures.items in
    record {
      log =
          items ∙ ap (λ l. l ++ e ∷ []) c.loop-i.invariant.log ∙ ap (λ x. log_of p i ++ x ∷ []) is ∙ sym (log_of_more p i);
      now =
          c.commit.ensures.now ∙ ap (λ g. field g.sides (set g.cells e.cell (Some e.cat))) c.loop-i.invariant.now
          ∙ sym (grid_at-push p log e i (ap length c.loop-i.invariant.log ∙ length-log_of p i)) ∙ ap (λ l. grid_at p l (i + 1)) (sym items);
      cats = rw items (All-push (λ (x : Entry). x.cat < p.source.cats) log e c.loop-i.invariant.cats c.next_entry-entry.ensures.cat);
      words = c.next_word-word.ensures.place ∙ ap (λ (q : Place). record q { place = q.place + 1 }) c.loop-i.invariant.words ∙ ap (place_of p) (omega arith);
      known = c.commit.ensures.known ∙ ap (λ n. category_counts n c.commit.new.now.cells) (c.cats-cats.ensures ∙ ap (λ s. s.cats) c.eroded-eroded.ensures.source);
    }
