-- The board with one entry more.
use Rattle.std.proofs.Common.{arith, ◌≡◌, ℕ, ◌+◌, ◌-◌, ◌<◌, ◌≤◌, ◌^◌, List, [], ◌∷◌, ◌++◌, length, get_or, set, take, drop, max, slice_index, Bool, true, false, cond, ◌==◌, Option, Some, None, inl, inr, refl, ap, sym, ◌∙◌, subst}
use Rattle.std.proofs.lemmas.Bool.Decides.{nat_tests}
use Rattle.std.proofs.lemmas.List.{length_push, length-set}
use Rattle.mp_base.specs.declared.cell.Entry.{Entry}
use Rattle.mp_base.specs.Cells.{category_counts, with_entries}
use Rattle.mp_base.specs.Counts.{one_more}
use Rattle.mp_base.specs.Grid.{Field, field, cat_of, cat_at}
use Rattle.mp_base.proofs.Tallies.{length-tally, tally-le-length, tally-set, cat_of-get_or}
use Rattle.path_stream.specs.Words.{Place}
use Rattle.event_retrieve.specs.declared.offer.Offer.{Offer}
use Rattle.ti_scan.specs.Event.{IsEvent, IsWithin}
use Rattle.ti_scan.specs.declared.event.Datum.{Datum}
use Rattle.event_retrieve.specs.declared.retrieval.Retained.{Retained}
use Rattle.event_retrieve.proofs.Fresh.{event_of_turn-rises, fresh_retained}
use Rattle.std.proofs.lemmas.List.Elements.{Contains-get_or}
use Rattle.event_retrieve.specs.declared.offer.Missed.{Missed}
use Rattle.commit_board.specs.declared.settle.Settle.TheVariants.{Committed, Ended, NotOffered, Stale}
use Rattle.event_retrieve.specs.Plan.{Plan, IsPlan, nodes_in, cell_of, grid_at, known, data_by}
use Rattle.event_retrieve.specs.Sequential.{log_of, entry_after, drawn}
use Rattle.event_retrieve.specs.Offer.{IsSound, IsRetained, event_of_turn, stale_by}
use Rattle.event_retrieve.proofs.Logs.{log_of_more, take-log_of}
use Rattle.event_retrieve.proofs.LogLemmas.{entry_is, grid_at-push, unknown_at_turn, length-grid_at}
use Rattle.commit_board.specs.Board.{State, state, IsBoard, Fits, IsNextEntry, front, with_entry, offer_in, kept_at, settle_of, settle_by, settle_at, entry_by, with_front}
use Rattle.commit_board.proofs.Slots.{offer_in_next, offer_in_set, slots_turned, length-turned}

-- the event of a node's turn is known by the entries before it
pub event_before : (p : Plan) (i : ℕ) → i ≤ nodes_in p → event_of_turn p i ≡ known p (log_of p i) i i
unfolding known
event_before p i le =
    ap (λ (l : List Entry). data_by (λ _ v. cat_at (field p.start.sides (with_entries p.start.cells l)) (cell_of p i) v) p.source.template) (take-log_of p i (nodes_in p) le ∙ sym (take-log_of p i i (omega arith)))

cell_after : (p : Plan) (log : List Entry) (i : ℕ) → (entry_after p log i).cell ≡ cell_of p i
unfolding entry_after
cell_after p log i = λ _. cell_of p i

module _ (p : Plan) (b : State) (fits : Fits p b) where
  known_now : b.known ≡ category_counts p.source.cats (grid_at p (log_of p (front b)) (front b)).cells
  known_now = fits.known ∙ ap (λ l. category_counts p.source.cats (grid_at p l (front b)).cells) fits.prefix

  -- what is drawn by what is retained of the front's event is the category of its entry
  pub next_entry : (o : Offer) (c cat : ℕ) → front b < nodes_in p → IsRetained p (event_of_turn p (front b)) o.retained → cat ≡ drawn p (front b) o.retained.counts b.known → c ≡ cell_of p (front b) → record { cell = c; cat = cat } ≡ entry_after p (log_of p (front b)) (front b)
  next_entry o c cat left kept is_cat is_cell =
      entry_is p (log_of p (front b)) (front b) cat (event_of_turn p (front b)) o.retained.counts b.known (event_before p (front b) (omega arith)) kept.counts known_now is_cat c is_cell

  pub known_len : length b.known ≡ p.source.cats
  known_len = ap length fits.known ∙ length-tally (λ v. v) p.source.cats (grid_at p b.log (front b)).cells

  module _ (plan : IsPlan p) (e : Entry) (next : IsNextEntry p b e) where
    within : front b < nodes_in p
    within = omega (arith, next.left, fits.whole)

    pub few : slice_index b.known e.cat < 2 ^ 32 - 1
    few =
        omega (
          arith,
          ap (λ l. slice_index l e.cat) fits.known,
          tally-le-length (λ v. v) p.source.cats (grid_at p b.log (front b)).cells e.cat next.cat,
          length-grid_at p b.log (front b),
          plan.start.count,
          plan.start.shape.fits,
        )

    cell_is : e.cell ≡ cell_of p (front b)
    cell_is = ap (λ (x : Entry). x.cell) next.entry ∙ cell_after p (log_of p (front b)) (front b)

    unknown : get_or (grid_at p b.log (front b)).cells e.cell None ≡ None
    unknown =
        sym (cat_of-get_or (grid_at p b.log (front b)).cells e.cell) ∙ ap (cat_of (grid_at p b.log (front b)).cells) cell_is
        ∙ ap (λ l. cat_of (grid_at p l (front b)).cells (cell_of p (front b))) fits.prefix ∙ unknown_at_turn p (front b) plan.path within

    inside : e.cell < length (grid_at p b.log (front b)).cells
    inside = omega (arith, cell_is, length-grid_at p b.log (front b), plan.path.inside (front b) within)

    long : length (b.log ++ e ∷ []) ≡ front b + 1
    long = length_push b.log e

    next_place : nodes_in p + front b + 1 ≡ nodes_in p + length (b.log ++ e ∷ [])
    next_place = omega (arith, long)

    pub fits_entry : Fits p (with_entry b e)
    fits_entry = record {
      whole = fits.whole;
      prefix = ap (λ l. l ++ e ∷ []) fits.prefix ∙ ap (λ x. log_of p (front b) ++ x ∷ []) next.entry ∙ sym (log_of_more p (front b)) ∙ ap (log_of p) (sym long);
      known =
          ap (λ k. one_more k e.cat) fits.known
          ∙ sym (tally-set p.source.cats (grid_at p b.log (front b)).cells e.cell e.cat inside unknown next.cat)
          ∙ ap (λ (g : Field). category_counts p.source.cats g.cells) (sym (grid_at-push p b.log e (front b) (λ _. front b)) ∙ ap (grid_at p (b.log ++ e ∷ [])) (sym long));
      words = ap (λ (w : Place). record { seed = w.seed; number = w.number; place = w.place + 1 }) fits.words ∙ ap (λ (n : ℕ). record { seed = p.seed; number = p.stream; place = n }) next_place;
      sound = λ j o is. fits.sound (j + 1) o (offer_in_next b.slots j o is);
    }

-- what settling answers where it commits is the entry of the sequential log
pub committed_next : (p : Plan) (b : State) (e : Entry) → Fits p b → IsBoard b → IsPlan p → Committed e ≡ settle_of p b → e.cat < p.source.cats → IsNextEntry p b e
committed_next p b e fits board plan committed below = go (front b == b.nodes) refl committed
  where
    none : (e : Entry) (n : ℕ) → Committed e ≡ Ended n → ⊥
    none e n is = cc

    same : (e f : Entry) → Committed e ≡ Committed f → e ≡ f
    same e f is = cc

    not_offered : (e : Entry) (n : ℕ) → Committed e ≡ NotOffered n → ⊥
    not_offered e n is = cc

    not_stale : (e : Entry) (n k q : ℕ) → Committed e ≡ Stale n k q → ⊥
    not_stale e n k q is = cc

    first : front b - front b ≡ 0
    first = omega arith

    by_offer : front b < b.nodes → (o : Offer) → offer_in b.slots 0 ≡ Some o → (m : Option Missed) → stale_by p o ≡ m → Committed e ≡ settle_at p b o m → IsNextEntry p b e
    by_offer left o at (Some m) is answer = absurd (not_stale e (front b) m.entry m.position answer)
    by_offer left o at None is answer =
        let index : o.index ≡ front b = omega (arith, (board.kept 0 o at).index) in
        let kept : IsRetained p (event_of_turn p (front b)) o.retained =
        subst (λ i. IsRetained p (event_of_turn p i) o.retained) index (fresh_retained p plan.path o (fits.sound 0 o at) is plan.max_some) in
        let entry : entry_by p b o ≡ entry_after p (log_of p (front b)) (front b) =
        next_entry p b fits o (cell_of p (front b)) (entry_by p b o).cat (omega (arith, left, fits.whole)) kept refl refl in
        record { left = left; entry = same e (entry_by p b o) answer ∙ entry; cat = below }

    by_kept : front b < b.nodes → (x : Option Offer) → offer_in b.slots 0 ≡ x → Committed e ≡ settle_by p b x → IsNextEntry p b e
    by_kept left None at answer = absurd (not_offered e (front b) answer)
    by_kept left (Some o) at answer = by_offer left o at (stale_by p o) refl answer

    go : (ended : Bool) → (front b == b.nodes) ≡ ended → Committed e ≡ cond ended (Ended b.nodes) (settle_by p b (kept_at b (front b))) → IsNextEntry p b e
    go true is answer = absurd (none e b.nodes answer)
    go false is answer =
        let apart : front b ≡ b.nodes → ⊥ = λ e. grind (arith, nat_tests) in
        let left : front b < b.nodes = omega (arith, board.behind, board.inside) in
        by_kept left (offer_in b.slots 0) refl (answer ∙ ap (λ j. settle_by p b (offer_in b.slots j)) first)

-- each datum of an event is one of it
within_itself : (event : List Datum) → IsWithin event event
within_itself event k d in_list = Contains-get_or event k d in_list

-- The offer that sees all entries is sound, and the board fits with it.
pub recounted : (p : Plan) (b : State) (i : ℕ) (ev : List Datum) (r : Retained) → Fits p b → front b < b.nodes → i ≡ front b → ev ≡ known p b.log (front b) (front b) → IsRetained p ev r → IsRetained p (event_of_turn p (front b)) r × Fits p (with_front b (record { index = i; seen = i; event = ev; retained = r }))
recounted p b i ev r fits left is_front is_event kept =
    let at_front : event_of_turn p (front b) ≡ ev = event_before p (front b) (omega (arith, left, fits.whole)) ∙ sym (ap (λ l. known p l (front b) (front b)) fits.prefix) ∙ sym is_event in
    let turn : event_of_turn p i ≡ ev = ap (event_of_turn p) is_front ∙ at_front in
    let sound : IsSound p (record { index = i; seen = i; event = ev; retained = r }) = record {
      in_path = omega (arith, is_front, left, fits.whole);
      before = omega arith;
      event = subst (IsEvent (length p.source.template)) turn (event_of_turn-rises p i);
      lower = subst (λ e. IsWithin (event_of_turn p i) e) turn (within_itself (event_of_turn p i));
      upper = subst (λ e. IsWithin e (event_of_turn p i)) turn (within_itself (event_of_turn p i));
      retained = kept;
    } in (
      subst (λ e. IsRetained p e r) (sym at_front) kept,
      record {
        whole = fits.whole;
        prefix = fits.prefix;
        known = fits.known;
        words = fits.words;
        sound = λ j o is. elim (offer_in_set b.slots 0 j (record { index = i; seen = i; event = ev; retained = r }) o is) [
          | inl here ↦ subst (IsSound p) (sym here.1) sound
          | inr before ↦ fits.sound j o before
        ];
      },
    )

-- a board with an offer put in the front's place
pub put_front : (b : State) (o : Offer) → IsBoard b → o.index ≡ front b → IsBoard (with_front b o)
put_front b o board at = record {
  behind = board.behind;
  inside = board.inside;
  ahead = board.ahead;
  slots = length-set b.slots 0 (Some o) ∙ board.slots;
  window_some = board.window_some;
  nodes_few = board.nodes_few;
  kept = λ j other is. elim (offer_in_set b.slots 0 j o other is) [
    | inl here ↦
        let same : other.index ≡ o.index = ap (λ (x : Offer). x.index) here.1 in
        record { index = omega (arith, same, at, here.0); claimed = inl here.0 }
    | inr before ↦ let k = board.kept j other before in record { index = k.index; claimed = k.claimed }
  ];
}

-- the next place in the words is one of the stream's
pub place_few : (p : Plan) (b : State) → Fits p b → IsBoard b → IsPlan p → b.words.place + 1 < 2 ^ 32
place_few p b fits board plan =
    omega (arith, ap (λ (w : Place). w.place) fits.words, fits.whole, board.behind, board.inside, plan.short)

-- a board with one entry more, and the first slot emptied and put last
pub turned : (b : State) (e : Entry) (next : ℕ) (log : List Entry) (known : List ℕ) (slots : List (Option Offer)) (words : Place) → IsBoard b → front b < b.nodes → next ≡ max b.next (front b + 1) → log ≡ b.log ++ e ∷ [] → slots ≡ drop 1 (set b.slots 0 None) ++ take 1 (set b.slots 0 None) → IsBoard (state b.nodes b.window next log known slots words)
turned b e next log known slots words board left is_next is_log is_slots = record {
  behind = omega (arith, is_next, long);
  inside = omega (arith, is_next, board.inside, left);
  ahead = omega (arith, is_next, long, board.ahead);
  slots = ap length slots_are ∙ length-turned b.slots some ∙ board.slots;
  window_some = board.window_some;
  nodes_few = board.nodes_few;
  kept = λ j o is.
      let k = board.kept (j + 1) o (offer_in_next b.slots j o (ap (λ l. offer_in l j) (sym slots_are) ∙ is)) in
      let claimed : o.index < b.next = elim k.claimed [
        | inl first ↦ absurd (omega arith)
        | inr below ↦ below
      ] in
      record { index = omega (arith, k.index, long); claimed = inr (omega (arith, claimed, is_next)) };
}
  where
    long : length log ≡ front b + 1
    long = ap length is_log ∙ length_push b.log e

    some : 1 ≤ length b.slots
    some = omega (arith, board.slots, board.window_some)

    slots_are : slots ≡ drop 1 b.slots ++ None ∷ []
    slots_are = is_slots ∙ slots_turned b.slots some
