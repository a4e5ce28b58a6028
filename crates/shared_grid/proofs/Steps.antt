-- Each step on the words keeps the rule.
use Rattle.std.proofs.Common.{◌≡◌, ◌≢◌, ℕ, zero, suc, ◌+◌, ◌-◌, ◌<◌, ◌≤◌, max, List, [], ◌∷◌, ◌++◌, map, length, get_or, set, take, slice_index, Some, refl, ap, sym, ◌∙◌, inl, inr, ⊎_elim, subst, arith, le_refl, le_trans, zero-le}
use Rattle.std.proofs.lemmas.Bool.{cases_eq}
use Rattle.std.proofs.lemmas.List.{set-get_or, map-set}
use mathlib.Core.Option.{Option, some, none, some-injective, some-ne-none}
use lib.ListN.{get_elem?}
use Rattle.atomic_table.specs.Table.{State, Me, step, keeps, Allows, Splits, Joins, opening}
use Rattle.atomic_table.proofs.Lists.{at_set, at_snoc, at_longer, set_again, set_else, set_here}
use Rattle.mp_base.specs.declared.cell.Entry.{Entry}
use Rattle.mp_base.specs.Cells.{with_entries}
use Rattle.mp_base.proofs.Entries.{with_entries_more}
use Rattle.event_retrieve.specs.Plan.{Plan, IsPath, IsLog}
use Rattle.shared_grid.specs.declared.rule.View.{View}
use Rattle.shared_grid.specs.declared.rule.View.TheVariants.{Writes, Reads, Spent}
use Rattle.shared_grid.specs.Rule.{word_of, shown, seen_by, stored_by, IsReaderAt, ViewsFit, IsKept}
use Rattle.shared_grid.specs.Steps.{front_loaded, cell_loaded, cell_stored, front_stored}
use Rattle.shared_grid.proofs.Found.{words_fit}

-- views
writes_reads : (s f seen : ℕ) → Writes s f ≡ Reads seen → ⊥
writes_reads s f seen e = cc

first_some : (views : List View) (v : View) → get_elem? views 0 ≡ some v → 0 < length views
first_some [] v e = absurd (some-ne-none v (sym e))
first_some (x ∷ views) v e = omega arith

later_front : (front front' : ℕ) (v : View) → front ≤ front' → IsReaderAt front v → IsReaderAt front' v
later_front front front' (Writes s f) le fits = fits
later_front front front' (Reads seen) le fits = le_trans fits le
later_front front front' Spent le fits = tt

set_bytes : (ws : List ℕ) (i c n : ℕ) → n ≤ 256 → slice_index ws c ≤ 256 → slice_index (set ws i n) c ≤ 256
set_bytes [] i c n small old = old
set_bytes (w ∷ ws) zero zero n small old = small
set_bytes (w ∷ ws) zero (suc c) n small old = old
set_bytes (w ∷ ws) (suc i) zero n small old = old
set_bytes (w ∷ ws) (suc i) (suc c) n small old = set_bytes ws i c n small old

module _ (p : Plan) (story : List Entry) where
  abbrev Fit : List ℕ → List View → Type 0
  Fit = ViewsFit p story

  -- a reader isn't the first
  reader_apart : (words : List ℕ) (views : List View) (h : Fit words views) (id seen : ℕ) → get_elem? views id ≡ some (Reads seen) → id ≢ 0
  reader_apart words views h id seen at e =
      writes_reads h.stored h.front seen (some-injective _ _ (sym h.writer ∙ ap (get_elem? views) (sym e) ∙ at))

  reader_at : (words : List ℕ) (views : List View) (h : Fit words views) (id seen : ℕ) → get_elem? views id ≡ some (Reads seen) → seen ≤ h.front
  reader_at words views h id seen at = h.readers id (Reads seen) (reader_apart words views h id seen at) at

  -- the writer is the first
  writer_first : (words : List ℕ) (views : List View) (h : Fit words views) (id s f : ℕ) → get_elem? views id ≡ some (Writes s f) → id ≡ 0
  writer_first words views h id s f at = elim (cases_eq id 0) [
    | inl first ↦ first
    | inr apart ↦ absurd (h.readers id (Writes s f) apart at)
  ]

  writer_is : (words : List ℕ) (views : List View) (h : Fit words views) (id s f : ℕ) → get_elem? views id ≡ some (Writes s f) → Writes s f ≡ Writes h.stored h.front
  writer_is words views h id s f at =
      some-injective _ _ (sym at ∙ ap (get_elem? views) (writer_first words views h id s f at) ∙ h.writer)

  knows : (words : List ℕ) (views : List View) (h : Fit words views) (id : ℕ) (v : View) → get_elem? views id ≡ some v → seen_by v ≤ h.front
  knows words views h id (Writes s f) at = let same : f ≡ h.front = ap seen_by (writer_is words views h id s f at) in omega arith
  knows words views h id (Reads seen) at = reader_at words views h id seen at
  knows words views h id Spent at = zero-le

  -- the words stay, and one reader knows something else
  reader_set : (words same : List ℕ) (views : List View) (h : Fit words views) (id : ℕ) (v : View) → same ≡ words → id ≢ 0 → IsReaderAt h.front v → Fit same (set views id v)
  reader_set words same views h id v is apart fits = record {
    stored = h.stored;
    front = h.front;
    writer = set_else views id 0 v (λ e. apart (sym e)) ∙ h.writer;
    words_are = is ∙ h.words_are;
    lower = h.lower;
    upper = h.upper;
    within = h.within;
    bytes = h.bytes;
    readers = λ by u other e. ⊎_elim
        (λ (x : (by ≡ id) × (v ≡ u)). subst (IsReaderAt h.front) x.1 fits)
        (λ (x : (by ≢ id) × (get_elem? views by ≡ some u)). h.readers by u other x.1)
        (at_set views id by v u e);
  }

  -- the writer's step
  writer_set : (words now : List ℕ) (views : List View) (h : Fit words views) (id s f s' f' : ℕ) → get_elem? views id ≡ some (Writes s f) → now ≡ f' ∷ shown p story s' → f ≤ f' → f' ≤ s' → s' ≤ f' + 1 → s' ≤ length story → ((c : ℕ) → slice_index (shown p story s') c ≤ 256) → Fit now (set views id (Writes s' f'))
  writer_set words now views h id s f s' f' at is later lower upper within bytes =
      let first = writer_first words views h id s f at in
      let front : f ≡ h.front = ap seen_by (writer_is words views h id s f at) in
      record {
        stored = s';
        front = f';
        writer = ap (λ i. get_elem? (set views i (Writes s' f')) 0) first ∙ set_here views 0 (Writes s' f') (first_some views (Writes h.stored h.front) h.writer);
        words_are = is;
        lower = lower;
        upper = upper;
        within = within;
        bytes = bytes;
        readers = λ by u other e. ⊎_elim
            (λ (x : (by ≡ id) × (Writes s' f' ≡ u)). absurd (other (x.0 ∙ first)))
            (λ (x : (by ≢ id) × (get_elem? views by ≡ some u)). later_front h.front f' u (omega arith) (h.readers by u other x.1))
            (at_set views id by (Writes s' f') u e);
      }

  -- the words once one more entry is stored
  shown_more : (m : ℕ) (e : Entry) → m < length story → get_or story m e ≡ e → shown p story (m + 1) ≡ set (shown p story m) e.cell (suc e.cat)
  shown_more m e within is =
      ap (map word_of) (with_entries_more p.start.cells story m e within ∙ ap (λ (x : Entry). set (with_entries p.start.cells (take m story)) x.cell (Some x.cat)) is)
      ∙ map-set word_of (with_entries p.start.cells (take m story)) e.cell (Some e.cat)

module _ (p : Plan) (story : List Entry) (path : IsPath p) (is_log : IsLog p story) where
  abbrev S : Type 0
  S = State (Unit {0}) View

  -- the second part of the rule follows from the first
  holds : (words : List ℕ) (homes : List (Option (Unit {0}))) (views : List View) → ViewsFit p story words views → IsKept p story record { words = words; homes = homes; views = views }
  holds words homes views h = record { views = h; words = words_fit p story path is_log words views h }

  same_words : (ws : List ℕ) (i : ℕ) → set ws i (slice_index ws i) ≡ ws
  same_words ws i = set-get_or ws i 0

  pub begins : ((c : ℕ) → slice_index (shown p story 0) c ≤ 256) → IsKept p story (opening (0 ∷ shown p story 0) [] (Writes 0 0))
  begins bytes =
      holds (0 ∷ shown p story 0) [] (Writes 0 0 ∷ []) (record {
        stored = 0;
        front = 0;
        writer = refl;
        words_are = refl;
        lower = le_refl 0;
        upper = zero-le;
        within = zero-le;
        bytes = bytes;
        readers = nobody;
      })
    where
      nobody : (by : ℕ) (v : View) → by ≢ 0 → get_elem? (Writes 0 0 ∷ []) by ≡ some v → IsReaderAt 0 v
      nobody zero v other e = absurd (other refl)
      nobody (suc by) v other e = absurd (some-ne-none v (sym e))

  -- a reader loads the front
  fronts : (slots id seen : ℕ) → Allows (IsKept p story) slots id (Reads seen, []) 0 (λ n. n) (front_loaded story (step slots 0 0 0 none) (Reads seen, []))
  fronts slots id seen s kept _ at _ =
      let h = kept.views in
      let n = slice_index s.words 0 in
      let is : n ≡ h.front = ap (λ (ws : List ℕ). slice_index ws 0) h.words_are in
      let old : seen ≤ h.front = reader_at p story s.words s.views h id seen at in (
        Reads n,
        keeps,
        tt,
        holds _ s.homes _ (reader_set p story s.words _ s.views h id (Reads n) (same_words s.words 0) (reader_apart p story s.words s.views h id seen at) (omega (arith, is))),
        (refl, omega (arith, is, old), kept.words.within),
      )

  -- a reader loads a cell
  cells : (slots id seen c : ℕ) → Allows (IsKept p story) slots id (Reads seen, []) (c + 1) (λ n. n) (cell_loaded p story (step slots (c + 1) 0 0 none) (Reads seen, []))
  cells slots id seen c s kept _ at _ =
      let h = kept.views in
      let n = slice_index s.words (c + 1) in
      let is : n ≡ slice_index (shown p story h.stored) c = ap (λ (ws : List ℕ). slice_index ws (c + 1)) h.words_are ∙ ap (λ (i : ℕ). slice_index (h.front ∷ shown p story h.stored) i) (plus_one c) in
      let old : seen ≤ h.front = reader_at p story s.words s.views h id seen at in (
        Reads seen,
        keeps,
        tt,
        holds _ s.homes _ (reader_set p story s.words _ s.views h id (Reads seen) (same_words s.words (c + 1)) (reader_apart p story s.words s.views h id seen at) old),
        (refl, omega (arith, is, h.bytes c), (h.stored, omega (arith, old, h.lower), h.within, is ∙ ap (slice_index (shown p story h.stored)) (sym (minus_one c)))),
      )
    where
      plus_one : (c : ℕ) → c + 1 ≡ suc c
      plus_one c = omega arith

      minus_one : (c : ℕ) → (c + 1) - 1 ≡ c
      minus_one c = omega arith

  -- the writer stores a cell
  stores : (slots id m : ℕ) (e : Entry) → m < length story → get_or story m e ≡ e → e.cat < 256 → Allows (IsKept p story) slots id (Writes m m, []) (e.cell + 1) (λ _. e.cat + 1) (λ _. cell_stored (step slots (e.cell + 1) (e.cat + 1) 0 none) (Writes m m, []) (e.cat + 1))
  stores slots id m e within is byte s kept _ at _ =
      let h = kept.views in
      let mine = writer_is p story s.words s.views h id m m at in
      let stored : m ≡ h.stored = ap stored_by mine in
      let front : m ≡ h.front = ap seen_by mine in
      let more = shown_more p story m e within is in
      let words : set s.words (e.cell + 1) (e.cat + 1) ≡ m ∷ shown p story (m + 1) =
      ap (λ (ws : List ℕ). set ws (e.cell + 1) (e.cat + 1)) (h.words_are ∙ (λ i. sym front i ∷ shown p story (sym stored i)))
      ∙ ap (λ (i : ℕ). set (m ∷ shown p story m) i (e.cat + 1)) (plus_one e.cell)
      ∙ ap (λ (ws : List ℕ). m ∷ ws) (ap (set (shown p story m) e.cell) (plus_one e.cat) ∙ sym more) in (
        Writes (m + 1) m,
        keeps,
        tt,
        holds _ s.homes _ (writer_set p story s.words _ s.views h id m m (m + 1) m at words (le_refl m) (omega arith) (le_refl (m + 1)) (omega (arith, within)) (λ c. subst (λ (ws : List ℕ). slice_index ws c ≤ 256) (sym more) (below c (subst (λ (k : ℕ). slice_index (shown p story k) c ≤ 256) (sym stored) (h.bytes c))))),
        refl,
      )
    where
      plus_one : (c : ℕ) → c + 1 ≡ suc c
      plus_one c = omega arith

      below : (c : ℕ) → slice_index (shown p story m) c ≤ 256 → slice_index (set (shown p story m) e.cell (suc e.cat)) c ≤ 256
      below c old = set_bytes (shown p story m) e.cell c (suc e.cat) (omega (arith, byte)) old

  -- the writer stores the front
  shows : (slots id m : ℕ) → Allows (IsKept p story) slots id (Writes (m + 1) m, []) 0 (λ _. m + 1) (λ _. front_stored (step slots 0 (m + 1) 0 none) (Writes (m + 1) m, []) (m + 1))
  shows slots id m s kept _ at _ =
      let h = kept.views in
      let mine = writer_is p story s.words s.views h id (m + 1) m at in
      let stored : m + 1 ≡ h.stored = ap stored_by mine in
      let words : set s.words 0 (m + 1) ≡ (m + 1) ∷ shown p story (m + 1) = ap (λ (ws : List ℕ). set ws 0 (m + 1)) (h.words_are ∙ (λ i. h.front ∷ shown p story (sym stored i))) in (
        Writes (m + 1) (m + 1),
        keeps,
        tt,
        holds _ s.homes _ (writer_set p story s.words _ s.views h id (m + 1) m (m + 1) (m + 1) at words (omega arith) (le_refl (m + 1)) (omega arith) (subst (λ (k : ℕ). k ≤ length story) (sym stored) h.within) (subst (λ (k : ℕ). (c : ℕ) → slice_index (shown p story k) c ≤ 256) (sym stored) h.bytes)),
        refl,
      )

  -- a new reader has seen what a pass knows of the front
  pub notes : (id : ℕ) (v : View) → Splits (IsKept p story) id v v (Reads (seen_by v))
  notes id v s kept at = holds s.words s.homes (set s.views id v ++ new ∷ []) (record {
    stored = h.stored;
    front = h.front;
    writer = ap (λ l. get_elem? (l ++ new ∷ []) 0) again ∙ at_longer s.views (new ∷ []) 0 _ h.writer;
    words_are = h.words_are;
    lower = h.lower;
    upper = h.upper;
    within = h.within;
    bytes = h.bytes;
    readers = λ by u other e. ⊎_elim
        (λ was. h.readers by u other (subst (λ l. get_elem? l by ≡ some u) again was))
        (λ (same : new ≡ u). subst (IsReaderAt h.front) same (knows p story s.words s.views h id v at))
        (at_snoc (set s.views id v) new u by e);
  })
    where
      h : ViewsFit p story s.words s.views
      h = kept.views

      new : View
      new = Reads (seen_by v)

      again : set s.views id v ≡ s.views
      again = set_again s.views id v at

  -- a reader takes in a reader
  meets : (id seen other seen' : ℕ) → Joins (IsKept p story) id (Reads seen) other (Reads seen') (Reads (max seen seen')) Spent
  meets id seen other seen' s kept at apart there =
      let h = kept.views in
      let both : View = Reads (max seen seen') in
      let mine = reader_at p story s.words s.views h id seen at in
      let at_other : get_elem? s.views other ≡ some (Reads seen') = ⊎_elim (λ (t : (other ≡ id) × (both ≡ Reads seen')). absurd (apart t.0)) (λ (t : (other ≢ id) × (get_elem? s.views other ≡ some (Reads seen'))). t.1) (at_set s.views id other both (Reads seen') there) in
      let theirs = reader_at p story s.words s.views h other seen' at_other in
      let first = reader_set p story s.words s.words s.views h id both refl (reader_apart p story s.words s.views h id seen at) (omega (arith, mine, theirs)) in
      holds s.words s.homes _ (reader_set p story s.words s.words (set s.views id both) first other Spent refl (reader_apart p story s.words s.views h other seen' at_other) tt)

  -- the same at a pass that is known
  abbrev M : Type 0
  M = Me (Unit {0}) View

  pub fronts_as : (slots id seen : ℕ) (me : M) → me ≡ (Reads seen, []) → Allows (IsKept p story) slots id me 0 (λ n. n) (front_loaded story (step slots 0 0 0 none) me)
  fronts_as slots id seen me is = subst (λ (m : M). Allows (IsKept p story) slots id m 0 (λ n. n) (front_loaded story (step slots 0 0 0 none) m)) (sym is) (fronts slots id seen)

  pub cells_as : (slots id seen c : ℕ) (me : M) → me ≡ (Reads seen, []) → Allows (IsKept p story) slots id me (c + 1) (λ n. n) (cell_loaded p story (step slots (c + 1) 0 0 none) me)
  cells_as slots id seen c me is = subst (λ (m : M). Allows (IsKept p story) slots id m (c + 1) (λ n. n) (cell_loaded p story (step slots (c + 1) 0 0 none) m)) (sym is) (cells slots id seen c)

  pub stores_as : (slots id m n w : ℕ) (e : Entry) (me : M) → me ≡ (Writes m m, []) → w ≡ e.cell + 1 → n ≡ suc e.cat → n ≤ 256 → m < length story → get_or story m e ≡ e → Allows (IsKept p story) slots id me w (λ _. n) (λ _. cell_stored (step slots w n 0 none) me n)
  stores_as slots id m n w e me is place word byte within at =
      let more : n ≡ e.cat + 1 = omega (arith, word) in
      subst (λ (x : M × ℕ × ℕ). Allows (IsKept p story) slots id x.0 x.2 (λ _. x.1) (λ _. cell_stored (step slots x.2 x.1 0 none) x.0 x.1)) (λ i. (sym is i, sym more i, sym place i)) (stores slots id m e within at (omega (arith, word, byte)))

  pub shows_as : (slots id m n : ℕ) (me : M) → me ≡ (Writes (m + 1) m, []) → n ≡ m + 1 → Allows (IsKept p story) slots id me 0 (λ _. n) (λ _. front_stored (step slots 0 n 0 none) me n)
  shows_as slots id m n me is more =
      subst (λ (x : M × ℕ). Allows (IsKept p story) slots id x.0 0 (λ _. x.1) (λ _. front_stored (step slots 0 x.1 0 none) x.0 x.1)) (λ i. (sym is i, sym more i)) (shows slots id m)

  pub meets_as : (id seen other seen' : ℕ) (me them : M) → me ≡ (Reads seen, []) → them ≡ (Reads seen', []) → Joins (IsKept p story) id me.0 other them.0 (Reads (max (seen_by me.0) (seen_by them.0))) Spent
  meets_as id seen other seen' me them is theirs =
      subst (λ (x : M × M). Joins (IsKept p story) id x.0.0 other x.1.0 (Reads (max (seen_by x.0.0) (seen_by x.1.0))) Spent) (λ i. (sym is i, sym theirs i)) (meets id seen other seen')
