-- What is wrong with an offer, and that nothing is exactly where it is of the front and sound.
use Rattle.std.proofs.Common.{◌≡◌, ◌≢◌, ◌⊎◌, ◌↔◌, ℕ, suc, ◌+◌, ◌<◌, ◌≤◌, Bool, true, false, cond, not, ◌&&◌, ◌||◌, ◌==◌, nat_eq, nat_lt, List, [], ◌∷◌, length, Option, Some, None, option_map, Result, Ok, Err, IsErr, IsOk, refl, ap, sym, subst, ◌∙◌, inl, inr, arith}
use Rattle.std.specs.List.{Contains, find, list_any}
use Rattle.std.specs.Option.{option_or}
use Rattle.std.specs.Result.{result_err}
use Rattle.std.specs.Str.{bytes_eq}
use Rattle.std.proofs.lemmas.Bool.{false≢true, cases_eq}
use Rattle.std.proofs.lemmas.Bool.Decides.{nat_tests}
use Rattle.std.proofs.lemmas.Slice.Eq.{bytes_eq-Decides}
use Rattle.mp_base.specs.declared.cell.Entry.{Entry}
use Rattle.mp_base.specs.Cells.{with_entries}
use Rattle.mp_base.specs.Grid.{field, cat_at}
use Rattle.ti_scan.specs.declared.event.Datum.{Datum}
use Rattle.ti_scan.specs.Event.{IsEvent, IsWithin}
use Rattle.ti_scan.specs.Rising.{RisesFrom}
use Rattle.event_retrieve.specs.declared.offer.Offer.{Offer}
use Rattle.event_retrieve.specs.declared.retrieval.Retained.{Retained as RetainedPart}
use Rattle.event_retrieve.specs.Plan.{Plan, nodes_in, cell_of, data_by, known}
use Rattle.event_retrieve.specs.Retrieval.{retained_of}
use Rattle.event_retrieve.specs.Sequential.{log_of, sequential}
use Rattle.event_retrieve.specs.Offer.{IsRetained, IsSound, event_of_turn}
use Rattle.event_retrieve.proofs.Data.{data_by-rises}
use Rattle.event_retrieve.proofs.Fresh.{event_of_turn-rises}
use Rattle.event_retrieve.proofs.Logs.{length-log_of, take-log_of}
use Rattle.event_retrieve.proofs.Members.{IsIn, AllIn, IsIn-from_contains, Contains-from_in, AllIn-from_within, within-from_AllIn, in_rises}
use Rattle.commit_board.specs.declared.vet.OfferFault.{OfferFault}
use Rattle.commit_board.specs.declared.vet.OfferFault.TheVariants.{Index, Seen, Missing, Extra, Retained}
use Rattle.commit_board.specs.Vet.{IsFaultOf, IsFirstOutside, event_fault, first_outside, has_datum, is_same_retained, offer_fault, retained_fault}
use Rattle.commit_board.proofs.Again.{retained_is}

and_parts : (a b : Bool) → (a && b) ≡ true → (a ≡ true) × (b ≡ true)
and_parts true b e = (refl, e)
and_parts false b e = absurd (false≢true e)

or_left : (a b : Bool) → a ≡ true → (a || b) ≡ true
or_left true b e = refl
or_left false b e = absurd (false≢true e)

or_right : (a b : Bool) → b ≡ true → (a || b) ≡ true
or_right true b e = refl
or_right false b e = e

abbrev datum : ℕ → ℕ → Datum
datum q k = record { position = q; cat = k }

-- an event has a datum exactly where the test says so
has-in : (event : List Datum) (d : Datum) → has_datum event d ≡ true → IsIn d event
has-in [] d e = absurd (false≢true e)
has-in (x ∷ xs) d e = go ((x.position == d.position) && (x.cat == d.cat)) refl e (has-in xs d)
  where
    go : (b : Bool) → ((x.position == d.position) && (x.cat == d.cat)) ≡ b → (b || has_datum xs d) ≡ true → (has_datum xs d ≡ true → IsIn d xs) → (d ≡ x) ⊎ IsIn d xs
    go true is e rest =
        let parts = and_parts (x.position == d.position) (x.cat == d.cat) is in
        let place : d.position ≡ x.position = grind (arith, nat_tests, parts.0) in
        let cat : d.cat ≡ x.cat = grind (arith, nat_tests, parts.1) in
        inl (ap (λ (q : ℕ). datum q d.cat) place ∙ ap (datum x.position) cat)
    go false is e rest = inr (rest e)

in-has : (event : List Datum) (d : Datum) → IsIn d event → has_datum event d ≡ true
in-has [] d i = absurd i
in-has (x ∷ xs) d (inl here) =
    let place : (x.position == d.position) ≡ true = let e : d.position ≡ x.position = ap (λ (z : Datum). z.position) here in grind (arith, nat_tests) in
    let cat : (x.cat == d.cat) ≡ true = let e : d.cat ≡ x.cat = ap (λ (z : Datum). z.cat) here in grind (arith, nat_tests) in
    or_left _ (has_datum xs d) (ap (λ b. b && (x.cat == d.cat)) place ∙ cat)
in-has (x ∷ xs) d (inr there) = or_right _ (has_datum xs d) (in-has xs d there)

abbrev lacking : List Datum → Datum → Bool
lacking other d = not (has_datum other d)

abbrev place : Datum → ℕ
place d = d.position

some-none : (d : Datum) → option_map place (Some d) ≡ None → ⊥
some-none d e = cc

some-place : (d : Datum) (q : ℕ) → option_map place (Some d) ≡ Some q → d.position ≡ q
some-place d q e = cc

pub outside-is : (xs ys event other : List Datum) (v : Option ℕ) → v ≡ first_outside xs ys → xs ≡ event → ys ≡ other → v ≡ first_outside event other
outside-is xs ys event other v e first second = e ∙ ap (λ l. first_outside l ys) first ∙ ap (first_outside event) second

-- where no datum is outside, the one event is within the other
outside-none : (event other : List Datum) → first_outside event other ≡ None → AllIn event other
outside-none [] other e d i = absurd i
outside-none (x ∷ xs) other e d i = go (has_datum other x) refl e i (outside-none xs other)
  where
    go : (b : Bool) → has_datum other x ≡ b → option_map place (cond (not b) (Some x) (find (lacking other) xs)) ≡ None → (d ≡ x) ⊎ IsIn d xs → (first_outside xs other ≡ None → AllIn xs other) → IsIn d other
    go true has e (inl here) rest = subst (λ z. IsIn z other) (sym here) (has-in other x has)
    go true has e (inr there) rest = rest e d there
    go false has e i rest = absurd (some-none x e)

none-outside : (event other : List Datum) → AllIn event other → first_outside event other ≡ None
none-outside [] other all = refl
none-outside (x ∷ xs) other all =
    ap (λ b. option_map place (cond (not b) (Some x) (find (lacking other) xs))) (in-has other x (all x (inl refl)))
    ∙ none-outside xs other (λ d i. all d (inr i))

-- the datum that is found is the one at the least position
outside-first : (from last : ℕ) (event other : List Datum) (q : ℕ) → RisesFrom from last event → first_outside event other ≡ Some q → IsFirstOutside event other q
outside-first from last [] other q rises e = absurd (none_some q e)
  where
    none_some : (q : ℕ) → None ≡ Some q → ⊥
    none_some q e = cc
outside-first from last (x ∷ xs) other q rises e = go (has_datum other x) refl e (outside-first (suc x.position) last xs other q rises.2)
  where
    go : (b : Bool) → has_datum other x ≡ b → option_map place (cond (not b) (Some x) (find (lacking other) xs)) ≡ Some q → (first_outside xs other ≡ Some q → IsFirstOutside xs other q) → IsFirstOutside (x ∷ xs) other q
    go true has e rest =
        let later = rest e in
        record {
          datum = later.datum;
          here = later.here;
          inside = Contains-from_in later.datum (x ∷ xs) (inr (IsIn-from_contains later.datum xs later.inside));
          outside = later.outside;
          least = λ d of_event outside. elim (IsIn-from_contains d (x ∷ xs) of_event) [
            | inl first ↦ absurd (outside (Contains-from_in d other (subst (λ z. IsIn z other) (sym first) (has-in other x has))))
            | inr there ↦ later.least d (Contains-from_in d xs there) outside
          ];
        }
    go false has e rest =
        let here = some-place x q e in
        record {
          datum = x;
          here = here;
          inside = Contains-from_in x (x ∷ xs) (inl refl);
          outside = λ within. false≢true (sym has ∙ in-has other x (IsIn-from_contains x other within));
          least = λ d of_event outside. elim (IsIn-from_contains d (x ∷ xs) of_event) [
            | inl first ↦ omega (arith, here, ap place first)
            | inr there ↦ omega (arith, here, (in_rises (suc x.position) last xs d rises.2 there).0)
          ];
        }

-- an event within one that rises up to a position rises up to there itself
rises-within : (from last end : ℕ) (event other : List Datum) → RisesFrom from end event → RisesFrom 1 last other → AllIn event other → RisesFrom from last event
rises-within from last end [] other rises larger all = tt
rises-within from last end (x ∷ xs) other rises larger all =
    (rises.0, (in_rises 1 last other x larger (all x (inl refl))).1, rises-within (suc x.position) last end xs other rises.2 larger (λ d i. all d (inr i)))

abbrev part : ℕ → ℕ → List ℕ → RetainedPart
part len reach counts = record { len = len; reach = reach; counts = counts }

-- the test finds two retained parts the same exactly where they are
same-retained : (r s : RetainedPart) → is_same_retained r s ≡ true → r ≡ s
same-retained r s e =
    let parts = and_parts ((r.len == s.len) && (r.reach == s.reach)) (bytes_eq r.counts s.counts) e in
    let numbers = and_parts (r.len == s.len) (r.reach == s.reach) parts.0 in
    let len : r.len ≡ s.len = grind (arith, nat_tests, numbers.0) in
    let reach : r.reach ≡ s.reach = grind (arith, nat_tests, numbers.1) in
    let counts : r.counts ≡ s.counts = (bytes_eq-Decides r.counts s.counts).0 parts.1 in
    ap (λ (n : ℕ). part n r.reach r.counts) len ∙ ap (λ (n : ℕ). part s.len n r.counts) reach ∙ ap (part s.len s.reach) counts

retained-same : (r s : RetainedPart) → r ≡ s → is_same_retained r s ≡ true
retained-same r s e =
    ap (λ (x : RetainedPart). is_same_retained x s) e ∙ itself s
  where
    itself : (s : RetainedPart) → is_same_retained s s ≡ true
    itself s =
        let len : (s.len == s.len) ≡ true = grind (arith, nat_tests) in
        let reach : (s.reach == s.reach) ≡ true = grind (arith, nat_tests) in
        ap (λ b. b && (s.reach == s.reach) && bytes_eq s.counts s.counts) len ∙ ap (λ b. b && bytes_eq s.counts s.counts) reach ∙ (bytes_eq-Decides s.counts s.counts).1 refl

-- the known event after the entries that were seen is known by them
known-seen : (p : Plan) (seen i : ℕ) → seen ≤ nodes_in p → known p (log_of p seen) seen i ≡ known p (sequential p) seen i
unfolding known
known-seen p seen i le =
    ap (λ (l : List Entry). data_by (λ _ v. cat_at (field p.start.sides (with_entries p.start.cells l)) (cell_of p i) v) p.source.template) (take-log_of p seen seen (omega arith) ∙ sym (take-log_of p seen (nodes_in p) le))

pub known-by : (p : Plan) (log : List Entry) (seen i : ℕ) → log ≡ log_of p seen → seen ≤ nodes_in p → known p log (length log) i ≡ known p (sequential p) seen i
known-by p log seen i is le =
    ap (λ (l : List Entry). known p l (length l) i) is ∙ ap (λ n. known p (log_of p seen) n i) (length-log_of p seen) ∙ known-seen p seen i le

known-rises : (p : Plan) (seen i : ℕ) → RisesFrom 1 (length p.source.template) (known p (sequential p) seen i)
unfolding known
known-rises p seen i = data_by-rises _ p.source.template

abbrev pub fault_by : Option ℕ → Option ℕ → Option OfferFault
fault_by missing extra = option_or (option_map (λ q. Missing q) missing) (option_map (λ q. Extra q) extra)

no-fault : (missing extra : Option ℕ) → fault_by missing extra ≡ None → (missing ≡ None) × (extra ≡ None)
no-fault None None e = (refl, refl)
no-fault None (Some q) e = absurd (some_none (Extra q) e)
  where
    some_none : (f : OfferFault) → Some f ≡ None → ⊥
    some_none f e = cc
no-fault (Some q) extra e = absurd (some_none (Missing q) e)
  where
    some_none : (f : OfferFault) → Some f ≡ None → ⊥
    some_none f e = cc

same-fault : (f g : OfferFault) → Some f ≡ Some g → f ≡ g
same-fault f g e = cc

none-fault : (f : OfferFault) → None ≡ Some f → ⊥
none-fault f e = cc

module _ (p : Plan) (o : Offer) where
  abbrev before : List Datum
  before = known p (sequential p) o.seen o.index

  abbrev turn : List Datum
  turn = event_of_turn p o.index

  -- an event without a fault lies between
  pub between : event_fault p o ≡ None → IsWithin before o.event × IsWithin o.event turn
  between e =
      let none = no-fault (first_outside before o.event) (first_outside o.event turn) e in
      (within-from_AllIn before o.event (outside-none before o.event none.0), within-from_AllIn o.event turn (outside-none o.event turn none.1))

  -- an event that lies between has no fault
  pub no-event_fault : IsWithin before o.event → IsWithin o.event turn → event_fault p o ≡ None
  no-event_fault lower upper =
      ap (λ v. fault_by v (first_outside o.event turn)) (none-outside before o.event (AllIn-from_within before o.event lower))
      ∙ ap (λ v. fault_by None v) (none-outside o.event turn (AllIn-from_within o.event turn upper))

  -- an event without a fault is one of the template
  pub event-rises : (last : ℕ) → RisesFrom 1 last o.event → event_fault p o ≡ None → IsEvent (length p.source.template) o.event
  event-rises last rises e =
      rises-within 1 (length p.source.template) last o.event turn rises (event_of_turn-rises p o.index) (AllIn-from_within o.event turn (between e).1)

  -- a fault of the event is the one that is named
  pub event-means : (last : ℕ) (f : OfferFault) → RisesFrom 1 last o.event → event_fault p o ≡ Some f → IsFaultOf p o f
  event-means last f rises e = go (first_outside before o.event) (first_outside o.event turn) refl refl e
    where
      go : (missing extra : Option ℕ) → first_outside before o.event ≡ missing → first_outside o.event turn ≡ extra → fault_by missing extra ≡ Some f → IsFaultOf p o f
      go (Some q) extra lacks more e =
          subst (IsFaultOf p o) (same-fault (Missing q) f e) (outside-first 1 (length p.source.template) before o.event q (known-rises p o.seen o.index) lacks)
      go None (Some q) lacks more e = subst (IsFaultOf p o) (same-fault (Extra q) f e) (outside-first 1 last o.event turn q rises more)
      go None None lacks more e = absurd (none-fault f e)

  -- what is retained is right
  pub retained-right : retained_fault p o ≡ None → IsRetained p o.event o.retained
  retained-right e = go (is_same_retained o.retained (retained_of p o.event)) refl e
    where
      some_none : (f : OfferFault) → Some f ≡ None → ⊥
      some_none f e = cc

      go : (b : Bool) → is_same_retained o.retained (retained_of p o.event) ≡ b → cond b None (Some (Retained (retained_of p o.event))) ≡ None → IsRetained p o.event o.retained
      go true same e =
          let is = same-retained o.retained (retained_of p o.event) same in
          record { len = ap (λ (r : RetainedPart). r.len) is; reach = ap (λ (r : RetainedPart). r.reach) is; counts = ap (λ (r : RetainedPart). r.counts) is }
      go false same e = absurd (some_none (Retained (retained_of p o.event)) e)

  pub no-retained_fault : IsRetained p o.event o.retained → retained_fault p o ≡ None
  no-retained_fault kept =
      ap (λ b. cond b None (Some (Retained (retained_of p o.event)))) (retained-same o.retained (retained_of p o.event) (retained_is p o.event o.retained kept))

  -- an offer that lies between and retains what is right is sound
  pub is_sound : (last : ℕ) → RisesFrom 1 last o.event → o.index < nodes_in p → o.seen ≤ o.index → event_fault p o ≡ None → retained_fault p o ≡ None → IsSound p o
  is_sound last rises within before_turn event kept = record {
    in_path = within;
    before = before_turn;
    event = event-rises last rises event;
    lower = (between event).0;
    upper = (between event).1;
    retained = retained-right kept;
  }

  -- a sound offer has no fault but by its index
  pub no_fault : IsSound p o → (event_fault p o ≡ None) × (retained_fault p o ≡ None)
  no_fault sound = (no-event_fault sound.lower sound.upper, no-retained_fault sound.retained)

-- a vetting is passed exactly where it finds no fault
pub passed : {T : Type 0} (r : Result T OfferFault) (v : Option OfferFault) (S : Type 0) → result_err r ≡ v → (v ≡ None → S) → (S → v ≡ None) → IsOk r ↔ S
passed (Ok x) v S is sound none = (λ _. sound (sym is), λ _. refl)
passed (Err f) v S is sound none = (λ ok. absurd (false≢true ok), λ s. absurd (none-fault f (sym (is ∙ none s))))

pub refused : {T : Type 0} (r : Result T OfferFault) (f : OfferFault) (v : Option OfferFault) (S : Type 0) → IsErr r → Some f ≡ v → (S → v ≡ None) → IsOk r ↔ S
refused (Ok x) f v S err is none = absurd (false≢true err)
refused (Err e) f v S err is none = (λ ok. absurd (false≢true ok), λ s. absurd (none-fault f (sym (is ∙ none s))))
