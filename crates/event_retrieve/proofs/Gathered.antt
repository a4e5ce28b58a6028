-- What is gathered cell by cell, while entries are committed, lies between two known events.
use Rattle.std.proofs.Common.{◌≡◌, ◌⊎◌, ℕ, ◌+◌, ◌-◌, ◌<◌, ◌≤◌, Bool, true, false, cond, List, [], ◌∷◌, ◌++◌, length, Option, Some, None, slice_get, option_to_list, nat_lt, refl, ap, sym, ◌∙◌, inl, inr, subst, arith}
use Rattle.std.specs.Option.{option_and_then}
use Rattle.std.proofs.lemmas.Bool.{cases_lt, false≢true}
use Rattle.std.proofs.lemmas.Bool.Decides.{nat_tests}
use Rattle.std.proofs.lemmas.List.{append-nil}
use Rattle.mp_base.specs.declared.cell.Vector.{Vector}
use Rattle.mp_base.specs.Grid.{cat_of, cat_at, cell_at}
use Rattle.ti_scan.specs.declared.event.Datum.{Datum}
use Rattle.ti_scan.specs.Event.{IsWithin}
use Rattle.ti_scan.specs.Rising.{RisesFrom, next_position}
use Rattle.ti_scan.proofs.RisingLemmas.{next_from-le, RisesFrom-push, RisesFrom-wider}
use Rattle.event_retrieve.specs.declared.gather.Wanted.TheVariants.{Done, Later, Cell}
use Rattle.event_retrieve.specs.Plan.{Plan, nodes_in, cell_of, cell_at_position, datum_at, grid_at, known, IsPath, IsFront}
use Rattle.event_retrieve.specs.Retrieval.{up_to}
use Rattle.event_retrieve.specs.Sequential.{sequential}
use Rattle.event_retrieve.specs.Offer.{event_of_turn}
use Rattle.event_retrieve.specs.Gather.{Gathering, is_early, wanted_at, wanted_of, MayPut, IfCell, after_put, LiesBetween, MayBeRead}
use Rattle.event_retrieve.proofs.Between.{early_if_known, known_by}
use Rattle.event_retrieve.proofs.Data.{data_by-rises}
use Rattle.event_retrieve.proofs.Fresh.{known_cell}
use Rattle.event_retrieve.proofs.Fronts.{IsFront-log, none_some, some_same, stays_until}
use Rattle.event_retrieve.proofs.Logs.{IsLog-sequential, length-log_of}
use Rattle.event_retrieve.proofs.Members.{IsIn, AllIn-from_within, within-from_AllIn, in_push, push_in, in_last, in_up_to, up_to-in, in_rises, found_if_in, in_if_found}

abbrev datum : ℕ → ℕ → Datum
datum q k = record { position = q; cat = k }

-- what a value that is put says of the cell at its position
pub record IsTold (p : Plan) (seen i position : ℕ) (value : Option ℕ) : Type 0 where
  pub some : (k : ℕ) → value ≡ Some k → (c : ℕ) × (cell_at_position p i position ≡ Some c) × (cat_of (grid_at p (sequential p) i).cells c ≡ Some k)
  pub none : value ≡ None → (c : ℕ) → cell_at_position p i position ≡ Some c → is_early p i c ≡ true → cat_of (grid_at p (sequential p) seen).cells c ≡ None

told_at : (p : Plan) (seen i position : ℕ) (value cell : Option ℕ) → cell_at_position p i position ≡ cell → MayPut (wanted_at p i position cell) value → IfCell (wanted_at p i position cell) (λ c. MayBeRead p seen i c value) → IsTold p seen i position value
told_at p seen i position value None at may read = record {
  some = λ k is. absurd (none_some k (sym may ∙ is));
  none = λ _ c here. absurd (none_some c (sym at ∙ here));
}
told_at p seen i position value (Some c) at may read = go (is_early p i c) refl may read
  where
    go : (b : Bool) → is_early p i c ≡ b → MayPut (cond b (Cell position c) (Later position)) value → IfCell (cond b (Cell position c) (Later position)) (λ x. MayBeRead p seen i x value) → IsTold p seen i position value
    go true early may read = record {
      some = λ k is. (c, at, read.some k is);
      none = λ is d here _. let same : c ≡ d = some_same c d (sym at ∙ here) in ap (cat_of (grid_at p (sequential p) seen).cells) (sym same) ∙ read.none is;
    }
    go false late may read = record {
      some = λ k is. absurd (none_some k (sym may ∙ is));
      none = λ is d here early. let same : c ≡ d = some_same c d (sym at ∙ here) in absurd (false≢true (sym late ∙ ap (is_early p i) same ∙ early));
    }

-- a value may be put only where something is wanted
pub may_not_done : (p : Plan) (g : Gathering) (value : Option ℕ) → MayPut (wanted_of p g) value → g.position ≤ length p.source.template
may_not_done p g value may = elim (cases_lt (length p.source.template) g.position) [
  | inl past ↦
      let yes : nat_lt (length p.source.template) g.position ≡ true = grind (arith, nat_tests) in
      absurd (subst (λ b. MayPut (cond b Done (wanted_at p g.index g.position (cell_at_position p g.index g.position))) value) yes may)
  | inr within ↦ within
]

told : (p : Plan) (seen : ℕ) (g : Gathering) (value : Option ℕ) → MayPut (wanted_of p g) value → IfCell (wanted_of p g) (λ c. MayBeRead p seen g.index c value) → IsTold p seen g.index g.position value
told p seen g value may read =
    let within = may_not_done p g value may in
    let no : nat_lt (length p.source.template) g.position ≡ false = grind (arith, nat_tests) in
    let at = cell_at_position p g.index g.position in
    told_at p seen g.index g.position value at refl
    (subst (λ b. MayPut (cond b Done (wanted_at p g.index g.position at)) value) no may)
    (subst (λ b. IfCell (cond b Done (wanted_at p g.index g.position at)) (λ c. MayBeRead p seen g.index c value)) no read)

-- what is found at the next position
module _ (p : Plan) (path : IsPath p) (seen i q : ℕ) (value : Option ℕ) (le : seen ≤ i) (in_path : i < nodes_in p) (some : 1 ≤ q) (is : IsTold p seen i q value) where
  abbrev at : ℕ → ℕ → Vector → Option ℕ
  at m _ v = cat_at (grid_at p (sequential p) m) (cell_of p i) v

  front : IsFront p (sequential p)
  front = IsFront-log p (sequential p) (IsLog-sequential p)

  long : length (sequential p) ≡ nodes_in p
  long = length-log_of p (nodes_in p)

  -- a datum of the lower event at that position is the one that was put
  lower_is : (d : Datum) → IsIn d (known p (sequential p) seen i) → d.position ≡ q → value ≡ Some d.cat
  unfolding known
  lower_is d is_in here =
      let f = found_if_in (at seen) 1 p.source.template d is_in in
      let c = known_cell (cell_at p.start.sides (cell_of p i) f.vector) (grid_at p (sequential p) seen).cells d.cat f.found in
      let index : q - 1 ≡ f.index = omega (arith, f.position) in
      let stands : cell_at_position p i q ≡ Some c.0 = ap (λ n. option_and_then (cell_at p.start.sides (cell_of p i)) (slice_get p.source.template n)) index ∙ ap (option_and_then (cell_at p.start.sides (cell_of p i))) f.stands ∙ c.1 in
      go c.0 stands c.2 value refl
    where
      go : (c : ℕ) → cell_at_position p i q ≡ Some c → cat_of (grid_at p (sequential p) seen).cells c ≡ Some d.cat → (v : Option ℕ) → value ≡ v → v ≡ Some d.cat
      go c stands has None none =
          absurd (none_some d.cat (sym (is.none none c stands (early_if_known p (sequential p) path (IsLog-sequential p) seen i c d.cat (omega arith) le has)) ∙ has))
      go c stands has (Some k) some =
          let t = is.some k some in
          let same : t.0 ≡ c = some_same t.0 c (sym t.1 ∙ stands) in
          let later = stays_until p (sequential p) path front seen i c d.cat le (omega (arith, long)) has in
          sym t.2 ∙ ap (cat_of (grid_at p (sequential p) i).cells) same ∙ later

  -- the datum that was put is one of the turn's
  upper_in : (k : ℕ) → value ≡ Some k → IsIn (datum q k) (event_of_turn p i)
  unfolding known
  upper_in k put =
      let t = is.some k put in
      let w = vector_of (cell_at p.start.sides (cell_of p i)) t.0 (slice_get p.source.template (q - 1)) t.1 in
      let found : at i (1 + (q - 1)) w.0 ≡ Some k = ap (option_and_then (cat_of (grid_at p (sequential p) i).cells)) w.2 ∙ t.2 in
      let next : 1 + (q - 1) ≡ q = omega arith in
      subst (λ n. IsIn (datum n k) (event_of_turn p i)) next (in_if_found (at i) 1 (q - 1) p.source.template w.0 k w.1 found)
    where
      vector_of : (f : Vector → Option ℕ) (c : ℕ) (x : Option Vector) → option_and_then f x ≡ Some c → (w : Vector) × (x ≡ Some w) × (f w ≡ Some c)
      vector_of f c None e = absurd (none_some c e)
      vector_of f c (Some w) e = (w, refl, e)

-- the data with the one that was put
abbrev with_value : List Datum → ℕ → Option ℕ → List Datum
with_value event q value = event ++ option_to_list (datum_at q value)

in_with : (d : Datum) (event : List Datum) (q : ℕ) (value : Option ℕ) → IsIn d event → IsIn d (with_value event q value)
in_with d event q None is_in = subst (IsIn d) (sym (append-nil event)) is_in
in_with d event q (Some k) is_in = push_in d (datum q k) event is_in

with_in : (d : Datum) (event : List Datum) (q : ℕ) (value : Option ℕ) → IsIn d (with_value event q value) → IsIn d event ⊎ ((k : ℕ) × (value ≡ Some k) × (d ≡ datum q k))
with_in d event q None is_in = inl (subst (IsIn d) (append-nil event) is_in)
with_in d event q (Some k) is_in = elim (in_push d (datum q k) event is_in) [
  | inl before ↦ inl before
  | inr last ↦ inr (k, refl, last)
]

-- With one more value that may be read the gathering still lies between.
pub put_between : (p : Plan) → IsPath p → (seen : ℕ) (g : Gathering) (value : Option ℕ) → seen ≤ g.index → g.index < nodes_in p → 1 ≤ g.position → MayPut (wanted_of p g) value → IfCell (wanted_of p g) (λ c. MayBeRead p seen g.index c value) → LiesBetween p seen g → LiesBetween p seen (after_put g value)
put_between p path seen g value le in_path some may read lies =
    let same : g.position + 1 - 1 ≡ g.position = omega arith in
    record {
      lower = within-from_AllIn _ _ (λ d is_in. lower d (subst (λ n. IsIn d (up_to n (known p (sequential p) seen g.index))) same is_in));
      upper = within-from_AllIn _ _ (λ d is_in. subst (λ n. IsIn d (up_to n (event_of_turn p g.index))) (sym same) (upper d is_in));
    }
  where
    is : IsTold p seen g.index g.position value
    is = told p seen g value may read

    lower : (d : Datum) → IsIn d (up_to g.position (known p (sequential p) seen g.index)) → IsIn d (with_value g.event g.position value)
    lower d is_in =
        let low = in_up_to g.position (known p (sequential p) seen g.index) d is_in in
        elim (cases_lt d.position g.position) [
          | inl before ↦
              in_with d g.event g.position value (AllIn-from_within _ _ lies.lower d (up_to-in (g.position - 1) (known p (sequential p) seen g.index) d low.0 (omega arith)))
          | inr at ↦
              let here : d.position ≡ g.position = omega (arith, at, low.1) in
              let put : value ≡ Some d.cat = lower_is p path seen g.index g.position value le in_path some is d low.0 here in
              subst (λ v. IsIn d (with_value g.event g.position v)) (sym put) (subst (λ n. IsIn d (g.event ++ datum n d.cat ∷ [])) here (in_last d g.event))
        ]

    upper : (d : Datum) → IsIn d (with_value g.event g.position value) → IsIn d (up_to g.position (event_of_turn p g.index))
    upper d is_in = elim (with_in d g.event g.position value is_in) [
      | inl before ↦
          let low = in_up_to (g.position - 1) (event_of_turn p g.index) d (AllIn-from_within _ _ lies.upper d before) in
          up_to-in g.position (event_of_turn p g.index) d low.0 (omega (arith, low.1))
      | inr last ↦
          let turn = upper_in p path seen g.index g.position value le in_path some is last.0 last.1 in
          subst (λ e. IsIn e (up_to g.position (event_of_turn p g.index))) (sym last.2) (up_to-in g.position (event_of_turn p g.index) (datum g.position last.0) turn (omega arith))
    ]

-- At the beginning nothing is gathered, and it lies between.
pub empty_between : (p : Plan) (seen i : ℕ) → LiesBetween p seen (record { index = i; position = 1; event = [] })
unfolding known
empty_between p seen i = record {
  lower = within-from_AllIn (up_to 0 (known p (sequential p) seen i)) [] (λ d is_in.
      let low = in_up_to 0 (known p (sequential p) seen i) d is_in in
      absurd (omega (arith, low.1, (in_rises 1 (length p.source.template) (known p (sequential p) seen i) d (data_by-rises _ p.source.template) low.0).0)));
  upper = λ k d in_list. absurd (omega arith);
}

-- When all positions were put the offer of what is retained is sound.
pub between_all : (p : Plan) (seen : ℕ) (g : Gathering) → length p.source.template < g.position → LiesBetween p seen g → IsWithin (known p (sequential p) seen g.index) g.event × IsWithin g.event (event_of_turn p g.index)
unfolding known
between_all p seen g all lies = (
  within-from_AllIn _ _ (λ d is_in.
      AllIn-from_within _ _ lies.lower d (up_to-in (g.position - 1) (known p (sequential p) seen g.index) d is_in (omega (arith, all, (in_rises 1 (length p.source.template) (known p (sequential p) seen g.index) d (data_by-rises _ p.source.template) is_in).1)))),
  within-from_AllIn _ _ (λ d is_in.
      (in_up_to (g.position - 1) (event_of_turn p g.index) d (AllIn-from_within _ _ lies.upper d is_in)).0),
)

-- What a cell has after as many entries as were seen or more, before the node's turn or later, may be read of it.
pub read_after : (p : Plan) → IsPath p → (seen i m c : ℕ) → seen ≤ m → m ≤ nodes_in p → i ≤ nodes_in p → is_early p i c ≡ true → MayBeRead p seen i c (cat_of (grid_at p (sequential p) m).cells c)
read_after p path seen i m c later within turn early = record {
  some = λ k is. known_by p (sequential p) path (IsLog-sequential p) m i c k within turn early is;
  none = λ is. unknown_before (cat_of (grid_at p (sequential p) seen).cells c) refl is;
}
  where
    unknown_before : (v : Option ℕ) → cat_of (grid_at p (sequential p) seen).cells c ≡ v → cat_of (grid_at p (sequential p) m).cells c ≡ None → v ≡ None
    unknown_before None is none = refl
    unknown_before (Some k) is none =
        absurd (none_some k (sym none ∙ stays_until p (sequential p) path (IsFront-log p (sequential p) (IsLog-sequential p)) seen m c k later (omega (arith, length-log_of p (nodes_in p))) is))

-- data before a position leave room for one there
pub room : (position : ℕ) (event : List Datum) → 1 ≤ position → RisesFrom 1 (position - 1) event → next_position event ≤ position
room position event some rising = omega (arith, some, next_from-le 1 (position - 1) event (omega arith) rising)

-- what is put rises
pub put_one : (position : ℕ) (event : List Datum) (value : Option ℕ) → 1 ≤ position → RisesFrom 1 (position - 1) event → RisesFrom 1 position (event ++ option_to_list (datum_at position value))
put_one position event None some rising =
    subst (RisesFrom 1 position) (sym (append-nil event)) (RisesFrom-wider 1 (position - 1) position event (omega arith) rising)
put_one position event (Some k) some rising =
    RisesFrom-push 1 position event (record { position = position; cat = k }) (RisesFrom-wider 1 (position - 1) position event (omega arith) rising) (room position event some rising) (omega arith)

pub put_rises : (g : Gathering) (value : Option ℕ) → 1 ≤ g.position → RisesFrom 1 (g.position - 1) g.event → RisesFrom 1 (g.position + 1 - 1) (after_put g value).event
put_rises g value some rising =
    let last : g.position + 1 - 1 ≡ g.position = omega arith in
    subst (λ n. RisesFrom 1 n (after_put g value).event) (sym last) (put_one g.position g.event value some rising)
