-- What is found around a path node.
use Rattle.std.proofs.Common.{arith, ◌≡◌, ◌∙◌, ◌<◌, ◌≤◌, ap, refl, subst, sym, ℕ, Bool, true, false, ◌||◌, List, [], ◌∷◌, ◌++◌, inl, inr, Option, Some, None, is_some, length, nat_le, nat_lt, slice_index_or, ◌+◌, if◌then◌else◌, rules}
use Rattle.std.specs.Option.{option_map_or}
use Rattle.std.proofs.lemmas.Bool.{cases_lt, false≢true}
use Rattle.std.proofs.lemmas.Bool.Decides.{nat_tests}
use Rattle.std.proofs.lemmas.List.{get_or_append_left, get_or_push, length_push}
use Rattle.mp_base.specs.declared.cell.Entry.{Entry}
use Rattle.mp_base.specs.Grid.{cat_of}
use Rattle.path_stream.specs.Ranks.{comes_later, rank_in}
use Rattle.path_stream.proofs.Slots.{rank_in-here}
use Rattle.event_retrieve.specs.Gather.{Gathering, IfCell, MayBeRead, MayPut, is_early, wanted_at, wanted_of}
use Rattle.event_retrieve.specs.Plan.{Plan, IsPlan, cell_at_position, nodes_in}
use Rattle.event_retrieve.specs.Sequential.{sequential}
use Rattle.event_retrieve.specs.declared.gather.Wanted.{Wanted}
use Rattle.event_retrieve.specs.declared.gather.Wanted.TheVariants.{Cell, Later}
use Rattle.event_retrieve.proofs.Between.{early_if_known}
use Rattle.event_retrieve.proofs.Logs.{IsLog-sequential, length-log_of}
use Rattle.shared_grid.specs.Reads.{ShowsSince}
use Rattle.spec_run.specs.Found.{MayBeFound}
use Rattle.spec_run.proofs.Showing.{shown_may}

-- whether a cell is early, by whether it is known at the start and by its rank
early_by : (start : Bool) (rank : Option ℕ) (i m : ℕ)
    → option_map_or (λ r. nat_le i r) rank false ≡ false
    → (start || option_map_or (λ r. nat_lt r m) rank false) ≡ true
    → (start || option_map_or (λ r. nat_lt r i) rank false) ≡ true
early_by true rank i m late early = refl
early_by false None i m late early = early
early_by false (Some r) i m late early = grind (arith, nat_tests)

late_by : (start : Bool) (rank : Option ℕ) (i : ℕ)
    → start ≡ false
    → option_map_or (λ r. nat_le i r) rank false ≡ true
    → (start || option_map_or (λ r. nat_lt r i) rank false) ≡ false
late_by start None i unknown later = absurd (false≢true later)
late_by start (Some r) i unknown later = grind (arith, nat_tests)

module _ (p : Plan) (plan : IsPlan p) (i c : ℕ) where
  start_of : (rank : Option ℕ) → rank ≡ rank_in p.path c → option_map_or (λ r. nat_le i r) rank false ≡ true → is_some (cat_of p.start.cells c) ≡ false
  start_of None is later = absurd (false≢true later)
  start_of (Some r) is later =
      let here = rank_in-here p.path c (Some r) is in
      ap (λ (v : Option ℕ). is_some v) (ap (cat_of p.start.cells) (sym here.1) ∙ plan.path.unknown r here.0)

  -- a cell whose turn comes later isn't early
  later_late : comes_later p.path i c ≡ true → is_early p i c ≡ false
  later_late later = late_by (is_some (cat_of p.start.cells c)) (rank_in p.path c) i (start_of (rank_in p.path c) refl later) later

  -- what is shown of a cell that is neither early nor comes later
  nothing_shown : (seen : ℕ) (v : Option ℕ) → comes_later p.path i c ≡ false → is_early p i c ≡ false → ShowsSince p (sequential p) seen c v → v ≡ None
  nothing_shown seen None later early shows = refl
  nothing_shown seen (Some k) later early shows =
      let m = shows.0 in
      let within : m ≤ length p.path = omega (arith, shows.2, length-log_of p (nodes_in p)) in
      let was_early = early_if_known p (sequential p) plan.path (IsLog-sequential p) m m c k within (omega arith) (sym shows.3) in
      absurd (false≢true (sym early ∙ early_by (is_some (cat_of p.start.cells c)) (rank_in p.path c) i m later was_early))

module _ (p : Plan) (seen i position : ℕ) where
  abbrev MayBeAt : Option ℕ → Option ℕ → Type 0
  MayBeAt cell v = MayPut (wanted_at p i position cell) v × IfCell (wanted_at p i position cell) (λ c. MayBeRead p seen i c v)

  module _ (plan : IsPlan p) (within : i < nodes_in p) (c : ℕ) (is : cell_at_position p i position ≡ Some c) where
    found_by : (v : Option ℕ) (early : Bool) → early ≡ is_early p i c
        → (early ≡ false → v ≡ None) → (early ≡ true → MayBeRead p seen i c v)
        → MayBeFound p seen i position v
    found_by v true early none read =
        let there = subst (λ o. MayBeAt o v) (sym is) (subst (λ b. MayPut (if b then Cell position c else Later position) v × IfCell (if b then Cell position c else Later position) (λ d. MayBeRead p seen i d v)) early (tt, read refl)) in
        record { put = there.0; read = there.1 }
    found_by v false early none read =
        let there = subst (λ o. MayBeAt o v) (sym is) (subst (λ b. MayPut (if b then Cell position c else Later position) v × IfCell (if b then Cell position c else Later position) (λ d. MayBeRead p seen i d v)) early (none refl, tt)) in
        record { put = there.0; read = there.1 }

    -- the cell's turn comes later
    pub found_later : comes_later p.path i c ≡ true → MayBeFound p seen i position None
    found_later later = found_by None (is_early p i c) refl (λ _. refl) (λ early. absurd (false≢true (sym (later_late p plan i c later) ∙ early)))

    -- the cell shows a value
    pub found_shown : (v : Option ℕ) → comes_later p.path i c ≡ false → ShowsSince p (sequential p) seen c v → MayBeFound p seen i position v
    found_shown v later shows = found_by v (is_early p i c) refl
        (λ early. nothing_shown p plan i c seen v later early shows)
        (λ early. shown_may p plan (sequential p) refl seen i c v within early shows)

-- what is shown by the words of a name is shown over its plan and the sequential log
pub shown_by : (p named : Plan) (story : List Entry) (seen c : ℕ) (v : Option ℕ) → p ≡ named → story ≡ sequential named → ShowsSince named story seen c v → ShowsSince p (sequential p) seen c v
shown_by p named story seen c v same is shows =
    subst (λ q. ShowsSince q (sequential q) seen c v) (sym same) (subst (λ s. ShowsSince named s seen c v) is shows)

-- what is wanted at the next position is what is wanted at that of the template
module _ (p : Plan) (g : Gathering) (left : g.position ≤ length p.source.template) where
  wanted_here : wanted_of p g ≡ wanted_at p g.index g.position (cell_at_position p g.index g.position)
  wanted_here = search rules

  module _ (seen : ℕ) (v : Option ℕ) (found : MayBeFound p seen g.index g.position v) where
    -- what was found may be put
    pub found_put : MayPut (wanted_of p g) v
    found_put = subst (λ (w : Wanted). MayPut w v) (sym wanted_here) found.put

    pub found_read : IfCell (wanted_of p g) (λ c. MayBeRead p seen g.index c v)
    found_read = subst (λ (w : Wanted). IfCell w (λ c. MayBeRead p seen g.index c v)) (sym wanted_here) found.read

-- what was found at the next position
module _ (p : Plan) (seen i n : ℕ) (g : Gathering) (found items : List (Option ℕ)) (v : Option ℕ) where
  pub found_next : g.index ≡ i → g.position ≡ n + 1 → items ≡ found → n < length items → v ≡ slice_index_or items n v
      → ((k : ℕ) (d : Option ℕ) → k < length found → MayBeFound p seen i (k + 1) (slice_index_or found k d))
      → MayBeFound p seen g.index g.position v
  found_next index position same within is all =
      let here : v ≡ slice_index_or found n v = is ∙ ap (λ (xs : List (Option ℕ)). slice_index_or xs n v) same in
      let below : n < length found = omega (arith, within, ap (λ (xs : List (Option ℕ)). length xs) same) in
      subst (λ j. MayBeFound p seen j g.position v) (sym index)
      (subst (λ q. MayBeFound p seen i q v) (sym position)
      (subst (λ w. MayBeFound p seen i (n + 1) w) (sym here) (all n v below)))

-- what was found at one more position
module _ (p : Plan) (seen i n : ℕ) (before now : List (Option ℕ)) (v : Option ℕ) where
  pub found_more : now ≡ before ++ v ∷ [] → length before ≡ n
      → ((k : ℕ) (d : Option ℕ) → k < length before → MayBeFound p seen i (k + 1) (slice_index_or before k d))
      → MayBeFound p seen i (n + 1) v
      → (k : ℕ) (d : Option ℕ) → k < length now → MayBeFound p seen i (k + 1) (slice_index_or now k d)
  found_more is many kept new k d within =
      let longer : length now ≡ n + 1 = ap (λ (xs : List (Option ℕ)). length xs) is ∙ length_push before v ∙ ap (λ m. m + 1) many in
      elim (cases_lt k n) [
        | inl earlier ↦
            let below : k < length before = omega (arith, earlier, many) in
            let here : slice_index_or now k d ≡ slice_index_or before k d = ap (λ (xs : List (Option ℕ)). slice_index_or xs k d) is ∙ get_or_append_left before (v ∷ []) d k below in
            subst (λ w. MayBeFound p seen i (k + 1) w) (sym here) (kept k d below)
        | inr last ↦
            let same : k ≡ n = omega (arith, within, longer, last) in
            let here : slice_index_or now k d ≡ v = ap (λ (xs : List (Option ℕ)). slice_index_or xs k d) is ∙ get_or_push before v d k (many ∙ sym same) in
            subst (λ w. MayBeFound p seen i (k + 1) w) (sym here) (subst (λ m. MayBeFound p seen i (m + 1) v) (sym same) new)
      ]
