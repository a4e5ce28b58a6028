-- After the finest level every cell is known.
use Rattle.std.proofs.Common.{rules, ◌≡◌, ℕ, zero, suc, ◌+◌, ◌-◌, ◌<◌, ◌≤◌, Bool, true, false, cond, List, [], ◌∷◌, length, get_or, Option, Some, None, is_none, filter, refl, ap, sym, ◌∙◌, arith, inl, inr, subst}
use Rattle.std.specs.List.{All, range_with_len}
use Rattle.std.specs.List.Sorted.{IsPermutation}
use Rattle.std.specs.Option.{IsSome, option_or}
use Rattle.std.proofs.lemmas.Bool.{cases_eq, cond-true, false≢true}
use Rattle.std.proofs.lemmas.List.{get_or_default, length-replicate}
use Rattle.std.proofs.lemmas.List.Elements.{All-head, All-tail, All-map, All-filter}
use Rattle.std.proofs.lemmas.List.FromFn.{get_or-range_with_len, length-range_with_len}
use Rattle.std.proofs.lemmas.List.Sorted.{All-permutation, IsPermutation-sym}
use Rattle.mp_base.specs.declared.cell.Entry.{Entry}
use Rattle.mp_base.specs.Grid.{Field, cat_of, cells_of}
use Rattle.multigrid.specs.Levels.{is_node, nodes_of}
use Rattle.multigrid.proofs.Stepping.{nodes-inside}
use Rattle.hard_data.specs.Start.{datum_or_value, node_start, start_of, values_after}
use Rattle.hard_data.proofs.Known.{start-sides, start_at, finest_node, finest_start}
use Rattle.path_stream.specs.Words.{word_of, stream_of}
use Rattle.path_stream.proofs.Paths.{path_of-permutation, word_of-below}
use Rattle.event_retrieve.specs.Plan.{Plan, cell_of, unknown_nodes}
use Rattle.event_retrieve.specs.Sequential.{sequential}
use Rattle.event_retrieve.proofs.Logs.{IsLog-sequential}
use Rattle.mp_base.specs.Cells.{with_entries}
use Rattle.mp_base.proofs.Entries.{known_after, length-with_entries, stays_known}
use Rattle.seq_engine.specs.declared.setup.Setup.{Setup}
use Rattle.seq_engine.specs.Realisation.{plan_over, values_at, realised}

filter_step : (b : Bool) (x : ℕ) (xs ys : List ℕ) → b ≡ true → ys ≡ xs → cond b (x ∷ ys) ys ≡ x ∷ xs
filter_step true x xs ys holds same = ap (λ l. x ∷ l) same
filter_step false x xs ys holds same = cc

filter_all : (p : ℕ → Bool) → ((x : ℕ) → p x ≡ true) → (xs : List ℕ) → filter p xs ≡ xs
filter_all p all [] = refl
filter_all p all (x ∷ xs) = filter_step (p x) x xs (filter p xs) (all x) (filter_all p all xs)

-- what holds of all numbers that pass holds of one that passes
of_passing : (P : ℕ → Type 0) (p : ℕ → Bool) (a n c : ℕ) → a ≤ c → c < a + n → p c ≡ true → All P (filter p (range_with_len a n)) → P c
of_passing P p a zero c low high passes all = absurd (omega arith)
of_passing P p a (suc n) c low high passes all = go (p a) refl (λ other rest. of_passing P p (a + 1) n c (omega arith) (omega arith) passes rest) all
  where
    go : (b : Bool) → p a ≡ b → ((c ≡ a → ⊥) → All P (filter p (range_with_len (a + 1) n)) → P c) → All P (cond b (a ∷ filter p (range_with_len (a + 1) n)) (filter p (range_with_len (a + 1) n))) → P c
    go true e later holds = elim (cases_eq c a) [
      | inl at ↦ subst P (sym at) (All-head P a (filter p (range_with_len (a + 1) n)) holds)
      | inr other ↦ later other (All-tail P a (filter p (range_with_len (a + 1) n)) holds)
    ]
    go false e later rest = later (λ at. false≢true (sym e ∙ ap p (sym at) ∙ passes)) rest

some_is : (k : ℕ) → IsSome (Some k)
some_is k = search rules

-- a cell is known where it has a hard datum, or else a value
known_or : (datum value : Option ℕ) → (datum ≡ None → IsSome value) → IsSome (option_or datum value)
known_or None value known = known refl
known_or (Some k) value known = some_is k

module _ (s : Setup) (realisation : ℕ) (values : Field) (count : length values.cells ≡ cells_of s.hard.sides) where
  abbrev start : Field
  start = start_of s.hard values 1

  abbrev p : Plan
  p = plan_over s realisation 1 values

  abbrev after : List (Option ℕ)
  after = with_entries values.cells (sequential p)

  abbrev Known : ℕ → Type 0
  Known c = IsSome (cat_of after c)

  e0 : Entry
  e0 = record { cell = 0; cat = 0 }

  abbrev word : ℕ → ℕ
  word = word_of s.seed (stream_of realisation 1)

  permuted : IsPermutation (unknown_nodes start 1) p.path
  permuted = path_of-permutation word (λ place. word_of-below s.seed (stream_of realisation 1) place) (unknown_nodes start 1)

  inside : All (λ c. c < cells_of start.sides) p.path
  inside =
      All-permutation (λ c. c < cells_of start.sides) (unknown_nodes start 1) p.path permuted
      (All-filter (λ c. is_none (cat_of start.cells c)) (λ c. c < cells_of start.sides) (nodes_of start.sides 1) (nodes-inside start.sides 1))

  node_known : (i : ℕ) → i < length p.path → Known (cell_of p i)
  node_known i within =
      let in_log : i < length (sequential p) = omega (arith, (IsLog-sequential p).whole) in
      let at : (get_or (sequential p) i e0).cell ≡ cell_of p i = (IsLog-sequential p).cells i e0 in_log in
      let sides : cells_of start.sides ≡ cells_of s.hard.sides = ap cells_of (start-sides s.hard values 1) in
      subst Known at (known_after values.cells (sequential p) i e0 in_log (omega (arith, count, inside i 0 within)))

  on_path : All Known p.path
  on_path = λ i d within. subst Known (get_or_default p.path i 0 d within) (node_known i within)

  nodes_are : nodes_of start.sides 1 ≡ range_with_len 0 (cells_of start.sides)
  unfolding nodes_of
  nodes_are = filter_all (is_node start.sides 1) (finest_node start.sides) (range_with_len 0 (cells_of start.sides))

  -- a cell with neither hard datum nor value is a node of the path
  simulated : (c : ℕ) → c < cells_of s.hard.sides → cat_of s.hard.cells c ≡ None → cat_of values.cells c ≡ None → Known c
  simulated c below no_datum no_value =
      let unset : datum_or_value s.hard values c ≡ None = (λ i. option_or (no_datum i) (no_value i)) in
      let none : cat_of start.cells c ≡ None =
      start_at s.hard values 1 c below ∙ cond-true (is_node s.hard.sides 1 c) (node_start s.hard values 1 c) None (finest_node s.hard.sides c) ∙ finest_start s.hard values c ∙ unset in
      let nodes : All Known (unknown_nodes start 1) = All-permutation Known p.path (unknown_nodes start 1) (IsPermutation-sym (unknown_nodes start 1) p.path permuted) on_path in
      let sides : cells_of start.sides ≡ cells_of s.hard.sides = ap cells_of (start-sides s.hard values 1) in
      of_passing Known (λ x. is_none (cat_of start.cells x)) 0 (cells_of start.sides) c (omega arith) (omega arith) (ap is_none none)
      (subst (λ (l : List ℕ). All Known (filter (λ x. is_none (cat_of start.cells x)) l)) nodes_are nodes)

  value_known : (c : ℕ) → c < cells_of s.hard.sides → cat_of s.hard.cells c ≡ None → (v : Option ℕ) → cat_of values.cells c ≡ v → Known c
  value_known c below no_datum None is = simulated c below no_datum is
  value_known c below no_datum (Some k) is = stays_known values.cells c (sequential p) (omega (arith, count)) (subst IsSome (sym is) (some_is k))

  pub known_afterwards : (c : ℕ) → c < cells_of s.hard.sides → IsSome (datum_or_value s.hard (values_after values (sequential p)) c)
  known_afterwards c below = known_or (cat_of s.hard.cells c) (cat_of after c) (λ no_datum. value_known c below no_datum (cat_of values.cells c) refl)

length-values : (s : Setup) (realisation k : ℕ) → length (values_at s realisation k).cells ≡ cells_of s.shape
unfolding values_at
length-values s realisation zero = length-replicate (cells_of s.shape) None
length-values s realisation (suc k) = length-with_entries (values_at s realisation k).cells (sequential (plan_over s realisation (s.levels - k) (values_at s realisation k))) ∙ length-values s realisation k

last_values : (s : Setup) (realisation j : ℕ) → s.levels ≡ suc j → values_at s realisation s.levels ≡ values_after (values_at s realisation j) (sequential (plan_over s realisation 1 (values_at s realisation j)))
unfolding values_at
last_values s realisation j is =
    let finest : s.levels - j ≡ 1 = omega arith in
    ap (values_at s realisation) is ∙ ap (λ g. values_after (values_at s realisation j) (sequential (plan_over s realisation g (values_at s realisation j)))) finest

-- every cell of a realisation is known
pub all_known : (s : Setup) (realisation : ℕ) → s.hard.sides ≡ s.shape → 1 ≤ s.levels → All IsSome (realised s realisation).cells
all_known s realisation same some =
    let last = s.levels - 1 in
    let is : s.levels ≡ suc last = omega arith in
    let count : length (values_at s realisation last).cells ≡ cells_of s.hard.sides = length-values s realisation last ∙ ap cells_of (sym same) in
    let sides : cells_of s.hard.sides ≡ cells_of s.shape = ap cells_of same in
    All-map IsSome (datum_or_value s.hard (values_at s realisation s.levels)) (range_with_len 0 (cells_of s.shape))
    (λ k d within.
    let few : k < cells_of s.shape = omega (arith, length-range_with_len 0 (cells_of s.shape)) in
    subst (λ (f : Field). IsSome (datum_or_value s.hard f (get_or (range_with_len 0 (cells_of s.shape)) k d))) (sym (last_values s realisation last is))
    (known_afterwards s realisation (values_at s realisation last) count (get_or (range_with_len 0 (cells_of s.shape)) k d) (omega (arith, get_or-range_with_len 0 (cells_of s.shape) k d few))))
