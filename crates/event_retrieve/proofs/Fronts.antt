-- Cells after the entries of the path's first nodes, one entry after another.
use Rattle.std.proofs.Common.{◌≡◌, ◌⊎◌, ℕ, zero, suc, ◌+◌, ◌-◌, ◌<◌, ◌≤◌, true, false, is_some, List, length, get_or, set, take, Option, Some, None, inl, inr, refl, ap, sym, ◌∙◌, arith, subst, add-zero}
use Rattle.std.proofs.lemmas.Bool.{cases_eq, false≢true}
use Rattle.std.proofs.lemmas.List.Sums.{fold_more}
use Rattle.std.proofs.Math.Numerals.{add-one}
use Rattle.mp_base.specs.declared.cell.Entry.{Entry}
use Rattle.mp_base.specs.Grid.{cat_of}
use Rattle.mp_base.specs.Cells.{with_entries}
use Rattle.mp_base.proofs.Entries.{cat_of-set_same, cat_of-set_other, length-with_entries}
use Rattle.path_stream.specs.Ranks.{rank_in}
use Rattle.path_stream.proofs.Slots.{rank_in-at, rank_in-here}
use Rattle.event_retrieve.specs.Plan.{Plan, cell_of, IsPath, IsLog, IsFront}

pub some_same : (i j : ℕ) → Some i ≡ Some j → i ≡ j
some_same i j e = cc

pub none_some : (k : ℕ) → None ≡ Some k → ⊥
none_some k e = cc

pub some_value : (v : Option ℕ) → is_some v ≡ true → (k : ℕ) × (v ≡ Some k)
some_value None e = absurd (false≢true e)
some_value (Some k) e = (k, refl)

pub none_value : (v : Option ℕ) → is_some v ≡ false → v ≡ None
none_value None e = refl
none_value (Some k) e = absurd (false≢true (sym e))

-- nodes of a path differ
pub nodes_apart : (p : Plan) → IsPath p → (i j : ℕ) → i < length p.path → j < length p.path → cell_of p i ≡ cell_of p j → i ≡ j
nodes_apart p path i j in_i in_j same =
    some_same i j (sym (rank_in-at p.path i in_i path.distinct) ∙ ap (rank_in p.path) same ∙ rank_in-at p.path j in_j path.distinct)

-- a log of the whole path has its first nodes
pub IsFront-log : (p : Plan) (log : List Entry) → IsLog p log → IsFront p log
IsFront-log p log is_log = record { short = omega (arith, is_log.whole); cells = is_log.cells }

module _ (p : Plan) (log : List Entry) (path : IsPath p) (front : IsFront p log) where
  abbrev cells_at : ℕ → List (Option ℕ)
  cells_at m = with_entries p.start.cells (take m log)

  abbrev e0 : Entry
  e0 = record { cell = 0; cat = 0 }

  on_path : (m : ℕ) → m < length log → m < length p.path
  on_path m within = omega (arith, front.short)

  cells_more : (m : ℕ) → m < length log → cells_at (m + 1) ≡ set (cells_at m) (cell_of p m) (Some (get_or log m e0).cat)
  cells_more m within =
      fold_more (λ (now : List (Option ℕ)) (e : Entry). set now e.cell (Some e.cat)) p.start.cells log m e0 within
      ∙ ap (λ c. set (cells_at m) c (Some (get_or log m e0).cat)) (front.cells m e0 within)

  -- entry m gives its cell a category, and changes no other cell
  set_at : (m : ℕ) → m < length log → cat_of (cells_at (m + 1)) (cell_of p m) ≡ Some (get_or log m e0).cat
  set_at m within =
      ap (λ (cs : List (Option ℕ)). cat_of cs (cell_of p m)) (cells_more m within)
      ∙ cat_of-set_same (cells_at m) (cell_of p m) (Some (get_or log m e0).cat) (omega (arith, length-with_entries p.start.cells (take m log), path.inside m (on_path m within)))

  same_at : (m c : ℕ) → m < length log → (c ≡ cell_of p m → ⊥) → cat_of (cells_at (m + 1)) c ≡ cat_of (cells_at m) c
  same_at m c within apart = ap (λ (cs : List (Option ℕ)). cat_of cs c) (cells_more m within) ∙ cat_of-set_other (cells_at m) (cell_of p m) c (Some (get_or log m e0).cat) apart

  -- a cell of none of the first m entries is as at the start
  pub untouched : (m c : ℕ) → m ≤ length log → ((j : ℕ) → j < m → c ≡ cell_of p j → ⊥) → cat_of (cells_at m) c ≡ cat_of p.start.cells c
  untouched zero c enough apart = refl
  untouched (suc m) c enough apart =
      ap (λ n. cat_of (cells_at n) c) (sym (add-one m)) ∙ same_at m c (omega arith) (apart m (omega arith))
      ∙ untouched m c (omega arith) (λ j below e. apart j (omega arith) e)

  -- a node of rank m and above is unknown after m entries
  pub unknown_yet : (m i : ℕ) → m ≤ i → m ≤ length log → i < length p.path → cat_of (cells_at m) (cell_of p i) ≡ None
  unknown_yet m i later enough within = untouched m (cell_of p i) enough apart ∙ path.unknown i within
    where
      apart : (j : ℕ) → j < m → cell_of p i ≡ cell_of p j → ⊥
      apart j below e = let eq : i ≡ j = nodes_apart p path i j within (on_path j (omega arith)) e in omega arith

  -- a node of a rank below m has its entry's category after m entries
  pub written : (m r : ℕ) → r < m → m ≤ length log → cat_of (cells_at m) (cell_of p r) ≡ Some (get_or log r e0).cat
  written zero r below enough = absurd (omega arith)
  written (suc m) r below enough =
      ap (λ n. cat_of (cells_at n) (cell_of p r)) (sym (add-one m)) ∙ elim (cases_eq r m) [
        | inl last ↦ subst (λ x. cat_of (cells_at (m + 1)) (cell_of p x) ≡ Some (get_or log x e0).cat) (sym last) (set_at m (omega arith))
        | inr before ↦
            same_at m (cell_of p r) (omega arith) (λ e. before (nodes_apart p path r m (on_path r (omega arith)) (on_path m (omega arith)) e))
            ∙ written m r (omega arith) (omega arith)
      ]

  -- what is known at the start stays
  pub known_at_start : (c k : ℕ) → cat_of p.start.cells c ≡ Some k → cat_of (cells_at (length log)) c ≡ Some k
  known_at_start c k is = untouched (length log) c (omega arith) apart ∙ is
    where
      apart : (j : ℕ) → j < length log → c ≡ cell_of p j → ⊥
      apart j below e = none_some k (sym (path.unknown j (on_path j below)) ∙ ap (cat_of p.start.cells) (sym e) ∙ is)

  -- a cell whose rank has an entry has the entry's category
  pub known_by_rank : (c r : ℕ) → rank_in p.path c ≡ Some r → r < length log → cat_of (cells_at (length log)) c ≡ Some (get_or log r e0).cat
  known_by_rank c r is below =
      let here = rank_in-here p.path c (Some r) (sym is) in
      ap (cat_of (cells_at (length log))) (sym here.1) ∙ written (length log) r below (omega arith)

  -- each other cell is as at the start
  pub known_no_more : (c : ℕ) → ((r : ℕ) → rank_in p.path c ≡ Some r → length log ≤ r) → cat_of (cells_at (length log)) c ≡ cat_of p.start.cells c
  known_no_more c later = untouched (length log) c (omega arith) apart
    where
      apart : (j : ℕ) → j < length log → c ≡ cell_of p j → ⊥
      apart j below e = let le : length log ≤ j = later j (ap (rank_in p.path) e ∙ rank_in-at p.path j (on_path j below) path.distinct) in omega arith

  -- what is known stays
  stays : (m c k : ℕ) → m < length log → cat_of (cells_at m) c ≡ Some k → cat_of (cells_at (m + 1)) c ≡ Some k
  stays m c k within is = elim (cases_eq c (cell_of p m)) [
    | inl node ↦ absurd (none_some k (sym (unknown_yet m m (omega arith) (omega arith) (on_path m within)) ∙ ap (cat_of (cells_at m)) (sym node) ∙ is))
    | inr other ↦ same_at m c within other ∙ is
  ]

  stays_by : (d m c k : ℕ) → m + d ≤ length log → cat_of (cells_at m) c ≡ Some k → cat_of (cells_at (m + d)) c ≡ Some k
  stays_by zero m c k within is = ap (λ n. cat_of (cells_at n) c) (add-zero m) ∙ is
  stays_by (suc d) m c k within is =
      let one_more : m + suc d ≡ m + d + 1 = omega arith in
      ap (λ n. cat_of (cells_at n) c) one_more ∙ stays (m + d) c k (omega arith) (stays_by d m c k (omega arith) is)

  pub stays_until : (m later c k : ℕ) → m ≤ later → later ≤ length log → cat_of (cells_at m) c ≡ Some k → cat_of (cells_at later) c ≡ Some k
  stays_until m later c k le within is =
      let sum : m + (later - m) ≡ later = omega arith in
      ap (λ n. cat_of (cells_at n) c) (sym sum) ∙ stays_by (later - m) m c k (omega arith) is

  -- what is known after m entries was known at the start, or is a node of a rank below m
  pub known_cases : (m c k : ℕ) → m ≤ length log → cat_of (cells_at m) c ≡ Some k → (cat_of p.start.cells c ≡ Some k) ⊎ ((r : ℕ) × (r < m) × (cell_of p r ≡ c))
  known_cases zero c k within is = inl is
  known_cases (suc m) c k within is = elim (cases_eq c (cell_of p m)) [
    | inl node ↦ inr (m, omega arith, sym node)
    | inr other ↦ elim (known_cases m c k (omega arith) (sym (ap (λ n. cat_of (cells_at n) c) (sym (add-one m)) ∙ same_at m c (omega arith) other) ∙ is)) [
      | inl at_start ↦ inl at_start
      | inr node ↦ inr (node.0, omega (arith, node.1), node.2)
    ]
  ]
