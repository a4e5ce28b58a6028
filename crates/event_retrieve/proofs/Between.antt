-- What is read of a cell while entries are committed.
use Rattle.std.proofs.Common.{◌≡◌, ◌⊎◌, ℕ, ◌<◌, ◌≤◌, Bool, true, false, List, length, get_or, Option, Some, None, refl, ap, sym, ◌∙◌, inl, inr, arith, ◌||◌, nat_lt, is_some}
use Rattle.std.specs.Option.{option_map_or}
use Rattle.std.proofs.lemmas.Bool.{false≢true, cases_lt}
use Rattle.std.proofs.lemmas.Bool.Decides.{nat_tests}
use Rattle.mp_base.specs.declared.cell.Entry.{Entry}
use Rattle.mp_base.specs.Grid.{cat_of}
use Rattle.path_stream.specs.Ranks.{rank_in}
use Rattle.path_stream.proofs.Slots.{rank_in-at, rank_in-here}
use Rattle.event_retrieve.specs.Plan.{Plan, cell_of, grid_at, IsPath, IsLog, IsFront}
use Rattle.event_retrieve.specs.Gather.{is_early}
use Rattle.event_retrieve.proofs.Fronts.{IsFront-log, none_some, some_value, stays_until, known_cases, written, unknown_yet}

or_left : (a b : Bool) → a ≡ true → (a || b) ≡ true
or_left true b e = refl
or_left false b e = absurd (false≢true e)

or_right : (a b : Bool) → b ≡ true → (a || b) ≡ true
or_right true b e = refl
or_right false b e = e

or_cases : (a b : Bool) → (a || b) ≡ true → (a ≡ true) ⊎ (b ≡ true)
or_cases true b e = inl refl
or_cases false b e = inr e

-- the rank that is below
rank_below : (r : Option ℕ) (i : ℕ) → option_map_or (λ r. nat_lt r i) r false ≡ true → (n : ℕ) × (r ≡ Some n) × (n < i)
rank_below None i e = absurd (false≢true e)
rank_below (Some n) i e = (n, refl, grind (arith, nat_tests))

below_rank : (r : Option ℕ) (n i : ℕ) → r ≡ Some n → n < i → option_map_or (λ r. nat_lt r i) r false ≡ true
below_rank r n i is below =
    let yes : nat_lt n i ≡ true = grind (arith, nat_tests) in
    ap (λ v. option_map_or (λ r. nat_lt r i) v false) is ∙ yes

here_of : (path : List ℕ) (c n : ℕ) → rank_in path c ≡ Some n → (n < length path) × (get_or path n 0 ≡ c)
here_of path c n is = rank_in-here path c (Some n) (sym is)

module _ (p : Plan) (log : List Entry) (path : IsPath p) (is_log : IsLog p log) where
  -- what is known after m entries was known at the start, or is a node of a rank below m
  pub early_if_known : (m i c k : ℕ) → m ≤ length p.path → m ≤ i → cat_of (grid_at p log m).cells c ≡ Some k → is_early p i c ≡ true
  early_if_known m i c k within le is = elim (known_cases p log path (IsFront-log p log is_log) m c k (omega (arith, within, is_log.whole)) is) [
    | inl at_start ↦ or_left (is_some (cat_of p.start.cells c)) (option_map_or (λ r. nat_lt r i) (rank_in p.path c) false) (ap (λ v. is_some v) at_start)
    | inr node ↦
        let rank : rank_in p.path c ≡ Some node.0 = ap (rank_in p.path) (sym node.2) ∙ rank_in-at p.path node.0 (omega (arith, node.1, within)) path.distinct in
        or_right (is_some (cat_of p.start.cells c)) (option_map_or (λ r. nat_lt r i) (rank_in p.path c) false) (below_rank (rank_in p.path c) node.0 i rank (omega (arith, node.1, le)))
  ]

  -- of what is early, what is read at any time is known when the node's turn comes
  pub known_by : (m i c k : ℕ) → m ≤ length p.path → i ≤ length p.path → is_early p i c ≡ true → cat_of (grid_at p log m).cells c ≡ Some k → cat_of (grid_at p log i).cells c ≡ Some k
  known_by m i c k within turn early is = elim (or_cases (is_some (cat_of p.start.cells c)) (option_map_or (λ r. nat_lt r i) (rank_in p.path c) false) early) [
    | inl at_start ↦
        let v = some_value (cat_of p.start.cells c) at_start in
        stays_until p log path front 0 i c v.0 (omega arith) turn_in v.1 ∙ sym (stays_until p log path front 0 m c v.0 (omega arith) within_in v.1) ∙ is
    | inr below ↦ by_rank (rank_below (rank_in p.path c) i below)
  ]
    where
      front : IsFront p log
      front = IsFront-log p log is_log

      turn_in : i ≤ length log
      turn_in = omega (arith, turn, is_log.whole)

      within_in : m ≤ length log
      within_in = omega (arith, within, is_log.whole)

      by_rank : (n : ℕ) × (rank_in p.path c ≡ Some n) × (n < i) → cat_of (grid_at p log i).cells c ≡ Some k
      by_rank rank =
          let r = rank.0 in
          let here = here_of p.path c r rank.1 in
          let node : cell_of p r ≡ c = here.1 in
          elim (cases_lt r m) [
            | inl before ↦
                ap (cat_of (grid_at p log i).cells) (sym node) ∙ written p log path front i r rank.2 turn_in ∙ sym (written p log path front m r before within_in)
                ∙ ap (cat_of (grid_at p log m).cells) node ∙ is
            | inr after ↦ absurd (none_some k (sym (unknown_yet p log path front m r after within_in here.0) ∙ ap (cat_of (grid_at p log m).cells) node ∙ is))
          ]
