-- A cell at each moment of a story.
use Rattle.std.proofs.Common.{◌≡◌, ℕ, zero, suc, ◌<◌, ◌≤◌, List, [], ◌∷◌, length, get_or, take, slice_get, Option, Some, None, inl, inr, refl, ap, sym, ◌∙◌, subst, arith}
use Rattle.std.proofs.lemmas.Bool.{cases_lt}
use Rattle.std.proofs.lemmas.List.{take_all, length-take-le, get_or-take}
use Rattle.std.specs.Option.{IfSome, IfNone}
use Rattle.mp_base.specs.declared.cell.Entry.{Entry}
use Rattle.mp_base.specs.Grid.{cat_of}
use Rattle.mp_base.specs.Cells.{with_entries}
use Rattle.path_stream.specs.Ranks.{rank_in}
use Rattle.path_stream.proofs.Slots.{rank_in-here}
use Rattle.event_retrieve.specs.Plan.{Plan, cell_of, grid_at, IsPath, IsLog, IsFront}
use Rattle.event_retrieve.proofs.Fronts.{none_some, some_same, known_at_start, known_by_rank, known_no_more}
use Rattle.shared_grid.specs.Reads.{ShowsSince, IsOfStory, IsUnknownTo}

abbrev e0 : Entry
e0 = record { cell = 0; cat = 0 }

pub get_at : (story : List Entry) (m : ℕ) (d : Entry) → m < length story → slice_get story m ≡ Some (get_or story m d)
get_at [] m d within = absurd (omega arith)
get_at (x ∷ story) zero d within = refl
get_at (x ∷ story) (suc m) d within = get_at story m d (omega arith)

pub at_get : (story : List Entry) (m : ℕ) (d e : Entry) → slice_get story m ≡ Some e → (m < length story) × (get_or story m d ≡ e)
at_get [] m d e is = absurd (cc)
at_get (x ∷ story) zero d e is = (omega arith, (let s : Some x ≡ Some e = is in cc))
at_get (x ∷ story) (suc m) d e is = let r = at_get story m d e is in (omega (arith, r.0), r.1)

module _ (p : Plan) (story : List Entry) (path : IsPath p) (is_log : IsLog p story) where
  abbrev cell_at_moment : ℕ → ℕ → Option ℕ
  cell_at_moment m c = cat_of (grid_at p story m).cells c

  front_of : (m : ℕ) → m ≤ length story → IsFront p (take m story)
  front_of m within =
      let long : length (take m story) ≡ m = length-take-le m story within in
      record {
        short = omega (arith, is_log.whole);
        cells = λ i e below. ap (λ (x : Entry). x.cell) (get_or-take m story i e (omega arith)) ∙ is_log.cells i e (omega arith);
      }

  whole : (m c : ℕ) → cat_of (with_entries p.start.cells (take (length (take m story)) (take m story))) c ≡ cell_at_moment m c
  whole m c = ap (λ l. cat_of (with_entries p.start.cells l) c) (take_all (length (take m story)) (take m story) (omega arith))

  -- what is known at the start stays
  pub kept : (m c k : ℕ) → m ≤ length story → cat_of p.start.cells c ≡ Some k → cell_at_moment m c ≡ Some k
  kept m c k within is = sym (whole m c) ∙ known_at_start p (take m story) path (front_of m within) c k is

  -- a cell of a rank below m has its entry's category
  pub written : (m c r : ℕ) → m ≤ length story → rank_in p.path c ≡ Some r → r < m → cell_at_moment m c ≡ Some (get_or story r e0).cat
  written m c r within rank below =
      let long : length (take m story) ≡ m = length-take-le m story within in
      sym (whole m c) ∙ known_by_rank p (take m story) path (front_of m within) c r rank (omega arith)
      ∙ ap (λ (x : Entry). Some x.cat) (get_or-take m story r e0 below)

  -- each other cell is as at the start
  pub unwritten : (m c : ℕ) → m ≤ length story → ((r : ℕ) → rank_in p.path c ≡ Some r → m ≤ r) → cell_at_moment m c ≡ cat_of p.start.cells c
  unwritten m c within later =
      let long : length (take m story) ≡ m = length-take-le m story within in
      sym (whole m c) ∙ known_no_more p (take m story) path (front_of m within) c (λ r rank. let le = later r rank in omega arith)

  -- the cell of a rank
  at_rank : (c r : ℕ) → rank_in p.path c ≡ Some r → (r < length p.path) × (cell_of p r ≡ c)
  at_rank c r rank = rank_in-here p.path c (Some r) (sym rank)

  -- path cells are unknown at the start
  pub blank : (c r : ℕ) → rank_in p.path c ≡ Some r → cat_of p.start.cells c ≡ None
  blank c r rank = let at = at_rank c r rank in ap (cat_of p.start.cells) (sym at.1) ∙ path.unknown r at.0

  entry_of : (c r : ℕ) → rank_in p.path c ≡ Some r → slice_get story r ≡ Some (record { cell = c; cat = (get_or story r e0).cat })
  entry_of c r rank =
      let at = at_rank c r rank in
      let within : r < length story = omega (arith, at.0, is_log.whole) in
      let cell : (get_or story r e0).cell ≡ c = is_log.cells r e0 within ∙ at.1 in
      get_at story r e0 within ∙ ap Some (λ i. record { cell = cell i; cat = (get_or story r e0).cat })

  -- a category that some moment shows is of the story
  pub some_of_story : (c seen : ℕ) (v : Option ℕ) → ShowsSince p story seen c v → IfSome v (λ k. IsOfStory p story c k)
  some_of_story c seen None shows = tt
  some_of_story c seen (Some k) shows = by_rank (rank_in p.path c) refl
    where
      start : ((r : ℕ) → rank_in p.path c ≡ Some r → shows.0 ≤ r) → IsOfStory p story c k
      start later = inl (sym (unwritten shows.0 c shows.2 later) ∙ sym shows.3)

      by_rank : (r : Option ℕ) → rank_in p.path c ≡ r → IsOfStory p story c k
      by_rank None none = start (λ r rank. absurd (none_some r (sym none ∙ rank)))
      by_rank (Some r) rank = elim (cases_lt r shows.0) [
        | inl below ↦
            let cat : (get_or story r e0).cat ≡ k = some_same _ _ (sym (written shows.0 c r shows.2 rank below) ∙ sym shows.3) in
            inr (r, entry_of c r rank ∙ ap Some (λ i. record { cell = c; cat = cat i }))
        | inr late ↦ start (λ s other. let same : r ≡ s = some_same r s (sym rank ∙ other) in omega arith)
      ]

  -- where some moment shows nothing, nothing was seen
  pub none_unknown : (c seen : ℕ) (v : Option ℕ) → ShowsSince p story seen c v → IfNone v (IsUnknownTo p seen c)
  none_unknown c seen (Some k) shows = tt
  none_unknown c seen None shows = by_rank (rank_in p.path c) refl
    where
      start : ((r : ℕ) → rank_in p.path c ≡ Some r → shows.0 ≤ r) → cat_of p.start.cells c ≡ None
      start later = sym (unwritten shows.0 c shows.2 later) ∙ sym shows.3

      by_rank : (r : Option ℕ) → rank_in p.path c ≡ r → IsUnknownTo p seen c
      by_rank None none =
          (start (λ r rank. absurd (none_some r (sym none ∙ rank))), subst (λ r. IfSome r (λ rank. seen ≤ rank)) (sym none) tt)
      by_rank (Some r) rank = elim (cases_lt r shows.0) [
        | inl below ↦ absurd (none_some _ (shows.3 ∙ written shows.0 c r shows.2 rank below))
        | inr late ↦ (
          start (λ s other. let same : r ≡ s = some_same r s (sym rank ∙ other) in omega arith),
          subst (λ r. IfSome r (λ rank. seen ≤ rank)) (sym rank) (omega (arith, late, shows.1)),
        )
      ]
