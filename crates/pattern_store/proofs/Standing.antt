-- A store that is built of a source answers what the source counts.
use Rattle.std.proofs.Common.{◌≡◌, ◌⊎◌, ℕ, suc, ◌+◌, ◌-◌, ◌*◌, ◌/◌, ◌%◌, ◌^◌, ◌<◌, ◌≤◌, ◌==◌, Bool, true, false, cond, ◌&&◌, List, [], ◌∷◌, length, get_or, filter, refl, ap, sym, ◌∙◌, subst, inl, inr, arith}
use Rattle.std.specs.List.{count_by, list_all, range_with_len, sum_by}
use Rattle.std.proofs.lemmas.Bool.{eqb-true}
use Rattle.std.proofs.lemmas.Bool.Decides.{nat_tests}
use Rattle.std.proofs.lemmas.List.FromFn.{fill_by_all, length-range_with_len}
use Rattle.std.proofs.lemmas.List.Sums.{count_by-le-length}
use Rattle.mp_base.specs.Grid.{cat_of}
use Rattle.mp_base.proofs.Tallies.{length-tally}
use Rattle.ti_scan.specs.declared.event.Datum.{Datum}
use Rattle.ti_scan.specs.Eroded.{positions_of}
use Rattle.ti_scan.specs.Event.{Source, IsSource, StandsFor, counts_of, shows, tallied}
use Rattle.ti_scan.specs.Rising.{RisesFrom}
use Rattle.pattern_blocks.specs.Planes.{PlaneRows}
use Rattle.pattern_blocks.specs.Rows.{BitRows, has}
use Rattle.pattern_blocks.specs.Tally.{number_of}
use Rattle.pattern_store.specs.Building.{IsBuilt, IsDrawn}
use Rattle.pattern_store.specs.Holding.{holders}
use Rattle.pattern_store.specs.Levels.{AreAlike, centre, found, has_each, many, table}
use Rattle.pattern_store.specs.Patterns.{pattern_counts, reach_of, replicates}
use Rattle.pattern_store.specs.Store.{IsFilling, IsStore, IsWhole, patterns_in, stored}
use Rattle.pattern_store.proofs.Flat.{sum-ranks, with_place}
use Rattle.pattern_store.proofs.Source.{found_is}
use Rattle.pattern_store.proofs.Stored.{holders_are}
use Rattle.pattern_blocks.proofs.Sums.{sum-same}
use Rattle.pattern_store.proofs.Sums.{count-none, count-pointwise, partition}
use Rattle.pattern_store.proofs.Whole.{has_same, position_whole, prefix_table}

-- a count of what passes two tests, the second of which is the same for all that pass the first
counted_where : (b : Bool) (p e c : ℕ → Bool) (n : ℕ) → ((i : ℕ) → i < n → p i ≡ true → b ≡ e i) → cond b (count_by (λ i. p i && c i) (range_with_len 0 n)) 0 ≡ count_by (λ i. p i && (e i && c i)) (range_with_len 0 n)
counted_where true p e c n same = count-pointwise (λ i. p i && c i) (λ i. p i && (e i && c i)) n (λ i within. step (p i) (e i) (c i) (same i within))
  where
    step : (x y z : Bool) → (x ≡ true → true ≡ y) → (x && z) ≡ (x && (y && z))
    step true y z is = ap (λ t. t && z) (is refl)
    step false y z is = refl
counted_where false p e c n same = sym (count-none (λ i. p i && (e i && c i)) n (λ i within. step (p i) (e i) (c i) (same i within)))
  where
    step : (x y z : Bool) → (x ≡ true → false ≡ y) → (x && (y && z)) ≡ false
    step true y z is = ap (λ t. t && z) (sym (is refl))
    step false y z is = refl

not-both : (x y : Bool) → (x ≡ true → ⊥) → (x && y) ≡ false
not-both true y apart = absurd (apart refl)
not-both false y apart = refl

module _ (s : Source) (is : IsSource s) (few_positions : many s ≤ 2 ^ 20) (places : List ℕ) (groups : ℕ) (alike : AreAlike s (length s.template) places) (words : List ℕ) (counts : PlaneRows) (fits : (i : ℕ) → i < many s → get_or places i 0 < groups * 64 * 64) (drawn : IsDrawn s (λ i. get_or places i 0) (length s.template) words) (numbers : (b u k : ℕ) → b < groups * 64 → u < 64 → k < s.cats → number_of counts s.cats b k u ≡ count_by (λ i. get_or places i 0 == b * 64 + u && centre s i == k) (range_with_len 0 (many s))) where
  abbrev shown : BitRows
  shown = record { reach = length s.template; cats = s.cats; words = words }

  place : ℕ → ℕ
  place i = get_or places i 0

  equal : (n m : ℕ) → n ≡ m → (n == m) ≡ true
  equal n m same = grind (arith, nat_tests)

  agree : (i j q : ℕ) → i < many s → j < many s → q < length s.template → get_or places i 0 ≡ get_or places j 0 → table s i q ≡ table s j q
  agree i j q i_within j_within low same = prefix_table s is (length s.template) i j q (omega arith) i_within j_within low (sym (alike i j i_within j_within) ∙ equal (get_or places i 0) (get_or places j 0) same)

  -- a rank has an event's data where its positions have them
  events : (i b u least : ℕ) (event : List Datum) → i < many s → get_or places i 0 / 64 ≡ b → get_or places i 0 % 64 ≡ u → 1 ≤ least → RisesFrom least (length s.template) event → list_all (has shown b u) event ≡ has_each (table s) i event
  events i b u least [] within block item some rising = refl
  events i b u least (d ∷ event) within block item some rising =
      ap (λ t. t && list_all (has shown b u) event) (has_same s is (λ j. get_or places j 0) words drawn agree i b u within block item d (omega (arith, rising.0, rising.1)))
      ∙ ap (λ t. (table s i (d.position - 1) == d.cat) && t) (events i b u (suc d.position) event within block item (omega arith) rising.2)

  abbrev share : List Datum → ℕ → ℕ → ℕ
  share event k r = count_by (λ i. get_or places i 0 == r && (has_each (table s) i event && centre s i == k)) (range_with_len 0 (many s))

  item_share : (g t u : ℕ) (event : List Datum) (k : ℕ) → g < groups → t < 64 → u < 64 → k < s.cats → RisesFrom 1 (length s.template) event → cond (list_all (has shown (g * 64 + t) u) event) (number_of counts s.cats (g * 64 + t) k u) 0 ≡ share event k ((g * 64 + t) * 64 + u)
  item_share g t u event k g_below t_below u_below small rising =
      ap (λ n. cond (list_all (has shown (g * 64 + t) u) event) n 0) (numbers (g * 64 + t) u k (omega arith) u_below small)
      ∙ counted_where (list_all (has shown (g * 64 + t) u) event) (λ i. get_or places i 0 == (g * 64 + t) * 64 + u) (λ i. has_each (table s) i event) (λ i. centre s i == k) (many s)
      (λ i within here.
      let at : get_or places i 0 ≡ (g * 64 + t) * 64 + u = eqb-true (get_or places i 0) ((g * 64 + t) * 64 + u) here in
      events i (g * 64 + t) u 1 event within (omega arith) (omega arith) (omega arith) rising)

  -- all patterns with the data of an event have what is found at positions
  pub all_found : (event : List Datum) (k : ℕ) → k < s.cats → RisesFrom 1 (length s.template) event → holders shown counts groups event k ≡ found (table s) (centre s) (many s) event k
  unfolding holders
  all_found event k small rising =
      sum-same (λ g. sum_by (λ t. sum_by (λ u. cond (list_all (has shown (g * 64 + t) u) event) (number_of counts s.cats (g * 64 + t) k u) 0) (range_with_len 0 64)) (range_with_len 0 64)) (λ g. sum_by (λ t. sum_by (λ u. share event k ((g * 64 + t) * 64 + u)) (range_with_len 0 64)) (range_with_len 0 64)) 0 groups
      (λ g low high. sum-same (λ t. sum_by (λ u. cond (list_all (has shown (g * 64 + t) u) event) (number_of counts s.cats (g * 64 + t) k u) 0) (range_with_len 0 64)) (λ t. sum_by (λ u. share event k ((g * 64 + t) * 64 + u)) (range_with_len 0 64)) 0 64
      (λ t from to. sum-same (λ u. cond (list_all (has shown (g * 64 + t) u) event) (number_of counts s.cats (g * 64 + t) k u) 0) (λ u. share event k ((g * 64 + t) * 64 + u)) 0 64
      (λ u first last. item_share g t u event k (omega arith) (omega arith) (omega arith) small rising)))
      ∙ sum-ranks (share event k) groups
      ∙ partition (λ i. get_or places i 0) (λ i. has_each (table s) i event && centre s i == k) (groups * 64 * 64) 0 (many s) (λ i low high. fits i (omega arith))

  found-le : (event : List Datum) (k : ℕ) → found (table s) (centre s) (many s) event k ≤ many s
  found-le event k = omega (arith, count_by-le-length (λ i. has_each (table s) i event && centre s i == k) (range_with_len 0 (many s)), length-range_with_len 0 (many s))

  item : (g t u : ℕ) → g < groups → t < 64 → u < 64 → ((i : ℕ) × (i < many s) × (get_or places i 0 ≡ (g * 64 + t) * 64 + u)) ⊎ ((i : ℕ) → i < many s → get_or places i 0 ≡ (g * 64 + t) * 64 + u → ⊥) → IsWhole shown (g * 64 + t) u ⊎ IsFilling shown counts (g * 64 + t) u
  item g t u g_below t_below u_below (inl at) =
      let here = at.2 in
      inl (position_whole s is (λ j. get_or places j 0) words drawn agree at.0 (g * 64 + t) u at.1 (omega arith) (omega arith))
  item g t u g_below t_below u_below (inr none) = inr (λ k small.
      numbers (g * 64 + t) u k (omega arith) u_below small
      ∙ count-none (λ i. get_or places i 0 == (g * 64 + t) * 64 + u && centre s i == k) (many s) (λ i within. not-both (get_or places i 0 == (g * 64 + t) * 64 + u) (centre s i == k) (λ e. none i within (eqb-true (get_or places i 0) ((g * 64 + t) * 64 + u) e))))

  module _ (few_groups : groups ≤ 2 ^ 18) where
    pub is_store : IsStore shown counts groups
    is_store = record {
      short = is.short;
      few_cats = is.cats_few;
      few_groups = few_groups;
      items = λ g t u g_below t_below u_below. item g t u g_below t_below u_below (with_place (λ i. get_or places i 0) (many s) ((g * 64 + t) * 64 + u));
      few = λ k small. omega (arith, all_found [] k small tt, found-le [] k, few_positions);
    }

    answers : (event : List Datum) → RisesFrom 1 (length s.template) event → pattern_counts (stored shown counts groups) event ≡ counts_of s event
    unfolding tallied
    answers event rising =
        sym (fill_by_all (replicates (patterns_in shown counts groups) event) (counts_of s event) s.cats 0 (length-tally (cat_of s.image.cells) s.cats (filter (λ c. list_all (shows s c) event) (positions_of s.image s.template)))
        (λ k small. sym (sym (holders_are shown counts groups is_store event k small rising) ∙ all_found event k small rising ∙ found_is s is event k rising small)))

    pub stands : StandsFor pattern_counts reach_of (stored shown counts groups) s
    stands = record {
      reach = refl;
      counts = λ event rising. answers event rising;
    }

-- the numbers of blocks that are built
pub number-few : (s : Source) (places : List ℕ) (groups : ℕ) (shown : BitRows) (counts : PlaneRows) → IsBuilt s places groups shown counts → (b u k : ℕ) → b < groups * 64 → u < 64 → k < s.cats → number_of counts s.cats b k u ≤ many s
number-few s places groups shown counts built b u k b_below u_below small =
    omega (arith, built.numbers b u k b_below u_below small, count_by-le-length (λ i. get_or places i 0 == b * 64 + u && centre s i == k) (range_with_len 0 (many s)), length-range_with_len 0 (many s))

-- blocks that are built of the patterns at their places
module _ (s : Source) (is : IsSource s) (few_positions : many s ≤ 2 ^ 20) (places : List ℕ) (classes groups : ℕ) (alike : AreAlike s (length s.template) places) (below : (i : ℕ) → i < many s → get_or places i 0 < classes) (room : classes < groups * 4096) (few_groups : groups ≤ 2 ^ 9) (shown : BitRows) (counts : PlaneRows) (built : IsBuilt s places groups shown counts) where
  bits_are : record { reach = length s.template; cats = s.cats; words = shown.words } ≡ shown
  bits_are = ap (λ r. record { reach = r; cats = s.cats; words = shown.words }) (sym built.reach) ∙ ap (λ c. record { reach = shown.reach; cats = c; words = shown.words }) (sym built.cats)

  all_fit : (i : ℕ) → i < many s → get_or places i 0 < groups * 64 * 64
  all_fit i within = omega (arith, below i within, room)

  pub built-is-store : IsStore shown counts groups
  built-is-store = subst (λ (b : BitRows). IsStore b counts groups) bits_are (is_store s is few_positions places groups alike shown.words counts all_fit built.drawn built.numbers (omega arith))

  pub built-stands : StandsFor pattern_counts reach_of (stored shown counts groups) s
  built-stands =
      subst (λ (b : BitRows). StandsFor pattern_counts reach_of (stored b counts groups) s) bits_are
      (stands s is few_positions places groups alike shown.words counts all_fit built.drawn built.numbers (omega arith))
