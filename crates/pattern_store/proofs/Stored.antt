-- The rows of a whole tally, and what they say of a store's patterns.
use Rattle.std.proofs.Common.{◌≡◌, ◌⊎◌, ℕ, zero, suc, ◌+◌, ◌-◌, ◌*◌, ◌^◌, ◌<◌, ◌≤◌, ◌==◌, Bool, true, false, cond, ◌&&◌, nat_le, List, [], ◌∷◌, ◌++◌, length, get_or, map, take, sum, slice_get, Some, refl, ap, sym, ◌∙◌, inl, inr, arith}
use Rattle.std.specs.List.{flat_map, list_all, range_with_len, sum_by}
use Rattle.std.proofs.lemmas.Bool.{cases_lt}
use Rattle.std.proofs.lemmas.List.{length-append, length-take, take-take}
use Rattle.std.proofs.lemmas.List.Concat.{flat_map-cons}
use Rattle.std.proofs.lemmas.List.FromFn.{get_or-map-range_with_len, length-map-range_with_len, length-range_with_len}
use Rattle.std.proofs.lemmas.List.Sums.{sum_by-le-sum_by}
use Rattle.mp_base.specs.Counts.{is_cat}
use Rattle.ti_scan.specs.declared.event.Datum.{Datum}
use Rattle.ti_scan.specs.Prefix.{greatest, has_enough, longest}
use Rattle.ti_scan.specs.Rising.{RisesFrom}
use Rattle.ti_scan.proofs.Blocks.{map-same}
use Rattle.ti_scan.proofs.Greatest.{greatest-le}
use Rattle.ti_scan.proofs.RisingLemmas.{RisesFrom-take}
use Rattle.pattern_blocks.specs.Rows.{BitRows, has, matched}
use Rattle.pattern_blocks.specs.Planes.{PlaneRows}
use Rattle.pattern_blocks.specs.Tally.{block_gain, number_of}
use Rattle.pattern_store.specs.Gains.{blocks_gain, group_gain, store_gain}
use Rattle.pattern_store.specs.Holding.{holders}
use Rattle.pattern_store.specs.Longest.{IsLongest, is_enough, prefix_counts, rows_from}
use Rattle.pattern_store.specs.Patterns.{Pattern, Patterns, has_datum, pattern_counts, replicates}
use Rattle.pattern_store.specs.Store.{IsFilling, IsStore, IsWhole, pattern_at, patterns_in, shown_at, stored}
use Rattle.pattern_store.proofs.Holders.{rows_are}
use Rattle.pattern_blocks.proofs.Sums.{sum-same}
use Rattle.pattern_store.proofs.Sums.{sum-flat_map, sum-mapped}

part-le : (b : Bool) (x : ℕ) → cond b x 0 ≤ x
part-le true x = omega arith
part-le false x = omega arith

empty-cond : (b : Bool) (x : ℕ) → x ≡ 0 → cond b x 0 ≡ 0
empty-cond true x none = none
empty-cond false x none = refl

-- an item of a list that is given by a function
item_at : {X : Type 0} (f : ℕ → X) (a n i j : ℕ) → i < n → a + i ≡ j → slice_get (map f (range_with_len a n)) i ≡ Some (f j)
item_at f a zero i j within is = absurd (omega arith)
item_at f a (suc n) zero j within is =
    let here : a ≡ j = omega arith in
    ap (λ k. Some (f k)) here
item_at f a (suc n) (suc i) j within is = item_at f (a + 1) n i j (omega arith) (omega arith)

-- the greatest of the numbers up to n alone
greatest-alike : (p q : ℕ → Bool) (n : ℕ) → ((k : ℕ) → k ≤ n → p k ≡ q k) → greatest p n ≡ greatest q n
greatest-alike p q zero same = refl
greatest-alike p q (suc n) same = ap (λ b. cond b (suc n) (greatest p n)) (same (suc n) (omega arith)) ∙ ap (λ m. cond (q (suc n)) (suc n) m) (greatest-alike p q n (λ k le. same k (omega arith)))

take-whole : {X : Type 0} (xs : List X) → take (length xs) xs ≡ xs
take-whole [] = refl
take-whole (x ∷ xs) = ap (λ l. x ∷ l) (take-whole xs)

-- lists of one length, one after another
flat_map-even : {X : Type 0} (f : ℕ → List X) (w : ℕ) → ((i : ℕ) → length (f i) ≡ w) → (is : List ℕ) → length (flat_map f is) ≡ length is * w
flat_map-even f w each [] = omega arith
flat_map-even f w each (i ∷ is) =
    let first : length (f i ++ flat_map f is) ≡ length (f i) + length (flat_map f is) = length-append (f i) (flat_map f is) in
    omega (arith, ap length (flat_map-cons f i is), first, each i, flat_map-even f w each is)

module _ (shown : BitRows) (counts : PlaneRows) where
  -- a group has 64 blocks of 64 patterns
  pub length-patterns_in : (n : ℕ) → length (patterns_in shown counts n) ≡ n * 4096
  unfolding patterns_in
  length-patterns_in n =
      flat_map-even (λ g. flat_map (λ s. map (pattern_at shown counts (g * 64 + s)) (range_with_len 0 64)) (range_with_len 0 64)) 4096
      (λ g. flat_map-even (λ s. map (pattern_at shown counts (g * 64 + s)) (range_with_len 0 64)) 64 (λ s. length-map-range_with_len (pattern_at shown counts (g * 64 + s)) 0 64) (range_with_len 0 64))
      (range_with_len 0 n) ∙ ap (λ m. m * 4096) (length-range_with_len 0 n)

  pub bits-product : (n g p r c : ℕ) → g ≡ n → p ≡ 4096 → r ≡ shown.reach → c ≡ shown.cats → g * p * r * c ≡ length (patterns_in shown counts n) * shown.reach * shown.cats
  bits-product n g p r c g_is p_is r_is c_is =
      let count = length-patterns_in n in
      cc

  pub gain-few : (n : ℕ) (event : List Datum) (row k : ℕ) → store_gain shown counts n event row k ≤ holders shown counts n [] k
  unfolding store_gain blocks_gain block_gain holders
  gain-few n event row k =
      sum_by-le-sum_by (λ g. group_gain shown counts g event row k) (λ g. sum_by (λ s. sum_by (λ u. number_of counts shown.cats (g * 64 + s) k u) (range_with_len 0 64)) (range_with_len 0 64)) (range_with_len 0 n)
      (λ g. sum_by-le-sum_by (λ s. block_gain shown counts (g * 64 + s) event row k) (λ s. sum_by (λ u. number_of counts shown.cats (g * 64 + s) k u) (range_with_len 0 64)) (range_with_len 0 64)
      (λ s. sum_by-le-sum_by (λ u. cond (matched shown (g * 64 + s) event u == row) (number_of counts shown.cats (g * 64 + s) k u) 0) (λ u. number_of counts shown.cats (g * 64 + s) k u) (range_with_len 0 64)
      (λ u. part-le (matched shown (g * 64 + s) event u == row) (number_of counts shown.cats (g * 64 + s) k u))))

  holders-few : (n : ℕ) (event : List Datum) (k : ℕ) → holders shown counts n event k ≤ holders shown counts n [] k
  unfolding holders
  holders-few n event k =
      sum_by-le-sum_by (λ g. sum_by (λ s. sum_by (λ u. cond (list_all (has shown (g * 64 + s) u) event) (number_of counts shown.cats (g * 64 + s) k u) 0) (range_with_len 0 64)) (range_with_len 0 64)) (λ g. sum_by (λ s. sum_by (λ u. number_of counts shown.cats (g * 64 + s) k u) (range_with_len 0 64)) (range_with_len 0 64)) (range_with_len 0 n)
      (λ g. sum_by-le-sum_by (λ s. sum_by (λ u. cond (list_all (has shown (g * 64 + s) u) event) (number_of counts shown.cats (g * 64 + s) k u) 0) (range_with_len 0 64)) (λ s. sum_by (λ u. number_of counts shown.cats (g * 64 + s) k u) (range_with_len 0 64)) (range_with_len 0 64)
      (λ s. sum_by-le-sum_by (λ u. cond (list_all (has shown (g * 64 + s) u) event) (number_of counts shown.cats (g * 64 + s) k u) 0) (λ u. number_of counts shown.cats (g * 64 + s) k u) (range_with_len 0 64)
      (λ u. part-le (list_all (has shown (g * 64 + s) u) event) (number_of counts shown.cats (g * 64 + s) k u))))

  rows_past : (n : ℕ) (event : List Datum) (row k : ℕ) → length event < row → rows_from shown counts n event row k ≡ 0
  unfolding rows_from
  rows_past n event row k beyond =
      let none : length event + 1 - row ≡ 0 = omega arith in
      ap (λ m. sum_by (λ r. store_gain shown counts n event r k) (range_with_len row m)) none

  pub rows-few : (n : ℕ) (event : List Datum) (row k : ℕ) → rows_from shown counts n event row k ≤ holders shown counts n [] k
  rows-few n event row k = elim (cases_lt (length event) row) [
    | inl beyond ↦ omega (arith, rows_past n event row k beyond)
    | inr within ↦ omega (arith, rows_are shown counts event n row k (omega arith), holders-few n (take row event) k)
  ]

  module _ (groups : ℕ) (store : IsStore shown counts groups) where
    pub gain_room : (event : List Datum) (row k : ℕ) → k < shown.cats → store_gain shown counts groups event row k < 2 ^ 32
    gain_room event row k small = omega (arith, gain-few groups event row k, store.few k small)

    pub rows_room : (event : List Datum) (row k : ℕ) → k < shown.cats → rows_from shown counts groups event row k < 2 ^ 32
    rows_room event row k small = omega (arith, rows-few groups event row k, store.few k small)

    -- what a pattern has
    datum_same : (b u : ℕ) (d : Datum) → 1 ≤ d.position → d.position ≤ shown.reach → has_datum (pattern_at shown counts b u).shown d ≡ (shown_at shown b u (d.position - 1) == d.cat)
    datum_same b u d from to = ap (λ v. is_cat v d.cat) (item_at (shown_at shown b u) 0 shown.reach (d.position - 1) (d.position - 1) (omega arith) (omega arith))

    event_same : (b u least : ℕ) (event : List Datum) → IsWhole shown b u → 1 ≤ least → RisesFrom least shown.reach event → list_all (has shown b u) event ≡ list_all (has_datum (pattern_at shown counts b u).shown) event
    event_same b u least [] whole some rising = refl
    event_same b u least (d ∷ event) whole some rising =
        ap (λ t. t && list_all (has shown b u) event) (whole d (omega (arith, rising.0)) rising.1 ∙ sym (datum_same b u d (omega (arith, rising.0)) rising.1))
        ∙ ap (λ t. has_datum (pattern_at shown counts b u).shown d && t) (event_same b u (suc d.position) event whole (omega arith) rising.2)

    centre_at : (b u k : ℕ) → k < shown.cats → get_or (pattern_at shown counts b u).centres k 0 ≡ number_of counts shown.cats b k u
    centre_at b u k small = get_or-map-range_with_len (λ j. number_of counts shown.cats b j u) 0 shown.cats k k 0 small (omega arith)

    item_same : (b u : ℕ) (event : List Datum) (k : ℕ) → k < shown.cats → RisesFrom 1 shown.reach event → IsWhole shown b u ⊎ IsFilling shown counts b u → cond (list_all (has shown b u) event) (number_of counts shown.cats b k u) 0 ≡ cond (list_all (has_datum (pattern_at shown counts b u).shown) event) (get_or (pattern_at shown counts b u).centres k 0) 0
    item_same b u event k small rising (inl whole) =
        ap (λ t. cond t (number_of counts shown.cats b k u) 0) (event_same b u 1 event whole (omega arith) rising)
        ∙ ap (λ x. cond (list_all (has_datum (pattern_at shown counts b u).shown) event) x 0) (sym (centre_at b u k small))
    item_same b u event k small rising (inr filling) =
        empty-cond (list_all (has shown b u) event) (number_of counts shown.cats b k u) (filling k small)
        ∙ sym (empty-cond (list_all (has_datum (pattern_at shown counts b u).shown) event) (get_or (pattern_at shown counts b u).centres k 0) (centre_at b u k small ∙ filling k small))

    -- the patterns with all data of an event are its replicates
    pub holders_are : (event : List Datum) (k : ℕ) → k < shown.cats → RisesFrom 1 shown.reach event → holders shown counts groups event k ≡ replicates (patterns_in shown counts groups) event k
    unfolding holders replicates patterns_in
    holders_are event k small rising =
        let f : Pattern → ℕ = λ p. cond (list_all (has_datum p.shown) event) (get_or p.centres k 0) 0 in
        sum-same (λ g. sum_by (λ s. sum_by (λ u. cond (list_all (has shown (g * 64 + s) u) event) (number_of counts shown.cats (g * 64 + s) k u) 0) (range_with_len 0 64)) (range_with_len 0 64)) (λ g. sum_by f (flat_map (λ s. map (pattern_at shown counts (g * 64 + s)) (range_with_len 0 64)) (range_with_len 0 64))) 0 groups
        (λ g low high. sum-same (λ s. sum_by (λ u. cond (list_all (has shown (g * 64 + s) u) event) (number_of counts shown.cats (g * 64 + s) k u) 0) (range_with_len 0 64)) (λ s. sum_by f (map (pattern_at shown counts (g * 64 + s)) (range_with_len 0 64))) 0 64
        (λ s from to. sum-same (λ u. cond (list_all (has shown (g * 64 + s) u) event) (number_of counts shown.cats (g * 64 + s) k u) 0) (λ u. f (pattern_at shown counts (g * 64 + s) u)) 0 64
        (λ u first last. item_same (g * 64 + s) u event k small rising (store.items g s u (omega arith) (omega arith) (omega arith)))
        ∙ sym (sum-mapped f (pattern_at shown counts (g * 64 + s)) (range_with_len 0 64)))
        ∙ sym (sum-flat_map f (λ s. map (pattern_at shown counts (g * 64 + s)) (range_with_len 0 64)) (range_with_len 0 64)))
        ∙ sym (sum-flat_map f (λ g. flat_map (λ s. map (pattern_at shown counts (g * 64 + s)) (range_with_len 0 64)) (range_with_len 0 64)) (range_with_len 0 groups))

    module _ (p : Patterns) (view : stored shown counts groups ≡ p) where
      pub counts_are : (event : List Datum) (len : ℕ) → len ≤ length event → RisesFrom 1 shown.reach event → prefix_counts shown counts groups event len ≡ pattern_counts p (take len event)
      counts_are event len within rising =
          map-same (rows_from shown counts groups event len) (replicates (patterns_in shown counts groups) (take len event)) 0 0 shown.cats
          (λ k small. rows_are shown counts event groups len (0 + k) within ∙ holders_are (take len event) (0 + k) (omega arith) (RisesFrom-take 1 shown.reach len event rising))
          ∙ ap (λ (q : Patterns). pattern_counts q (take len event)) view

      pub whole_counts : (event : List Datum) → RisesFrom 1 shown.reach event → prefix_counts shown counts groups event (length event) ≡ pattern_counts p event
      whole_counts event rising = counts_are event (length event) (omega arith) rising ∙ ap (pattern_counts p) (take-whole event)

      module _ (event : List Datum) (most min len : ℕ) (found : List ℕ) (within : most ≤ length event) (rising : RisesFrom 1 shown.reach event) (is : IsLongest shown counts groups (take most event) min len found) where
        long : length (take most event) ≡ most
        long = length-take most event ∙ omega arith

        counts_at : (m : ℕ) → m ≤ most → prefix_counts shown counts groups (take most event) m ≡ pattern_counts p (take m event)
        counts_at m le = counts_are (take most event) m (omega (arith, long)) (RisesFrom-take 1 shown.reach most event rising) ∙ ap (pattern_counts p) (take-take m most event le)

        pub longest_is : len ≡ longest (pattern_counts p) min event most
        unfolding longest
        longest_is =
            is.longest ∙ ap (greatest (is_enough shown counts groups (take most event) min)) long
            ∙ greatest-alike (is_enough shown counts groups (take most event) min) (has_enough (pattern_counts p) min event) most (λ m le. ap (λ l. nat_le min (sum l)) (counts_at m le))

        pub longest_counts : found ≡ pattern_counts p (take len event)
        longest_counts = is.counts_are ∙ counts_at len (omega (arith, is.longest, greatest-le (is_enough shown counts groups (take most event) min) (length (take most event)), long))
