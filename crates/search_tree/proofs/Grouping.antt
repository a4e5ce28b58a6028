-- Blocks of a group that are settled by the first data of an event.
use Rattle.std.proofs.Common.{◌≡◌, ℕ, ◌+◌, ◌*◌, ◌^◌, ◌<◌, ◌≤◌, ◌==◌, Bool, true, false, not, cond, ◌&&◌, List, length, get_or, nat_le, nat_lt, refl, ap, sym, ◌∙◌, subst, inl, inr, arith}
use Rattle.std.specs.Int.{bit_at, bit_not, w64}
use Rattle.std.specs.Int.RustNames.{bit_and}
use Rattle.std.specs.List.{range_with_len, sum_by}
use Rattle.std.proofs.lemmas.Bool.{cases_eq, cases_lt, eqb-true}
use Rattle.std.proofs.lemmas.Bool.Decides.{nat_tests}
use Rattle.std.proofs.lemmas.List.Sums.{prefix_len_passes, prefix_len_stops, sum_by-le-sum_by}
use Rattle.std.proofs.lemmas.Nat.{and_le_l}
use Rattle.std.proofs.lemmas.Nat.Bits.{bit_at-lt}
use Rattle.ti_scan.specs.declared.event.Datum.{Datum}
use Rattle.pattern_blocks.specs.Bits.{AreMarks}
use Rattle.pattern_blocks.specs.Planes.{PlaneRows, marked_sum, planes_of}
use Rattle.pattern_blocks.specs.Rows.{BitRows, has, matched, word_at}
use Rattle.pattern_blocks.specs.Tally.{Adds, HasRoom, block_gain, number_of, row_gain}
use Rattle.pattern_blocks.proofs.Bits.{marks_both, marks_of, marks_without, none_marked}
use Rattle.pattern_blocks.proofs.MarkedSums.{marked_is}
use Rattle.pattern_blocks.proofs.Matching.{has_before, lacks_next, matched-le}
use Rattle.pattern_blocks.proofs.Sums.{sum-same, sum-three, sum-zeros}
use Rattle.pattern_blocks.proofs.Tallies.{adds-both, adds-none, adds-same, room-after}
use Rattle.pattern_store.specs.Gains.{blocks_gain, group_gain}
use Rattle.search_tree.specs.Groups.{SumsUp, block_total, open_gain}

false-true : {A : Type 0} → (b : Bool) → b ≡ true → b ≡ false → A
false-true b holds fails = absurd (differ (sym holds ∙ fails))
  where
    differ : true ≡ false → ⊥
    differ e = cc

zeros : (b : Bool) → ◌≡◌ {A = ℕ} (cond b 0 0) 0
zeros true = refl
zeros false = refl

-- a bit that isn't 1 is 0
bit-clear : (x : ℕ) → x < 2 → (x == 1) ≡ false → x ≡ 0
bit-clear x small fails = grind (arith, nat_tests)

-- the item at datum i is settled now, before, or later
parts : (m i : ℕ) (some every : Bool) (g : ℕ) → (i < m → every ≡ true) → (m ≡ i → every ≡ false) → (every ≡ true → some ≡ true) → cond (nat_lt m (i + 1)) g 0 ≡ cond (nat_lt m i) g 0 + cond (nat_le i m && not some) g 0 + cond ((nat_le i m && some) && not every) g 0
parts m i some every g before next implies = elim (cases_lt m i) [
  | inl less ↦
      let now : nat_lt m (i + 1) ≡ true = grind (arith, nat_tests) in
      let past : nat_lt m i ≡ true = grind (arith, nat_tests) in
      let later : nat_le i m ≡ false = grind (arith, nat_tests) in
      ap (λ b. cond b g 0) now ∙ omega arith
      ∙ sym (ap (λ b. cond b g 0 + cond (nat_le i m && not some) g 0 + cond ((nat_le i m && some) && not every) g 0) past ∙ ap (λ b. g + cond (b && not some) g 0 + cond ((b && some) && not every) g 0) later)
  | inr more ↦
      let past : nat_lt m i ≡ false = grind (arith, nat_tests) in
      let later : nat_le i m ≡ true = grind (arith, nat_tests) in
      elim (cases_eq m i) [
        | inl same ↦
            let now : nat_lt m (i + 1) ≡ true = grind (arith, nat_tests) in
            ap (λ b. cond b g 0) now ∙ here some g
            ∙ sym (ap (λ b. cond b g 0 + cond (nat_le i m && not some) g 0 + cond ((nat_le i m && some) && not every) g 0) past ∙ ap (λ b. 0 + cond (b && not some) g 0 + cond ((b && some) && not every) g 0) later ∙ ap (λ b. 0 + cond (not some) g 0 + cond (some && not b) g 0) (next same))
        | inr other ↦
            let now : nat_lt m (i + 1) ≡ false = grind (arith, nat_tests) in
            let all : every ≡ true = before (omega arith) in
            ap (λ b. cond b g 0) now ∙ omega arith
            ∙ sym (ap (λ b. cond b g 0 + cond (nat_le i m && not some) g 0 + cond ((nat_le i m && some) && not every) g 0) past ∙ ap (λ b. 0 + cond (b && not some) g 0 + cond ((b && some) && not every) g 0) later ∙ ap (λ b. 0 + cond (not some) g 0 + cond (some && not b) g 0) all ∙ ap (λ b. 0 + cond (not b) g 0 + cond (b && false) g 0) (implies all))
      ]
]
  where
    here : (b : Bool) (g : ℕ) → g ≡ 0 + cond (not b) g 0 + cond (b && true) g 0
    here true g = omega arith
    here false g = omega arith

module _ (shown : BitRows) (counts : PlaneRows) (all : BitRows) (group : ℕ) (event : List Datum) where
  abbrev pub gain_of : ℕ → ℕ → ℕ → ℕ
  gain_of row k s = block_gain shown counts (group * 64 + s) event row k

  -- what the blocks add that lack one of the first i data in some pattern
  abbrev pub settled : ℕ → ℕ → ℕ → ℕ
  settled i row k = blocks_gain (λ s. nat_lt (matched all group event s) i) shown counts group event row k

  pub settled_none : (row k : ℕ) → settled 0 row k ≡ 0
  unfolding blocks_gain
  settled_none row k = sum-zeros (λ s. cond (nat_lt (matched all group event s) 0) (gain_of row k s) 0) 0 64 (λ s low high. ap (λ b. cond b (gain_of row k s) 0) (fails (matched all group event s)))
    where
      fails : (m : ℕ) → nat_lt m 0 ≡ false
      fails m = grind (arith, nat_tests)

  pub settled-le : (i row k : ℕ) → settled i row k ≤ group_gain shown counts group event row k
  unfolding blocks_gain
  settled-le i row k =
      sum_by-le-sum_by (λ s. cond (nat_lt (matched all group event s) i) (gain_of row k s) 0) (λ s. gain_of row k s) (range_with_len 0 64)
      (λ s. part (nat_lt (matched all group event s) i) (gain_of row k s))
    where
      part : (b : Bool) (g : ℕ) → cond b g 0 ≤ g
      part true g = omega arith
      part false g = omega arith

  pub settled_all : (i row k : ℕ) → ((s : ℕ) → s < 64 → nat_le i (matched all group event s) ≡ false) → settled i row k ≡ group_gain shown counts group event row k
  unfolding blocks_gain
  settled_all i row k none =
      sum-same (λ s. cond (nat_lt (matched all group event s) i) (gain_of row k s) 0) (λ s. gain_of row k s) 0 64
      (λ s low high. ap (λ b. cond b (gain_of row k s) 0) (holds (matched all group event s) (none s (omega arith))))
    where
      holds : (m : ℕ) → nat_le i m ≡ false → nat_lt m i ≡ true
      holds m fails = grind (arith, nat_tests)

  pub blocks_same : (p q : ℕ → Bool) (row k : ℕ) → ((s : ℕ) → s < 64 → p s ≡ q s) → blocks_gain p shown counts group event row k ≡ blocks_gain q shown counts group event row k
  unfolding blocks_gain
  blocks_same p q row k same = sum-same (λ s. cond (p s) (gain_of row k s) 0) (λ s. cond (q s) (gain_of row k s) 0) 0 64 (λ s low high. ap (λ b. cond b (gain_of row k s) 0) (same s (omega arith)))

  -- all patterns of a block have the same number of data
  block_settled : (block i row k : ℕ) → ((u : ℕ) → u < 64 → matched shown block event u ≡ i) → block_gain shown counts block event row k ≡ cond (row == i) (block_total counts shown.cats block k) 0
  unfolding block_gain block_total
  block_settled block i row k alike = elim (cases_eq row i) [
    | inl same ↦
        let holds : (row == i) ≡ true = grind (arith, nat_tests) in
        sum-same (λ u. cond (matched shown block event u == row) (number_of counts shown.cats block k u) 0) (number_of counts shown.cats block k) 0 64
        (λ u low high. ap (λ b. cond b (number_of counts shown.cats block k u) 0) (is (matched shown block event u) (alike u (omega arith) ∙ sym same)))
        ∙ sym (ap (λ b. cond b (sum_by (number_of counts shown.cats block k) (range_with_len 0 64)) 0) holds)
    | inr other ↦
        let fails : (row == i) ≡ false = grind (arith, nat_tests) in
        sum-zeros (λ u. cond (matched shown block event u == row) (number_of counts shown.cats block k u) 0) 0 64
        (λ u low high. ap (λ b. cond b (number_of counts shown.cats block k u) 0) (isnt (matched shown block event u) (λ e. other (sym e ∙ alike u (omega arith)))))
        ∙ sym (ap (λ b. cond b (sum_by (number_of counts shown.cats block k) (range_with_len 0 64)) 0) fails)
  ]
    where
      is : (m : ℕ) → m ≡ row → (m == row) ≡ true
      is m e = grind (arith, nat_tests)

      isnt : (m : ℕ) → (m ≡ row → ⊥) → (m == row) ≡ false
      isnt m e = grind (arith, nat_tests)

  module _ (any : BitRows) (totals : PlaneRows) (sums : SumsUp shown counts any all totals group) where
    zero_datum : Datum
    zero_datum = record { position = 0; cat = 0 }

    -- each pattern of a block has the first data that the whole block has
    pub held : (s u i : ℕ) → s < 64 → u < 64 → i ≤ matched all group event s → i ≤ matched shown (group * 64 + s) event u
    unfolding matched
    held s u i s_below u_below whole = elim (cases_lt (matched shown (group * 64 + s) event u) i) [
      | inr more ↦ more
      | inl less ↦
          let at = matched shown (group * 64 + s) event u in
          let d = get_or event at zero_datum in
          let there = prefix_len_passes (has all group s) event at zero_datum (omega arith) in
          let holds = sums.whole s u d s_below u_below (eqb-true (bit_at (word_at all group d) s) 1 there) in
          let fails = prefix_len_stops (has shown (group * 64 + s) u) event zero_datum (omega (arith, matched-le all group event s)) in
          false-true (has shown (group * 64 + s) u d) holds fails
    ]

    -- what marked blocks add, where all their patterns have i data
    marks_gain : (p : ℕ → Bool) (i marks row k : ℕ) → marks < 2 ^ 64 → AreMarks p marks → k < shown.cats → ((s u : ℕ) → s < 64 → u < 64 → p s ≡ true → matched shown (group * 64 + s) event u ≡ i) → row_gain totals group shown.cats marks i row k ≡ blocks_gain p shown counts group event row k
    unfolding blocks_gain
    marks_gain p i marks row k small are below alike = elim (cases_eq row i) [
      | inl same ↦
          let holds : (row == i) ≡ true = grind (arith, nat_tests) in
          ap (λ b. cond b (marked_sum (planes_of totals (group * shown.cats + k)) marks) 0) holds ∙ marked_is p marks are small (planes_of totals (group * shown.cats + k))
          ∙ sum-same (λ s. cond (p s) (number_of totals shown.cats group k s) 0) (λ s. cond (p s) (gain_of row k s) 0) 0 64 (λ s low high. term s (p s) refl (omega arith) holds)
      | inr other ↦
          let fails : (row == i) ≡ false = grind (arith, nat_tests) in
          ap (λ b. cond b (marked_sum (planes_of totals (group * shown.cats + k)) marks) 0) fails
          ∙ sym (sum-zeros (λ s. cond (p s) (gain_of row k s) 0) 0 64 (λ s low high. nothing s (p s) refl (omega arith) fails))
    ]
      where
        term : (s : ℕ) (b : Bool) → p s ≡ b → s < 64 → (row == i) ≡ true → cond b (number_of totals shown.cats group k s) 0 ≡ cond b (gain_of row k s) 0
        term s false is s_below holds = refl
        term s true is s_below holds =
            sums.total s k s_below below
            ∙ sym (block_settled (group * 64 + s) i row k (λ u u_below. alike s u s_below u_below is) ∙ ap (λ b. cond b (block_total counts shown.cats (group * 64 + s) k) 0) holds)

        nothing : (s : ℕ) (b : Bool) → p s ≡ b → s < 64 → (row == i) ≡ false → cond b (gain_of row k s) 0 ≡ 0
        nothing s false is s_below fails = refl
        nothing s true is s_below fails = block_settled (group * 64 + s) i row k (λ u u_below. alike s u s_below u_below is) ∙ ap (λ b. cond b (block_total counts shown.cats (group * 64 + s) k) 0) fails

    module _ (i : ℕ) (d : Datum) (is : d ≡ get_or event i d) (within : i < length event) (alive : ℕ) (alive_small : alive < 2 ^ 64) (are : AreMarks (λ s. nat_le i (matched all group event s)) alive) (some : ℕ) (some_is : some ≡ word_at any group d) (some_small : some < 2 ^ 64) (every : ℕ) (every_is : every ≡ word_at all group d) (every_small : every < 2 ^ 64) where
      abbrev lost : ℕ → Bool
      lost s = nat_le i (matched all group event s) && not (has any group s d)

      abbrev entered : ℕ → Bool
      entered s = (nat_le i (matched all group event s) && has any group s d) && not (has all group s d)

      some_marks : AreMarks (λ s. has any group s d) some
      some_marks = subst (λ (w : ℕ). AreMarks (λ s. has any group s d) w) (sym some_is) (marks_of (word_at any group d))

      every_marks : AreMarks (λ s. has all group s d) every
      every_marks = subst (λ (w : ℕ). AreMarks (λ s. has all group s d) w) (sym every_is) (marks_of (word_at all group d))

      pub lost_marks : AreMarks lost (bit_and alive (bit_not w64 some))
      lost_marks = marks_without (λ s. nat_le i (matched all group event s)) (λ s. has any group s d) alive some some_small are some_marks

      pub open_marks : AreMarks entered (bit_and (bit_and alive some) (bit_not w64 every))
      open_marks =
          marks_without (λ s. nat_le i (matched all group event s) && has any group s d) (λ s. has all group s d) (bit_and alive some) every every_small
          (marks_both (λ s. nat_le i (matched all group event s)) (λ s. has any group s d) alive some are some_marks) every_marks

      implied : (s : ℕ) → s < 64 → has all group s d ≡ true → has any group s d ≡ true
      implied s below holds = go (has any group s d) refl
        where
          go : (b : Bool) → has any group s d ≡ b → b ≡ true
          go true is_b = refl
          go false is_b =
              false-true (has shown (group * 64 + s) 0 d) (sums.whole s 0 d below (omega arith) (eqb-true (bit_at (word_at all group d) s) 1 holds))
              (sums.absent s 0 d below (omega arith) (bit-clear (bit_at (word_at any group d) s) (bit_at-lt (word_at any group d) s) is_b))

      left-true : (a b : Bool) → (a && b) ≡ true → a ≡ true
      left-true true b e = refl
      left-true false b e = e

      right-true : (a b : Bool) → (a && not b) ≡ true → b ≡ false
      right-true true true e = sym e
      right-true true false e = refl
      right-true false b e = absurd (wrong e)
        where
          wrong : false ≡ true → ⊥
          wrong e = cc

      le-from-test : (m : ℕ) → nat_le i m ≡ true → i ≤ m
      le-from-test m e = grind (arith, nat_tests)

      -- patterns of lost blocks have i data
      lost-alike : (s u : ℕ) → s < 64 → u < 64 → lost s ≡ true → matched shown (group * 64 + s) event u ≡ i
      lost-alike s u s_below u_below holds =
          let from = held s u i s_below u_below (le-from-test (matched all group event s) (left-true (nat_le i (matched all group event s)) (not (has any group s d)) holds)) in
          let fails = sums.absent s u d s_below u_below (bit-clear (bit_at (word_at any group d) s) (bit_at-lt (word_at any group d) s) (right-true (nat_le i (matched all group event s)) (has any group s d) holds)) in
          elim (cases_lt i (matched shown (group * 64 + s) event u)) [
            | inl beyond ↦ false-true (has shown (group * 64 + s) u d) (has_before shown (group * 64 + s) event u i d is beyond) fails
            | inr here ↦ omega arith
          ]

      entered-held : (s u : ℕ) → s < 64 → u < 64 → entered s ≡ true → i ≤ matched shown (group * 64 + s) event u
      entered-held s u s_below u_below holds =
          held s u i s_below u_below
          (le-from-test (matched all group event s) (left-true (nat_le i (matched all group event s)) (has any group s d) (left-true (nat_le i (matched all group event s) && has any group s d) (not (has all group s d)) holds)))

      marked-test : (b : Bool) → ((cond b 1 0) == 1) ≡ b
      marked-test true = refl
      marked-test false = refl

      is_open : (s : ℕ) → s < 64 → (bit_at (bit_and (bit_and alive some) (bit_not w64 every)) s == 1) ≡ entered s
      is_open s below = ap (λ x. x == 1) (open_marks.each s below) ∙ marked-test (entered s)

      pub entered_shown : (s : ℕ) → s < 64 → bit_at (bit_and (bit_and alive some) (bit_not w64 every)) s ≡ 1 → (u : ℕ) → u < 64 → i ≤ matched shown (group * 64 + s) event u
      entered_shown s s_below set u u_below = entered-held s u s_below u_below (sym (is_open s s_below) ∙ ap (λ x. x == 1) set)

      lost_small : bit_and alive (bit_not w64 some) < 2 ^ 64
      lost_small = omega (arith, and_le_l alive (bit_not w64 some))

      settled_parts : (row k : ℕ) → settled (i + 1) row k ≡ settled i row k + blocks_gain lost shown counts group event row k + blocks_gain entered shown counts group event row k
      unfolding blocks_gain
      settled_parts row k =
          sum-three (λ s. cond (nat_lt (matched all group event s) i) (gain_of row k s) 0) (λ s. cond (lost s) (gain_of row k s) 0) (λ s. cond (entered s) (gain_of row k s) 0) (λ s. cond (nat_lt (matched all group event s) (i + 1)) (gain_of row k s) 0) 0 64
          (λ s low high. parts (matched all group event s) i (has any group s d) (has all group s d) (gain_of row k s) (has_before all group event s i d is) (λ same. lacks_next all group event s i d is same within) (implied s (omega arith)))

      settled_more : (row k : ℕ) → k < shown.cats → settled (i + 1) row k ≡ settled i row k + row_gain totals group shown.cats (bit_and alive (bit_not w64 some)) i row k + open_gain shown counts group (bit_and (bit_and alive some) (bit_not w64 every)) event row k
      settled_more row k below =
          settled_parts row k
          ∙ ap (λ x. settled i row k + x + blocks_gain entered shown counts group event row k) (sym (marks_gain lost i (bit_and alive (bit_not w64 some)) row k lost_small lost_marks below lost-alike))
          ∙ ap (λ x. settled i row k + row_gain totals group shown.cats (bit_and alive (bit_not w64 some)) i row k + x) (sym (blocks_same (λ s. bit_at (bit_and (bit_and alive some) (bit_not w64 every)) s == 1) entered row k is_open))

      module _ (cats least : ℕ) (before now : List ℕ) (cats_are : cats ≡ shown.cats) (adds : Adds shown.cats least (settled i) before now) where
        pub lost_room : HasRoom shown.cats least (group_gain shown counts group event) before → HasRoom cats least (row_gain totals group cats (bit_and alive (bit_not w64 some)) i) now
        lost_room room =
            subst (λ (n : ℕ). HasRoom n least (row_gain totals group n (bit_and alive (bit_not w64 some)) i) now) (sym cats_are)
            (room-after shown.cats least (group_gain shown counts group event) (settled i) (row_gain totals group shown.cats (bit_and alive (bit_not w64 some)) i) before now room adds
            (λ row k below from. omega (arith, settled_more row k below, settled-le (i + 1) row k)))

        module _ (between : List ℕ) (more : Adds cats least (row_gain totals group cats (bit_and alive (bit_not w64 some)) i) now between) where
          both : Adds shown.cats least (λ row k. settled i row k + row_gain totals group shown.cats (bit_and alive (bit_not w64 some)) i row k) before between
          both =
              adds-both shown.cats least (λ row k. settled i row k + row_gain totals group shown.cats (bit_and alive (bit_not w64 some)) i row k) (settled i) (row_gain totals group shown.cats (bit_and alive (bit_not w64 some)) i) before now between adds
              (subst (λ (n : ℕ). Adds n least (row_gain totals group n (bit_and alive (bit_not w64 some)) i) now between) cats_are more)
              (λ row k below from. refl)

          pub entered_room : HasRoom shown.cats least (group_gain shown counts group event) before → HasRoom shown.cats least (open_gain shown counts group (bit_and (bit_and alive some) (bit_not w64 every)) event) between
          entered_room room =
              room-after shown.cats least (group_gain shown counts group event) (λ row k. settled i row k + row_gain totals group shown.cats (bit_and alive (bit_not w64 some)) i row k) (open_gain shown counts group (bit_and (bit_and alive some) (bit_not w64 every)) event) before between room both
              (λ row k below from. omega (arith, settled_more row k below, settled-le (i + 1) row k))

          pub datum_added : (after : List ℕ) → Adds shown.cats least (open_gain shown counts group (bit_and (bit_and alive some) (bit_not w64 every)) event) between after → Adds shown.cats least (settled (i + 1)) before after
          datum_added after rest =
              adds-both shown.cats least (settled (i + 1)) (λ row k. settled i row k + row_gain totals group shown.cats (bit_and alive (bit_not w64 some)) i row k) (open_gain shown counts group (bit_and (bit_and alive some) (bit_not w64 every)) event) before between after both rest
              (λ row k below from. settled_more row k below)

    -- blocks that have all data
    module _ (i alive : ℕ) (end : i ≡ length event) (alive_small : alive < 2 ^ 64) (are : AreMarks (λ s. nat_le i (matched all group event s)) alive) where
      le-from : (m : ℕ) → nat_le i m ≡ true → i ≤ m
      le-from m e = grind (arith, nat_tests)

      last-alike : (s u : ℕ) → s < 64 → u < 64 → nat_le i (matched all group event s) ≡ true → matched shown (group * 64 + s) event u ≡ i
      last-alike s u s_below u_below holds = omega (arith, held s u i s_below u_below (le-from (matched all group event s) holds), matched-le shown (group * 64 + s) event u)

      either : (m g : ℕ) → g ≡ cond (nat_lt m i) g 0 + cond (nat_le i m) g 0 + 0
      either m g = elim (cases_lt m i) [
        | inl less ↦
            let past : nat_lt m i ≡ true = grind (arith, nat_tests) in
            let later : nat_le i m ≡ false = grind (arith, nat_tests) in
            sym (ap (λ b. cond b g 0 + cond (nat_le i m) g 0 + 0) past ∙ ap (λ b. g + cond b g 0 + 0) later ∙ omega arith)
        | inr more ↦
            let past : nat_lt m i ≡ false = grind (arith, nat_tests) in
            let later : nat_le i m ≡ true = grind (arith, nat_tests) in
            sym (ap (λ b. cond b g 0 + cond (nat_le i m) g 0 + 0) past ∙ ap (λ b. 0 + cond b g 0 + 0) later ∙ omega arith)
      ]

      group_parts : (row k : ℕ) → group_gain shown counts group event row k ≡ settled i row k + blocks_gain (λ s. nat_le i (matched all group event s)) shown counts group event row k
      unfolding blocks_gain
      group_parts row k =
          omega (
            arith,
            sum-three (λ s. cond (nat_lt (matched all group event s) i) (gain_of row k s) 0) (λ s. cond (nat_le i (matched all group event s)) (gain_of row k s) 0) (λ s. 0) (λ s. gain_of row k s) 0 64 (λ s low high. either (matched all group event s) (gain_of row k s)),
            sum-zeros (λ s. 0) 0 64 (λ s low high. refl),
          )

      group_is : (row k : ℕ) → k < shown.cats → group_gain shown counts group event row k ≡ settled i row k + row_gain totals group shown.cats alive i row k
      group_is row k below = group_parts row k ∙ ap (λ x. settled i row k + x) (sym (marks_gain (λ s. nat_le i (matched all group event s)) i alive row k alive_small are below last-alike))

      module _ (cats least : ℕ) (before now : List ℕ) (cats_are : cats ≡ shown.cats) (adds : Adds shown.cats least (settled i) before now) where
        pub last_room : HasRoom shown.cats least (group_gain shown counts group event) before → HasRoom cats least (row_gain totals group cats alive i) now
        last_room room =
            subst (λ (n : ℕ). HasRoom n least (row_gain totals group n alive i) now) (sym cats_are)
            (room-after shown.cats least (group_gain shown counts group event) (settled i) (row_gain totals group shown.cats alive i) before now room adds
            (λ row k below from. omega (arith, group_is row k below)))

        pub last_added : (after : List ℕ) → Adds cats least (row_gain totals group cats alive i) now after → Adds shown.cats least (group_gain shown counts group event) before after
        last_added after more =
            adds-both shown.cats least (group_gain shown counts group event) (settled i) (row_gain totals group shown.cats alive i) before now after adds
            (subst (λ (n : ℕ). Adds n least (row_gain totals group n alive i) now after) cats_are more)
            (λ row k below from. group_is row k below)

  pub none_settled : (least : ℕ) (before : List ℕ) → Adds shown.cats least (settled 0) before before
  none_settled least before = adds-none shown.cats least (settled 0) before (λ row k below from. settled_none row k)

  pub no_block_left : (i alive least : ℕ) (before after : List ℕ) → AreMarks (λ s. nat_le i (matched all group event s)) alive → alive ≡ 0 → Adds shown.cats least (settled i) before after → Adds shown.cats least (group_gain shown counts group event) before after
  no_block_left i alive least before after are none adds =
      adds-same shown.cats least (group_gain shown counts group event) (settled i) before after adds
      (λ row k below from. sym (settled_all i row k (λ s s_below. none_marked (λ s. nat_le i (matched all group event s)) alive s are none s_below)))
