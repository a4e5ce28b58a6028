-- Items of a block that have the first data of an event.
use Rattle.std.proofs.Common.{◌≡◌, ℕ, ◌+◌, ◌-◌, ◌*◌, ◌^◌, ◌<◌, ◌≤◌, ◌==◌, Bool, true, false, not, cond, ◌&&◌, List, length, get_or, max, nat_lt, nat_le, ap, sym, ◌∙◌, subst, inl, inr, arith}
use Rattle.std.specs.Int.{bit_not, w64}
use Rattle.std.specs.Int.RustNames.{bit_and}
use Rattle.std.proofs.lemmas.Bool.{cases_eq, cases_lt}
use Rattle.std.proofs.lemmas.Bool.Decides.{nat_tests}
use Rattle.std.proofs.lemmas.Nat.Bits.{bit_at-zero}
use Rattle.std.proofs.lemmas.List.Sums.{prefix_len-le-length, prefix_len_passes, prefix_len_stops}
use Rattle.ti_scan.specs.declared.event.Datum.{Datum}
use Rattle.pattern_blocks.specs.Bits.{AreMarks}
use Rattle.pattern_blocks.specs.Planes.{PlaneRows, marked_sum, planes_of}
use Rattle.pattern_blocks.specs.Rows.{BitRows, has, matched, word_at}
use Rattle.pattern_blocks.specs.Tally.{Adds, HasRoom, block_gain, number_of, row_gain}
use Rattle.pattern_blocks.proofs.Bits.{marks_all, marks_both, marks_of, marks_same, marks_without, none_marked}
use Rattle.pattern_blocks.proofs.MarkedSums.{marked_is}
use Rattle.pattern_blocks.proofs.Sums.{sum-zeros}
use Rattle.pattern_blocks.proofs.Tallies.{adds-both, adds-none, adds-same, room-after}

module _ (rows : BitRows) (block : ℕ) (event : List Datum) where
  pub matched-le : (s : ℕ) → matched rows block event s ≤ length event
  unfolding matched
  matched-le s = prefix_len-le-length (has rows block s) event

  pub has_before : (s i : ℕ) (d : Datum) → d ≡ get_or event i d → i < matched rows block event s → has rows block s d ≡ true
  unfolding matched
  has_before s i d is before = ap (has rows block s) is ∙ prefix_len_passes (has rows block s) event i d before

  pub lacks_next : (s i : ℕ) (d : Datum) → d ≡ get_or event i d → matched rows block event s ≡ i → i < length event → has rows block s d ≡ false
  unfolding matched
  lacks_next s i d is same within =
      ap (has rows block s) (is ∙ ap (λ k. get_or event k d) (sym same))
      ∙ prefix_len_stops (has rows block s) event d (omega arith)

  kept-test : (m i : ℕ) (h : Bool) → (i < m → h ≡ true) → (m ≡ i → h ≡ false) → (nat_le i m && h) ≡ nat_le (i + 1) m
  kept-test m i true before next = elim (cases_eq m i) [ inl same ↦ absurd (false-true (next same)) | inr other ↦ grind (arith, nat_tests) ]
    where
      false-true : true ≡ false → ⊥
      false-true e = cc
  kept-test m i false before next = elim (cases_lt i m) [ inl less ↦ absurd (true-false (before less)) | inr more ↦ grind (arith, nat_tests) ]
    where
      true-false : false ≡ true → ⊥
      true-false e = cc

  lost-test : (m i : ℕ) (h : Bool) → (i < m → h ≡ true) → (m ≡ i → h ≡ false) → (nat_le i m && not h) ≡ (m == i)
  lost-test m i true before next = elim (cases_eq m i) [ inl same ↦ absurd (false-true (next same)) | inr other ↦ grind (arith, nat_tests) ]
    where
      false-true : true ≡ false → ⊥
      false-true e = cc
  lost-test m i false before next = elim (cases_lt i m) [ inl less ↦ absurd (true-false (before less)) | inr more ↦ grind (arith, nat_tests) ]
    where
      true-false : false ≡ true → ⊥
      true-false e = cc

  module _ (i : ℕ) (d : Datum) (is : d ≡ get_or event i d) (within : i < length event) (alive : ℕ) (are : AreMarks (λ s. nat_le i (matched rows block event s)) alive) (word : ℕ) (word_is : word ≡ word_at rows block d) where
    kept : AreMarks (λ s. nat_le (i + 1) (matched rows block event s)) (bit_and alive (word_at rows block d))
    kept =
        marks_same (λ s. nat_le i (matched rows block event s) && has rows block s d) (λ s. nat_le (i + 1) (matched rows block event s)) (bit_and alive (word_at rows block d))
        (marks_both (λ s. nat_le i (matched rows block event s)) (λ s. has rows block s d) alive (word_at rows block d) are (marks_of (word_at rows block d)))
        (λ s below. kept-test (matched rows block event s) i (has rows block s d) (has_before s i d is) (λ same. lacks_next s i d is same within))

    -- those that have the next datum too
    pub kept_marks : AreMarks (λ s. nat_le (i + 1) (matched rows block event s)) (bit_and alive word)
    kept_marks = subst (λ (w : ℕ). AreMarks (λ s. nat_le (i + 1) (matched rows block event s)) (bit_and alive w)) (sym word_is) kept

    lost : word_at rows block d < 2 ^ 64 → AreMarks (λ s. matched rows block event s == i) (bit_and alive (bit_not w64 (word_at rows block d)))
    lost small =
        marks_same (λ s. nat_le i (matched rows block event s) && not (has rows block s d)) (λ s. matched rows block event s == i) (bit_and alive (bit_not w64 (word_at rows block d)))
        (marks_without (λ s. nat_le i (matched rows block event s)) (λ s. has rows block s d) alive (word_at rows block d) small are (marks_of (word_at rows block d)))
        (λ s below. lost-test (matched rows block event s) i (has rows block s d) (has_before s i d is) (λ same. lacks_next s i d is same within))

    -- those that don't
    pub lost_marks : word < 2 ^ 64 → AreMarks (λ s. matched rows block event s == i) (bit_and alive (bit_not w64 word))
    lost_marks small =
        subst (λ (w : ℕ). AreMarks (λ s. matched rows block event s == i) (bit_and alive (bit_not w64 w))) (sym word_is) (lost (omega (arith, word_is)))

  pub first_marks : (from : ℕ) → ((s : ℕ) → s < 64 → from ≤ matched rows block event s) → AreMarks (λ s. nat_le from (matched rows block event s)) (2 ^ 64 - 1)
  first_marks from all = marks_same (λ s. true) (λ s. nat_le from (matched rows block event s)) (2 ^ 64 - 1) marks_all (λ s below. yes from (matched rows block event s) (all s below))
    where
      yes : (i m : ℕ) → i ≤ m → true ≡ nat_le i m
      yes i m le = grind (arith, nat_tests)

  -- where none has the first i data, none has more
  pub none_later : (i to marks : ℕ) → i ≤ to → AreMarks (λ s. nat_le i (matched rows block event s)) marks → marks ≡ 0 → AreMarks (λ s. nat_le to (matched rows block event s)) 0
  none_later i to marks order are none = record {
    each = λ s below. bit_at-zero s ∙ sym (ap (λ b. cond b 1 0) (fewer (matched rows block event s) (none_marked (λ s. nat_le i (matched rows block event s)) marks s are none below)));
  }
    where
      fewer : (m : ℕ) → nat_le i m ≡ false → nat_le to m ≡ false
      fewer m less = grind (arith, nat_tests)

  pub last_marks : (i alive : ℕ) → i ≡ length event → AreMarks (λ s. nat_le i (matched rows block event s)) alive → AreMarks (λ s. matched rows block event s == i) alive
  last_marks i alive end are = marks_same (λ s. nat_le i (matched rows block event s)) (λ s. matched rows block event s == i) alive are (λ s below. same i (matched rows block event s) (omega (arith, matched-le s)))
    where
      same : (i m : ℕ) → m ≤ i → nat_le i m ≡ (m == i)
      same i m le = grind (arith, nat_tests)

  -- what the marked items add to their row
  pub gain_marked : (planes : PlaneRows) (i marks k : ℕ) → marks < 2 ^ 64 → AreMarks (λ s. matched rows block event s == i) marks → marked_sum (planes_of planes (block * rows.cats + k)) marks ≡ block_gain rows planes block event i k
  unfolding block_gain
  gain_marked planes i marks k small are = marked_is (λ s. matched rows block event s == i) marks are small (planes_of planes (block * rows.cats + k))

  -- a row that no item belongs to
  pub gain_nothing : (planes : PlaneRows) (row k : ℕ) → ((s : ℕ) → s < 64 → (matched rows block event s == row) ≡ false) → block_gain rows planes block event row k ≡ 0
  unfolding block_gain
  gain_nothing planes row k none = sum-zeros (λ s. cond (matched rows block event s == row) (number_of planes rows.cats block k s) 0) 0 64 (λ s low high. ap (λ b. cond b (number_of planes rows.cats block k s) 0) (none s (omega arith)))

  pub gain_before : (planes : PlaneRows) (from row k : ℕ) → ((s : ℕ) → s < 64 → from ≤ matched rows block event s) → row < from → block_gain rows planes block event row k ≡ 0
  gain_before planes from row k all before = gain_nothing planes row k (λ s below. no (matched rows block event s) (omega (arith, all s below)))
    where
      no : (m : ℕ) → row < m → (m == row) ≡ false
      no m less = grind (arith, nat_tests)

  pub gain_after : (planes : PlaneRows) (row k : ℕ) → length event < row → block_gain rows planes block event row k ≡ 0
  gain_after planes row k after = gain_nothing planes row k (λ s below. no (matched rows block event s) (omega (arith, matched-le s)))
    where
      no : (m : ℕ) → m < row → (m == row) ≡ false
      no m less = grind (arith, nat_tests)

  -- where no item is left
  pub gain_ended : (planes : PlaneRows) (i alive row k : ℕ) → AreMarks (λ s. nat_le i (matched rows block event s)) alive → alive ≡ 0 → i ≤ row → block_gain rows planes block event row k ≡ 0
  gain_ended planes i alive row k are none from = gain_nothing planes row k (λ s below. no (matched rows block event s) (none_marked (λ s. nat_le i (matched rows block event s)) alive s are none below))
    where
      no : (m : ℕ) → nat_le i m ≡ false → (m == row) ≡ false
      no m less = grind (arith, nat_tests)

  abbrev pub done : PlaneRows → ℕ → ℕ → ℕ → ℕ
  done planes i row k = cond (nat_lt row i) (block_gain rows planes block event row k) 0

  abbrev pub at_row : PlaneRows → ℕ → ℕ → ℕ → ℕ
  at_row planes i row k = cond (row == i) (block_gain rows planes block event i k) 0

  pub done_more : (planes : PlaneRows) (i row k : ℕ) → done planes (i + 1) row k ≡ done planes i row k + at_row planes i row k
  done_more planes i row k = elim (cases_eq row i) [
    | inl same ↦
        let now : nat_lt row (i + 1) ≡ true = grind (arith, nat_tests) in
        let past : nat_lt row i ≡ false = grind (arith, nat_tests) in
        let here : (row == i) ≡ true = grind (arith, nat_tests) in
        let g : ℕ → ℕ = λ r. block_gain rows planes block event r k in
        ap (λ b. cond b (g row) 0) now ∙ ap g same ∙ omega arith
        ∙ sym (ap (λ b. cond b (g row) 0 + cond (row == i) (g i) 0) past ∙ ap (λ b. 0 + cond b (g i) 0) here)
    | inr other ↦
        let there : (row == i) ≡ false = grind (arith, nat_tests) in
        let alike : nat_lt row (i + 1) ≡ nat_lt row i = grind (arith, nat_tests) in
        let g : ℕ → ℕ = λ r. block_gain rows planes block event r k in
        ap (λ b. cond b (g row) 0) alike ∙ omega arith ∙ sym (ap (λ b. cond (nat_lt row i) (g row) 0 + cond b (g i) 0) there)
  ]

  done-le : (b : Bool) (g : ℕ) → cond b g 0 ≤ g
  done-le true g = omega arith
  done-le false g = omega arith

  pub done-le-gain : (planes : PlaneRows) (i row k : ℕ) → done planes i row k ≤ block_gain rows planes block event row k
  done-le-gain planes i row k = done-le (nat_lt row i) (block_gain rows planes block event row k)

  -- all rows are done where none has an item from here on
  pub done_all : (planes : PlaneRows) (i row k : ℕ) → (i ≤ row → block_gain rows planes block event row k ≡ 0) → block_gain rows planes block event row k ≡ done planes i row k
  done_all planes i row k none = elim (cases_lt row i) [
    | inl less ↦
        let yes : nat_lt row i ≡ true = grind (arith, nat_tests) in
        sym (ap (λ b. cond b (block_gain rows planes block event row k) 0) yes)
    | inr more ↦
        let no : nat_lt row i ≡ false = grind (arith, nat_tests) in
        none (omega arith) ∙ sym (ap (λ b. cond b (block_gain rows planes block event row k) 0) no)
  ]

  done_none : (planes : PlaneRows) (from row k : ℕ) → (row < from → block_gain rows planes block event row k ≡ 0) → done planes from row k ≡ 0
  done_none planes from row k none = elim (cases_lt row from) [
    | inl less ↦
        let yes : nat_lt row from ≡ true = grind (arith, nat_tests) in
        ap (λ b. cond b (block_gain rows planes block event row k) 0) yes ∙ none less
    | inr more ↦
        let no : nat_lt row from ≡ false = grind (arith, nat_tests) in
        ap (λ b. cond b (block_gain rows planes block event row k) 0) no
  ]

  -- a row is added to the tally
  module _ (planes : PlaneRows) (i cats least marks : ℕ) (before now : List ℕ) (cats_are : cats ≡ rows.cats) (small : marks < 2 ^ 64) (are : AreMarks (λ s. matched rows block event s == i) marks) (adds : Adds rows.cats least (done planes i) before now) where
    row_is : (row k : ℕ) → row_gain planes block rows.cats marks i row k ≡ at_row planes i row k
    row_is row k = ap (λ m. cond (row == i) m 0) (gain_marked planes i marks k small are)

    pub row_room : HasRoom rows.cats least (block_gain rows planes block event) before → HasRoom cats least (row_gain planes block cats marks i) now
    row_room room =
        subst (λ (n : ℕ). HasRoom n least (row_gain planes block n marks i) now) (sym cats_are)
        (room-after rows.cats least (block_gain rows planes block event) (done planes i) (row_gain planes block rows.cats marks i) before now room adds
        (λ row k below from. omega (arith, row_is row k, done_more planes i row k, done-le-gain planes (i + 1) row k)))

    pub row_added : (after : List ℕ) → Adds cats least (row_gain planes block cats marks i) now after → Adds rows.cats least (done planes (i + 1)) before after
    row_added after more =
        adds-both rows.cats least (done planes (i + 1)) (done planes i) (row_gain planes block rows.cats marks i) before now after adds
        (subst (λ (n : ℕ). Adds n least (row_gain planes block n marks i) now after) cats_are more)
        (λ row k below from. omega (arith, row_is row k, done_more planes i row k))

  -- before the first datum that isn't sure, or the first row that is asked for
  pub nothing_added : (planes : PlaneRows) (from least start : ℕ) (before : List ℕ) → start ≡ max from least → ((s : ℕ) → s < 64 → from ≤ matched rows block event s) → Adds rows.cats least (done planes start) before before
  nothing_added planes from least start before start_is all =
      adds-none rows.cats least (done planes start) before (λ row k below above. done_none planes start row k (λ less. gain_before planes from row k all (omega (arith, start_is))))

  pub all_added : (planes : PlaneRows) (i least : ℕ) (before after : List ℕ) → Adds rows.cats least (done planes i) before after → ((row k : ℕ) → i ≤ row → block_gain rows planes block event row k ≡ 0) → Adds rows.cats least (block_gain rows planes block event) before after
  all_added planes i least before after adds none = adds-same rows.cats least (block_gain rows planes block event) (done planes i) before after adds (λ row k below from. done_all planes i row k (λ beyond. none row k beyond))
