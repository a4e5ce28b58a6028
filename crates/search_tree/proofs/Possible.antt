-- Blocks that can't have a pattern with so many of the first data.
use Rattle.std.proofs.Common.{◌≡◌, ℕ, ◌+◌, ◌*◌, ◌<◌, ◌≤◌, ◌==◌, Bool, true, false, cond, min, List, get_or, nat_le, ap, sym, ◌∙◌, inl, inr, arith}
use Rattle.std.specs.Int.{bit_at}
use Rattle.std.specs.Int.RustNames.{bit_and}
use Rattle.std.proofs.lemmas.Bool.{cases_lt}
use Rattle.std.proofs.lemmas.Bool.Decides.{nat_tests}
use Rattle.std.proofs.lemmas.List.Sums.{prefix_len_passes, prefix_len_stops}
use Rattle.std.proofs.lemmas.Nat.Bits.{bit_at-lt, bit_at-zero, bit_at_and}
use Rattle.ti_scan.specs.declared.event.Datum.{Datum}
use Rattle.pattern_blocks.specs.Bits.{AreMarks}
use Rattle.pattern_blocks.specs.Planes.{PlaneRows}
use Rattle.pattern_blocks.specs.Rows.{BitRows, has, matched, word_at}
use Rattle.pattern_blocks.specs.Tally.{Adds, HasRoom, block_gain}
use Rattle.pattern_blocks.proofs.Matching.{gain_nothing, matched-le}
use Rattle.pattern_blocks.proofs.Sums.{sum-same, sum-zeros}
use Rattle.pattern_blocks.proofs.Tallies.{adds-none, adds-same}
use Rattle.pattern_store.specs.Gains.{blocks_gain, group_gain}
use Rattle.search_tree.specs.Groups.{HoldsRest, SumsUp, open_gain}

-- a mark of both is a mark of the first
pub first_of : (a b s : ℕ) → bit_at (bit_and a b) s ≡ 1 → bit_at a s ≡ 1
first_of a b s set = omega (arith, set, bit_at_and a b s, bit_at-lt a s)

module _ (shown : BitRows) (counts : PlaneRows) (group : ℕ) (event : List Datum) (least possible : ℕ) (holds : HoldsRest shown group event least possible) where
  -- a block that isn't marked adds nothing to the rows that are asked for
  no_gain : (s row k : ℕ) → s < 64 → bit_at possible s ≡ 0 → least ≤ row → block_gain shown counts (group * 64 + s) event row k ≡ 0
  no_gain s row k s_below clear from = gain_nothing shown (group * 64 + s) event counts row k (λ u u_below. differ (matched shown (group * 64 + s) event u) (omega (arith, holds.fewer s u s_below u_below clear)))
    where
      differ : (m : ℕ) → m < row → (m == row) ≡ false
      differ m less = grind (arith, nat_tests)

  masked : (x y g : ℕ) → x < 2 → y < 2 → (y ≡ 0 → g ≡ 0) → cond (min x y == 1) g 0 ≡ cond (x == 1) g 0
  masked x y g x_small y_small none = elim (cases_lt y 1) [
    | inl zero_ ↦
        let clear : min x y ≡ 0 = omega arith in
        ap (λ m. cond (m == 1) g 0) clear ∙ sym (nothing (x == 1) (none (omega arith)))
    | inr one ↦
        let same : min x y ≡ x = omega arith in
        ap (λ m. cond (m == 1) g 0) same
  ]
    where
      nothing : (b : Bool) → g ≡ 0 → cond b g 0 ≡ 0
      nothing true e = e
      nothing false e = omega arith

  pub open_possible : (entered row k : ℕ) → least ≤ row → open_gain shown counts group (bit_and entered possible) event row k ≡ open_gain shown counts group entered event row k
  unfolding blocks_gain
  open_possible entered row k from =
      sum-same (λ s. cond (bit_at (bit_and entered possible) s == 1) (block_gain shown counts (group * 64 + s) event row k) 0) (λ s. cond (bit_at entered s == 1) (block_gain shown counts (group * 64 + s) event row k) 0) 0 64
      (λ s low high. ap (λ m. cond (m == 1) (block_gain shown counts (group * 64 + s) event row k) 0) (bit_at_and entered possible s)
      ∙ masked (bit_at entered s) (bit_at possible s) (block_gain shown counts (group * 64 + s) event row k) (bit_at-lt entered s) (bit_at-lt possible s) (λ clear. no_gain s row k (omega arith) clear from))

  pub entered_room : (cats entered : ℕ) (before : List ℕ) → HasRoom cats least (open_gain shown counts group entered event) before → HasRoom cats least (open_gain shown counts group (bit_and entered possible) event) before
  entered_room cats entered before room = record { each = λ row k below from. omega (arith, room.each row k below from, open_possible entered row k from) }

  pub entered_added : (cats entered : ℕ) (before after : List ℕ) → Adds cats least (open_gain shown counts group (bit_and entered possible) event) before after → Adds cats least (open_gain shown counts group entered event) before after
  entered_added cats entered before after adds =
      adds-same cats least (open_gain shown counts group entered event) (open_gain shown counts group (bit_and entered possible) event) before after adds (λ row k below from. sym (open_possible entered row k from))

  -- a group without a mark
  pub none_possible : (cats : ℕ) (before : List ℕ) → possible ≡ 0 → Adds cats least (group_gain shown counts group event) before before
  unfolding blocks_gain
  none_possible cats before none =
      adds-none cats least (group_gain shown counts group event) before
      (λ row k below from. sum-zeros (λ s. block_gain shown counts (group * 64 + s) event row k) 0 64 (λ s low high. no_gain s row k (omega arith) (ap (λ m. bit_at m s) none ∙ bit_at-zero s) from))

module _ (shown : BitRows) (counts : PlaneRows) (any all : BitRows) (totals : PlaneRows) (group : ℕ) (event : List Datum) (sums : SumsUp shown counts any all totals group) where
  zero_datum : Datum
  zero_datum = record { position = 0; cat = 0 }

  -- no pattern of a block has more of the first data than some of its patterns show
  shown-le : (s u : ℕ) → s < 64 → u < 64 → matched shown (group * 64 + s) event u ≤ matched any group event s
  unfolding matched
  shown-le s u s_below u_below = elim (cases_lt (matched any group event s) (matched shown (group * 64 + s) event u)) [
    | inr fewer ↦ fewer
    | inl more ↦
        let at = matched any group event s in
        let d = get_or event at zero_datum in
        let there = prefix_len_passes (has shown (group * 64 + s) u) event at zero_datum more in
        let lacks = prefix_len_stops (has any group s) event zero_datum (omega (arith, matched-le shown (group * 64 + s) event u)) in
        let fails = sums.absent s u d s_below u_below (bit-clear (bit_at (word_at any group d) s) (bit_at-lt (word_at any group d) s) lacks) in
        absurd (differ (sym there ∙ fails))
  ]
    where
      bit-clear : (x : ℕ) → x < 2 → (x == 1) ≡ false → x ≡ 0
      bit-clear x small fails = grind (arith, nat_tests)

      differ : true ≡ false → ⊥
      differ e = cc

  pub holds_rest : (least possible : ℕ) → AreMarks (λ s. nat_le least (matched any group event s)) possible → HoldsRest shown group event least possible
  holds_rest least possible are = record {
    fewer = λ s u s_below u_below clear. omega (arith, shown-le s u s_below u_below, less (matched any group event s) (sym (are.each s s_below) ∙ clear));
  }
    where
      less : (m : ℕ) → ◌≡◌ {A = ℕ} (cond (nat_le least m) 1 0) 0 → m < least
      less m e = elim (cases_lt m least) [
        | inl fewer ↦ fewer
        | inr enough ↦
            let yes : nat_le least m ≡ true = grind (arith, nat_tests) in
            absurd (omega (arith, e, ap {B = ℕ} (λ b. cond b 1 0) yes))
      ]
