-- Blocks of a group that are opened one after another.
use Rattle.std.proofs.Common.{◌≡◌, ℕ, zero, suc, ◌+◌, ◌*◌, ◌%◌, ◌^◌, ◌<◌, ◌≤◌, ◌==◌, Bool, true, false, not, cond, ◌&&◌, List, refl, ap, sym, ◌∙◌, subst, inl, inr, arith}
use Rattle.std.specs.Int.{bit_at, bit_not, trailing_zeros, w64}
use Rattle.std.specs.Int.RustNames.{bit_and}
use Rattle.std.specs.List.{range_with_len, sum_by}
use Rattle.std.proofs.lemmas.Bool.{cases_eq}
use Rattle.std.proofs.lemmas.List.Sums.{sum_by-cons, sum_by-le-sum_by}
use Rattle.std.proofs.lemmas.Nat.{and_le_l}
use Rattle.std.proofs.lemmas.Nat.Bits.{bit_at-trailing_zeros, bit_at-zero, bit_at_clear_other, bit_at_clear_same}
use Rattle.ti_scan.specs.declared.event.Datum.{Datum}
use Rattle.pattern_blocks.specs.Rows.{BitRows}
use Rattle.pattern_blocks.specs.Planes.{PlaneRows}
use Rattle.pattern_blocks.specs.Tally.{Adds, HasRoom, block_gain}
use Rattle.pattern_blocks.proofs.Sums.{sum-same, sum-zeros}
use Rattle.pattern_blocks.proofs.Tallies.{adds-both, adds-none, adds-same, room-after}
use Rattle.pattern_store.specs.Gains.{blocks_gain}
use Rattle.search_tree.specs.Groups.{open_gain}

-- a sum in which one term is larger
pub sum-changed : (f h : ℕ → ℕ) (a n at more : ℕ) → a ≤ at → at < a + n → ((s : ℕ) → a ≤ s → s < a + n → (s ≡ at → ⊥) → h s ≡ f s) → h at ≡ f at + more → sum_by h (range_with_len a n) ≡ sum_by f (range_with_len a n) + more
sum-changed f h a zero at more low high same here = absurd (omega arith)
sum-changed f h a (suc n) at more low high same here = elim (cases_eq at a) [
  | inl first ↦
      let now : h a ≡ f a + more = ap h (sym first) ∙ here ∙ ap (λ x. f x + more) first in
      omega (
        arith,
        sum_by-cons h a (range_with_len (a + 1) n),
        sum_by-cons f a (range_with_len (a + 1) n),
        now,
        sum-same h f (a + 1) n (λ s from to. same s (omega arith) (omega arith) (λ e. omega arith)),
      )
  | inr later ↦
      omega (
        arith,
        sum_by-cons h a (range_with_len (a + 1) n),
        sum_by-cons f a (range_with_len (a + 1) n),
        same a (omega arith) (omega arith) (λ e. later (sym e)),
        sum-changed f h (a + 1) n at more (omega arith) (omega arith) (λ s from to other. same s (omega arith) (omega arith) other) here,
      )
]

-- the lowest mark is taken away
pub record IsLowest (marks item rest : ℕ) : Type 0 where
  pub below : item < 64
  pub set : bit_at marks item ≡ 1
  pub clear : bit_at rest item ≡ 0
  pub others : (s : ℕ) → s < 64 → (s ≡ item → ⊥) → bit_at rest s ≡ bit_at marks s
  pub less : rest < marks

pub lowest_item : (marks item : ℕ) → marks < 2 ^ 64 → (marks ≡ 0 → ⊥) → item ≡ trailing_zeros w64 marks → (item < 64) × (bit_at marks item ≡ 1)
lowest_item marks item small some is =
    let z = bit_at-trailing_zeros w64 marks (omega arith) small in
    (subst (λ (t : ℕ). t < 64) (sym is) z.0, ap (bit_at marks) is ∙ z.1)

pub lowest_taken : (marks item : ℕ) → marks < 2 ^ 64 → (marks ≡ 0 → ⊥) → item ≡ trailing_zeros w64 marks → IsLowest marks item (bit_and marks (bit_not w64 (1 * 2 ^ item % 2 ^ 64)))
lowest_taken marks item small some is =
    let it = lowest_item marks item small some is in
    record {
      below = it.0;
      set = it.1;
      clear = bit_at_clear_same w64 marks item it.0;
      others = λ s below other. bit_at_clear_other w64 marks item it.0 s below other;
      less = smaller it.0 it.1;
    }
  where
    smaller : item < 64 → bit_at marks item ≡ 1 → bit_and marks (bit_not w64 (1 * 2 ^ item % 2 ^ 64)) < marks
    smaller below set = elim (cases_eq (bit_and marks (bit_not w64 (1 * 2 ^ item % 2 ^ 64))) marks) [
      | inl same ↦ absurd (zero-one (sym (bit_at_clear_same w64 marks item below) ∙ ap (λ m. bit_at m item) same ∙ set))
      | inr other ↦ omega (arith, and_le_l marks (bit_not w64 (1 * 2 ^ item % 2 ^ 64)))
    ]
      where
        zero-one : ◌≡◌ {A = ℕ} 0 1 → ⊥
        zero-one e = omega arith

module _ (shown : BitRows) (counts : PlaneRows) (group : ℕ) (event : List Datum) where
  abbrev pub gain_of : ℕ → ℕ → ℕ → ℕ
  gain_of row k s = block_gain shown counts (group * 64 + s) event row k

  -- what the blocks add that are marked in `entered` and no longer in `left`
  abbrev pub opened : ℕ → ℕ → ℕ → ℕ → ℕ
  opened entered left row k = blocks_gain (λ s. (bit_at entered s == 1) && not (bit_at left s == 1)) shown counts group event row k

  passed-none : (b c : Bool) (g : ℕ) → (b ≡ true → c ≡ true) → cond (b && not c) g 0 ≡ 0
  passed-none true true g implies = refl
  passed-none true false g implies = absurd (wrong (implies refl))
    where
      wrong : false ≡ true → ⊥
      wrong e = cc
  passed-none false c g implies = refl

  pub opened_none : (entered row k : ℕ) → opened entered entered row k ≡ 0
  unfolding blocks_gain
  opened_none entered row k = sum-zeros (λ s. cond ((bit_at entered s == 1) && not (bit_at entered s == 1)) (gain_of row k s) 0) 0 64 (λ s low high. passed-none (bit_at entered s == 1) (bit_at entered s == 1) (gain_of row k s) (λ e. e))

  pub opened_all : (entered left row k : ℕ) → left ≡ 0 → opened entered left row k ≡ open_gain shown counts group entered event row k
  unfolding blocks_gain
  opened_all entered left row k none =
      sum-same (λ s. cond ((bit_at entered s == 1) && not (bit_at left s == 1)) (gain_of row k s) 0) (λ s. cond (bit_at entered s == 1) (gain_of row k s) 0) 0 64
      (λ s low high. ap (λ b. cond ((bit_at entered s == 1) && not b) (gain_of row k s) 0) (clear s) ∙ plain (bit_at entered s == 1) (gain_of row k s))
    where
      clear : (s : ℕ) → (bit_at left s == 1) ≡ false
      clear s =
          let bit : bit_at left s ≡ 0 = ap (λ m. bit_at m s) none ∙ bit_at-zero s in
          ap (λ x. x == 1) bit

      plain : (b : Bool) (g : ℕ) → cond (b && not false) g 0 ≡ cond b g 0
      plain true g = refl
      plain false g = refl

  part-le : (b c : Bool) (g : ℕ) → cond (b && c) g 0 ≤ cond b g 0
  part-le true true g = omega arith
  part-le true false g = omega arith
  part-le false c g = omega arith

  pub opened-le : (entered left row k : ℕ) → opened entered left row k ≤ open_gain shown counts group entered event row k
  unfolding blocks_gain
  opened-le entered left row k =
      sum_by-le-sum_by (λ s. cond ((bit_at entered s == 1) && not (bit_at left s == 1)) (gain_of row k s) 0) (λ s. cond (bit_at entered s == 1) (gain_of row k s) 0) (range_with_len 0 64)
      (λ s. part-le (bit_at entered s == 1) (not (bit_at left s == 1)) (gain_of row k s))

  pub opened_more : (entered left item rest row k : ℕ) → IsLowest left item rest → bit_at entered item ≡ 1 → opened entered rest row k ≡ opened entered left row k + block_gain shown counts (group * 64 + item) event row k
  unfolding blocks_gain
  opened_more entered left item rest row k lowest marked =
      sum-changed (λ s. cond ((bit_at entered s == 1) && not (bit_at left s == 1)) (gain_of row k s) 0) (λ s. cond ((bit_at entered s == 1) && not (bit_at rest s == 1)) (gain_of row k s) 0) 0 64 item (gain_of row k item) (omega arith) (omega (arith, lowest.below))
      (λ s low high other. ap (λ x. cond ((bit_at entered s == 1) && not (x == 1)) (gain_of row k s) 0) (lowest.others s (omega arith) other))
      (here (gain_of row k item))
    where
      here : (g : ℕ) → cond ((bit_at entered item == 1) && not (bit_at rest item == 1)) g 0 ≡ cond ((bit_at entered item == 1) && not (bit_at left item == 1)) g 0 + g
      here g =
          ap (λ x. cond ((x == 1) && not (bit_at rest item == 1)) g 0) marked ∙ ap (λ y. cond (not (y == 1)) g 0) lowest.clear
          ∙ sym (ap (λ x. cond ((x == 1) && not (bit_at left item == 1)) g 0 + g) marked ∙ ap (λ y. cond (not (y == 1)) g 0 + g) lowest.set ∙ omega arith)

  module _ (cats least entered left item rest : ℕ) (before now : List ℕ) (lowest : IsLowest left item rest) (marked : bit_at entered item ≡ 1) (adds : Adds cats least (opened entered left) before now) where
    pub block_room : HasRoom cats least (open_gain shown counts group entered event) before → HasRoom cats least (block_gain shown counts (group * 64 + item) event) now
    block_room room =
        room-after cats least (open_gain shown counts group entered event) (opened entered left) (block_gain shown counts (group * 64 + item) event) before now room adds
        (λ row k below from. omega (arith, opened_more entered left item rest row k lowest marked, opened-le entered rest row k))

    pub block_added : (after : List ℕ) → Adds cats least (block_gain shown counts (group * 64 + item) event) now after → Adds cats least (opened entered rest) before after
    block_added after more =
        adds-both cats least (opened entered rest) (opened entered left) (block_gain shown counts (group * 64 + item) event) before now after adds more
        (λ row k below from. opened_more entered left item rest row k lowest marked)

  pub none_opened : (cats least entered : ℕ) (before : List ℕ) → Adds cats least (opened entered entered) before before
  none_opened cats least entered before = adds-none cats least (opened entered entered) before (λ row k below from. opened_none entered row k)

  pub all_opened : (cats least entered left : ℕ) (before after : List ℕ) → left ≡ 0 → Adds cats least (opened entered left) before after → Adds cats least (open_gain shown counts group entered event) before after
  all_opened cats least entered left before after none adds = adds-same cats least (open_gain shown counts group entered event) (opened entered left) before after adds (λ row k below from. sym (opened_all entered left row k none))

-- what is left is still marked
pub within_rest : (entered left item rest : ℕ) → IsLowest left item rest → ((s : ℕ) → s < 64 → bit_at left s ≡ 1 → bit_at entered s ≡ 1) → (s : ℕ) → s < 64 → bit_at rest s ≡ 1 → bit_at entered s ≡ 1
within_rest entered left item rest lowest within s below set = elim (cases_eq s item) [
  | inl same ↦ absurd (zero-one (sym lowest.clear ∙ ap (bit_at rest) (sym same) ∙ set))
  | inr other ↦ within s below (sym (lowest.others s below other) ∙ set)
]
  where
    zero-one : ◌≡◌ {A = ℕ} 0 1 → ⊥
    zero-one e = omega arith
