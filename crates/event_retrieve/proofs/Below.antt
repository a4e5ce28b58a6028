-- Categories of the sequential log, and those that answers name, are the plan's.
use Rattle.std.proofs.Common.{arith, ◌≡◌, ℕ, zero, suc, ◌+◌, ◌-◌, ◌*◌, ◌≤◌, ◌<◌, ◌^◌, Bool, true, List, [], ◌∷◌, length, take, sum, get_or, nat_lt, All, ap, sym, ◌∙◌}
use Rattle.std.proofs.Math.Nat.{mul-le-mul_right, div-lt_iff_lt-mul}
use Rattle.std.proofs.lemmas.Bool.{false≢true}
use Rattle.std.proofs.lemmas.Bool.Decides.{nat_tests}
use Rattle.std.proofs.lemmas.List.{take_all}
use Rattle.std.proofs.lemmas.List.Elements.{All-push}
use Rattle.std.proofs.lemmas.List.FromFn.{get_or-range_with_len, length-map-range_with_len}
use Rattle.std.proofs.lemmas.List.Sums.{fails_before_first}
use Rattle.std.specs.List.{position_or_len, range_with_len}
use Rattle.mp_base.specs.declared.cell.Entry.{Entry}
use Rattle.mp_base.specs.Cells.{category_counts}
use Rattle.mp_base.proofs.Tallies.{length-tally}
use Rattle.path_stream.proofs.Paths.{word_of-below}
use Rattle.servo_fraction.specs.Weights.{weights_of, weight_of, pick_of, scaled, up_to}
use Rattle.servo_fraction.proofs.Sums.{weights-some}
use Rattle.ti_scan.specs.Event.{counts_of}
use Rattle.event_retrieve.specs.Plan.{Plan, IsPlan, grid_at, known, nodes_in}
use Rattle.event_retrieve.specs.Retrieval.{retained}
use Rattle.event_retrieve.specs.Sequential.{log_of, entry_after, draw_word}
use Rattle.event_retrieve.proofs.LogLemmas.{length-counts_of, total-retained}

some_weights : (ws : List ℕ) → 1 ≤ sum ws → 1 ≤ length ws
some_weights [] some = absurd (omega arith)
some_weights (w ∷ ws) some = omega arith

-- a word's point lies below all that the weights come to
point_below : (word all : ℕ) → 1 ≤ all → word < 2 ^ 32 → scaled word all < all
point_below word all some below =
    let product : word * all < all * 2 ^ 32 = omega (arith, mul-le-mul_right {m = suc word} {n = 2 ^ 32} all below) in
    (div-lt_iff_lt-mul {k = 2 ^ 32} {x = word * all} {y = all} (omega arith)).1 product

-- the categories up to k weigh more than the word's point
abbrev exceeds : List ℕ → ℕ → ℕ → Bool
exceeds ws word k = nat_lt (scaled word (sum ws)) (up_to ws k)

-- a word picks one of the weights
pick_below : (ws : List ℕ) (word : ℕ) → 1 ≤ sum ws → word < 2 ^ 32 → pick_of ws word < length ws
unfolding pick_of
pick_below ws word some below =
    let one : 1 ≤ length ws = some_weights ws some in
    let whole : sum (take (suc (length ws - 1)) ws) ≡ sum ws = ap sum (take_all (suc (length ws - 1)) ws (omega arith)) in
    let point : scaled word (sum ws) < sum ws = point_below word (sum ws) some below in
    let passes : exceeds ws word (length ws - 1) ≡ true = grind (arith, nat_tests) in
    let at : get_or (range_with_len 0 (length ws)) (length ws - 1) 0 ≡ length ws - 1 = get_or-range_with_len 0 (length ws) (length ws - 1) 0 (omega arith) ∙ omega arith in
    let late : length ws - 1 < position_or_len (exceeds ws word) (range_with_len 0 (length ws)) → ⊥ =
    λ later. false≢true (sym (fails_before_first (exceeds ws word) (range_with_len 0 (length ws)) (length ws - 1) 0 later) ∙ ap (exceeds ws word) at ∙ passes) in
    omega (arith, late)

length-weights : (counts target known_cats : List ℕ) (servo : ℕ) → length (weights_of counts target known_cats servo) ≡ length counts
unfolding weights_of
length-weights counts target known_cats servo = length-map-range_with_len (weight_of counts target known_cats servo) 0 (length counts)

module _ (p : Plan) (plan : IsPlan p) where
  -- the category that is drawn for a node is one of the plan's
  entry_below : (log : List Entry) (i : ℕ) → (entry_after p log i).cat < p.source.cats
  unfolding entry_after
  entry_below log i =
      let counts = counts_of p.source (retained p (known p log i i)) in
      let known_cats = category_counts p.source.cats (grid_at p log i).cells in
      let many : length counts ≡ p.source.cats = length-counts_of p.source (retained p (known p log i i)) in
      let some : 1 ≤ sum counts = omega (arith, total-retained p (known p log i i) plan.enough, plan.min_some) in
      let weighs : 1 ≤ sum (weights_of counts p.target known_cats p.servo) =
      weights-some counts p.target known_cats p.servo p.source.cats many plan.target_len (length-tally (λ v. v) p.source.cats (grid_at p log i).cells) some plan.target_some plan.servo in
      omega (
        arith,
        pick_below (weights_of counts p.target known_cats p.servo) (draw_word p i) weighs (word_of-below p.seed p.stream (nodes_in p + i)),
        length-weights counts p.target known_cats p.servo,
        many,
      )

  -- and so are those of the whole log
  pub log_below : (m : ℕ) → All (λ (e : Entry). e.cat < p.source.cats) (log_of p m)
  unfolding log_of
  log_below zero = λ k d in_list. absurd (omega arith)
  log_below (suc m) = All-push (λ (e : Entry). e.cat < p.source.cats) (log_of p m) (entry_after p (log_of p m) m) (log_below m) (entry_below (log_of p m) m)
