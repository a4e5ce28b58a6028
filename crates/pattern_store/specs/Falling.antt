-- A longer prefix of an event has no more replicates.
use Rattle.std.proofs.Common.{◌≡◌, ℕ, zero, suc, ◌≤◌, Bool, true, false, cond, ◌&&◌, List, [], ◌∷◌, take, slice_index, refl, ap, ◌∙◌, arith}
use Rattle.std.specs.List.{list_all, range_with_len, sum}
use Rattle.std.proofs.lemmas.Bool.{and_parts, false≢true}
use Rattle.std.proofs.lemmas.List.Sums.{sum-map, sum_by-le-sum_by}
use Rattle.ti_scan.specs.declared.event.Datum.{Datum}
use Rattle.pattern_store.specs.Patterns.{Pattern, Patterns, has_datum, pattern_counts, replicates}

all-take : (p : Datum → Bool) (event : List Datum) (m k : ℕ) → m ≤ k → list_all p (take k event) ≡ true → list_all p (take m event) ≡ true
all-take p event zero k le all = refl
all-take p [] (suc m) k le all = refl
all-take p (d ∷ event) (suc m) zero le all = absurd (omega arith)
all-take p (d ∷ event) (suc m) (suc k) le all =
    let parts = and_parts (p d) (list_all p (take k event)) all in
    ap (λ b. b && list_all p (take m event)) parts.0 ∙ all-take p event m k (omega arith) parts.1

cond-le : (b c : Bool) (x : ℕ) → (b ≡ true → c ≡ true) → cond b x 0 ≤ cond c x 0
cond-le true true x implies = omega arith
cond-le true false x implies = absurd (false≢true (implies refl))
cond-le false true x implies = omega arith
cond-le false false x implies = omega arith

pub patterns-fall : (p : Patterns) (event : List Datum) (m k : ℕ) → m ≤ k → sum (pattern_counts p (take k event)) ≤ sum (pattern_counts p (take m event))
unfolding replicates
patterns-fall p event m k le =
    omega (
      arith,
      sum-map (replicates p.list (take k event)) (range_with_len 0 p.cats),
      sum-map (replicates p.list (take m event)) (range_with_len 0 p.cats),
      sum_by-le-sum_by (replicates p.list (take k event)) (replicates p.list (take m event)) (range_with_len 0 p.cats)
          (λ j. sum_by-le-sum_by (λ (q : Pattern). cond (list_all (has_datum q.shown) (take k event)) (slice_index q.centres j) 0) (λ (q : Pattern). cond (list_all (has_datum q.shown) (take m event)) (slice_index q.centres j) 0) p.list
          (λ q. cond-le (list_all (has_datum q.shown) (take k event)) (list_all (has_datum q.shown) (take m event)) (slice_index q.centres j) (all-take (has_datum q.shown) event m k le))),
    )
