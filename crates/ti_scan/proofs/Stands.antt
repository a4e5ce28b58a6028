-- A store that stands for a source keeps the prefixes that the source's counts keep.
use Rattle.std.proofs.Common.{◌≡◌, ℕ, zero, suc, ◌≤◌, Bool, cond, List, length, take, nat_le, refl, ap, ◌∙◌, arith}
use Rattle.std.proofs.lemmas.List.{take-take}
use Rattle.std.specs.List.{sum}
use Rattle.ti_scan.specs.declared.event.Datum.{Datum}
use Rattle.ti_scan.specs.Event.{Source, StandsFor, IsEvent, counts_of}
use Rattle.ti_scan.specs.Prefix.{greatest, has_enough, longest}
use Rattle.ti_scan.proofs.RisingLemmas.{RisesFrom-take}
use Rattle.ti_scan.proofs.Greatest.{greatest-le}

-- tests that agree up to n have one greatest number up to n
greatest-agrees : (p q : ℕ → Bool) (n : ℕ) → ((k : ℕ) → k ≤ n → p k ≡ q k) → greatest p n ≡ greatest q n
greatest-agrees p q zero same = refl
greatest-agrees p q (suc n) same =
    ap (λ b. cond b (suc n) (greatest p n)) (same (suc n) (omega arith))
    ∙ ap (λ m. cond (q (suc n)) (suc n) m) (greatest-agrees p q n (λ k le. same k (omega arith)))

pub greatest-same : (p q : ℕ → Bool) (n : ℕ) → ((k : ℕ) → p k ≡ q k) → greatest p n ≡ greatest q n
greatest-same p q n same = greatest-agrees p q n (λ k _. same k)

-- data that aren't looked at can be cut off
pub longest-take : (gives : List Datum → List ℕ) (min : ℕ) (event : List Datum) (most n : ℕ) → n ≤ most → longest gives min (take most event) n ≡ longest gives min event n
unfolding longest
longest-take gives min event most n le =
    greatest-agrees (has_enough gives min (take most event)) (has_enough gives min event) n (λ k below. ap (λ e. nat_le min (sum (gives e))) (take-take k most event (omega arith)))

pub longest-le : (gives : List Datum → List ℕ) (min : ℕ) (event : List Datum) (n : ℕ) → longest gives min event n ≤ n
unfolding longest
longest-le gives min event n = greatest-le (has_enough gives min event) n

module _ {S : Type 0} (gives : S → List Datum → List ℕ) (reaches : S → ℕ) (store : S) (s : Source) (stands : StandsFor gives reaches store s) (event : List Datum) (is : IsEvent (length s.template) event) where
  -- its counts of each prefix are those of the source
  pub prefix_counts : (len : ℕ) → gives store (take len event) ≡ counts_of s (take len event)
  prefix_counts len = stands.counts (take len event) (RisesFrom-take 1 (length s.template) len event is)

  pub longest-same : (min most : ℕ) → longest (gives store) min event most ≡ longest (counts_of s) min event most
  unfolding longest
  longest-same min most = greatest-same (has_enough (gives store) min event) (has_enough (counts_of s) min event) most (λ len. ap (λ counts. nat_le min (sum counts)) (prefix_counts len))
