-- Distinct keys, and places among them.
use Rattle.std.proofs.Common.{◌≡◌, ◌⊎◌, ℕ, ◌<◌, ◌≤◌, ◌==◌, true, false, List, length, get_or, ap, sym, ◌∙◌, subst, Err, inl, inr, arith}
use Rattle.std.specs.List.{AllZip, Contains, dedup}
use Rattle.std.specs.List.Sorted.{IsBinarySearchResult, IsPermutation, IsSorted, IsStrictlyIncreasing}
use Rattle.std.specs.Prelude.{MatchResult}
use Rattle.std.specs.declared.result.Result.{Result}
use Rattle.std.specs.Ordering.{nat_cmp}
use Rattle.std.specs.Set.{is_member}
use Rattle.std.proofs.Math.Dec.{eqb}
use Rattle.std.proofs.lemmas.Bool.{cases_eq, cases_lt}
use Rattle.std.proofs.lemmas.Bool.Decides.{Decides-eqb, nat_tests, same_from_decides}
use Rattle.std.proofs.lemmas.Cmp.{nat_eq_equiv}
use Rattle.std.proofs.lemmas.Grind.{get_or_default_zero}
use Rattle.std.proofs.lemmas.List.Elements.{AllZip-get_or, Contains-get_or}
use Rattle.std.proofs.lemmas.List.Kept.{AllPairs-from_increasing, Contains-dedup_nat, Contains-from_dedup}
use Rattle.std.proofs.lemmas.List.Sorted.{Contains-permutation, IsPermutation-sym, searched}
use Rattle.std.proofs.lemmas.Map.Keys.{IsStrictlyIncreasing-dedup}
use Rattle.std.proofs.lemmas.Map.Made.{IsDistinct-from_AllPairs, distinct_count-le, is_member-Decides, length-from_keys}
use Rattle.std.proofs.lemmas.Slice.Zip.{AllZip-long}
use Rattle.ti_scan.specs.Event.{Source}
use Rattle.pattern_store.specs.Levels.{AreAlike, many}
use Rattle.impala_list.specs.Ranking.{AreDistinct, AreRanked, IsPlace}

members : (xs ys : List ℕ) → ((x : ℕ) → Contains xs x → Contains ys x) → ((x : ℕ) → Contains ys x → Contains xs x) → (q : ℕ) → is_member eqb xs q ≡ is_member eqb ys q
members xs ys to from q =
    let in_xs = is_member-Decides Decides-eqb xs q in
    let in_ys = is_member-Decides Decides-eqb ys q in
    same_from_decides (is_member eqb xs q) (is_member eqb ys q) in_xs (λ e. from q (in_ys.0 e), λ h. in_ys.1 (to q h))

-- what a sort and a `dedup` leave
pub are_distinct : (keys sorted : List ℕ) → IsPermutation keys sorted → IsSorted nat_cmp sorted → AreDistinct keys (dedup eqb sorted)
are_distinct keys sorted moved sort =
    let rise = IsStrictlyIncreasing-dedup sorted sort in
    record {
      rise = rise;
      known = λ i within. Contains-dedup_nat sorted (get_or keys i 0) (Contains-permutation keys sorted (get_or keys i 0) moved (Contains-get_or keys i 0 within));
      count = length-from_keys nat_eq_equiv (dedup eqb sorted) keys
          (IsDistinct-from_AllPairs Decides-eqb (dedup eqb sorted) (λ i j d before within e. omega (arith, e, AllPairs-from_increasing (dedup eqb sorted) rise i j d before within)))
          (members (dedup eqb sorted) keys
          (λ x h. Contains-permutation sorted keys x (IsPermutation-sym keys sorted moved) (Contains-from_dedup eqb sorted x h))
          (λ x h. Contains-dedup_nat sorted x (Contains-permutation keys sorted x moved h)));
    }

-- a search for one of rising keys finds it
pub found : (xs : List ℕ) (x i : ℕ) (r : Result ℕ ℕ) → IsBinarySearchResult (λ y. nat_cmp y x) xs r → IsStrictlyIncreasing xs → Contains xs x → r ≡ Err i → ⊥
found xs x i r answer rise known is =
    let match = searched xs x r answer (λ a b le within. no_less a b (cases_eq a b) le within) in
    let at = subst (λ (o : Result ℕ ℕ). MatchResult o (λ p. (p < length xs) × (get_or xs p 0 ≡ x)) (λ p. (p ≤ length xs) × ((k : ℕ) → k < p → get_or xs k 0 < x) × ((k : ℕ) → p ≤ k → k < length xs → x < get_or xs k 0))) is match in
    let here = get_or_default_zero xs known.0 x known.1 in
    elim (cases_lt known.0 i) [
      | inl before ↦ omega (arith, here, known.2, at.1 known.0 before)
      | inr after ↦ omega (arith, here, known.2, at.2 known.0 after known.1)
    ]
  where
    no_less : (a b : ℕ) → (a ≡ b) ⊎ (a ≡ b → ⊥) → a ≤ b → b < length xs → get_or xs a 0 ≤ get_or xs b 0
    no_less a b (inl same) le within = omega (arith, ap (λ p. get_or xs p 0) same)
    no_less a b (inr other) le within = omega (arith, AllPairs-from_increasing xs rise a b 0 (omega arith) within)

-- rising keys are the same only at one place
one_place : (xs : List ℕ) → IsStrictlyIncreasing xs → (i j : ℕ) → i < length xs → j < length xs → get_or xs i 0 ≡ get_or xs j 0 → i ≡ j
one_place xs rise i j i_within j_within same = elim (cases_lt i j) [
  | inl before ↦ absurd (omega (arith, same, AllPairs-from_increasing xs rise i j 0 before j_within))
  | inr not_before ↦ elim (cases_lt j i) [
    | inl after ↦ absurd (omega (arith, same, AllPairs-from_increasing xs rise j i 0 after i_within))
    | inr not_after ↦ omega arith
  ]
]

equal : (n m : ℕ) → n ≡ m → (n == m) ≡ true
equal n m same = grind (arith, nat_tests)

differ : (n m : ℕ) → (n ≡ m → ⊥) → (n == m) ≡ false
differ n m apart = grind (arith, nat_tests)

-- tests of equality agree where equality does
pub tests-agree : (a b c d : ℕ) → (a ≡ b → c ≡ d) → (c ≡ d → a ≡ b) → (a == b) ≡ (c == d)
tests-agree a b c d to from = elim (cases_eq a b) [
  | inl same ↦ equal a b same ∙ sym (equal c d (to same))
  | inr apart ↦ differ a b apart ∙ sym (differ c d (λ e. apart (from e)))
]

-- places among the distinct keys rank them
pub are_ranked : (keys distinct places : List ℕ) → AreDistinct keys distinct → AllZip (λ key place. IsPlace distinct key place) keys places → AreRanked keys places (length distinct)
are_ranked keys distinct places are zip = record {
  same = record {
    count = AllZip-long (λ key place. IsPlace distinct key place) keys places zip;
    alike = λ i j i_within j_within.
        let at_i = AllZip-get_or (λ key place. IsPlace distinct key place) keys places i 0 0 zip i_within in
        let at_j = AllZip-get_or (λ key place. IsPlace distinct key place) keys places j 0 0 zip j_within in
        tests-agree (get_or places i 0) (get_or places j 0) (get_or keys i 0) (get_or keys j 0)
        (λ e. sym at_i.here ∙ ap (λ p. get_or distinct p 0) e ∙ at_j.here)
        (λ e. one_place distinct are.rise (get_or places i 0) (get_or places j 0) at_i.below at_j.below (at_i.here ∙ e ∙ sym at_j.here));
  };
  below = λ i within. (AllZip-get_or (λ key place. IsPlace distinct key place) keys places i 0 0 zip within).below;
  many = are.count;
}

pub classes_few : (keys places : List ℕ) (classes : ℕ) → AreRanked keys places classes → classes ≤ length keys
classes_few keys places classes ranks = omega (arith, ranks.many, distinct_count-le eqb keys)

module _ (s : Source) (keys places : List ℕ) (classes : ℕ) (count : length keys ≡ many s) (ranks : AreRanked keys places classes) where
  pub places_below : (i : ℕ) → i < many s → get_or places i 0 < classes
  places_below i within = ranks.below i (omega (arith, count))

  pub places_alike : (depth : ℕ) → AreAlike s depth keys → AreAlike s depth places
  places_alike depth alike i j i_within j_within = ranks.same.alike i j (omega (arith, count)) (omega (arith, count)) ∙ alike i j i_within j_within
