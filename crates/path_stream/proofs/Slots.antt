-- What is kept of each cell of a path, and the path that it stands for.
use Rattle.std.proofs.Common.{◌≡◌, ◌≢◌, ◌⊎◌, ℕ, ◌+◌, ◌<◌, ◌≤◌, ◌==◌, Bool, true, false, cond, not, nat_lt, List, length, take, set, get_or, get_or-set_same, get_or-set_other, Option, Some, None, inl, inr, refl, ap, sym, ◌∙◌, arith}
use Rattle.std.proofs.Math.Dec.{eqb}
use Rattle.std.specs.List.{All, IsDistinct, position_or_len}
use Rattle.std.proofs.lemmas.Bool.Decides.{nat_tests, eqb_tells}
use Rattle.std.specs.Option.{IfSome}
use Rattle.std.proofs.lemmas.Bool.{eqb-true}
use Rattle.std.proofs.lemmas.List.Quantifiers.{position-Some}
use Rattle.std.proofs.lemmas.List.{take_more, length-take-le, get_or-take, take_all}
use Rattle.std.proofs.lemmas.List.Folds.{Any-from_list_any, position_or_len_push}
use Rattle.std.proofs.lemmas.List.FromFn.{fill_by_all, length-map-range_with_len}
use Rattle.std.proofs.lemmas.List.Sums.{position_or_len_is, prefix_len-le-length, prefix_len_stops}
use Rattle.std.proofs.lemmas.Map.Keys.{apart_from_distinct}
use Rattle.std.proofs.lemmas.Map.Steps.{length-le_from_distinct_below}
use Rattle.path_stream.specs.Ranks.{rank_in, slot_of, path_from, IsRanked}

-- different cells below n are at most n
pub path-few : (path : List ℕ) (n : ℕ) → IsDistinct eqb path → All (λ c. c < n) path → length path ≤ n
path-few path n apart inside =
    length-le_from_distinct_below path n apart (λ q found.
    let any = Any-from_list_any (eqb q) path found in
    let below : get_or path any.0 any.1 < n = inside any.0 any.1 any.2 in
    let is : get_or path any.0 any.1 ≡ any.1 = any.3 in
    let same : eqb q any.1 ≡ true = any.4 in
    grind (arith, nat_tests))

pub length-path_from : (count : ℕ) (slots : List ℕ) → length (path_from count slots) ≡ count
unfolding path_from
length-path_from count slots = length-map-range_with_len _ 0 count

-- where no cell of the path is n or above, such a cell has no rank
pub rank_in-outside : (path : List ℕ) (n c : ℕ) → ((i : ℕ) → i < length path → get_or path i 0 < n) → n ≤ c → rank_in path c ≡ None
rank_in-outside path n c inside above =
    let nowhere : position_or_len (λ x. x == c) path ≡ length path =
    position_or_len_is (λ x. x == c) path (length path) 0 (omega arith)
    (λ k within. let below : get_or path k 0 < n = inside k within in grind (arith, nat_tests))
    (λ h. absurd (omega arith)) in
    let fails : nat_lt (position_or_len (λ x. x == c) path) (length path) ≡ false = grind (arith, nat_tests) in
    rw fails refl

-- a cell that has a rank stands there
pub rank_in-here : (path : List ℕ) (c : ℕ) (r : Option ℕ) → r ≡ rank_in path c → IfSome r (λ i. (i < length path) × (get_or path i 0 ≡ c))
rank_in-here path c None is = tt
rank_in-here path c (Some i) is =
    let at = position-Some (λ x. x == c) path i 0 (sym is) in
    (at.0, eqb-true (get_or path i 0) c at.1)

-- a cell of a path stands nowhere before its place
before_place : (path : List ℕ) (i : ℕ) → i < length path → IsDistinct eqb path → position_or_len (λ x. x == get_or path i 0) (take i path) ≡ i
before_place path i within apart =
    let long : length (take i path) ≡ i = length-take-le i path (omega arith) in
    position_or_len_is (λ x. x == get_or path i 0) (take i path) i 0 (omega arith)
    (λ k before. rw (get_or-take i path k 0 before) (apart_from_distinct eqb path k i 0 apart before within))
    (λ h. absurd (omega arith))

-- the place of a cell among one more cell of the path
more : (path : List ℕ) (i c : ℕ) → i < length path → position_or_len (λ x. x == c) (take (i + 1) path) ≡ cond (eqb (position_or_len (λ x. x == c) (take i path)) i) (i + cond (get_or path i 0 == c) 0 1) (position_or_len (λ x. x == c) (take i path))
more path i c within =
    ap (position_or_len (λ x. x == c)) (take_more path i 0 within)
    ∙ position_or_len_push (λ x. x == c) (take i path) (get_or path i 0)
    ∙ ap (λ n. cond (eqb (position_or_len (λ x. x == c) (take i path)) n) (n + cond (get_or path i 0 == c) 0 1) (position_or_len (λ x. x == c) (take i path))) (length-take-le i path (omega arith))

-- the slot of the cell at index i, and of any other cell, once cell i is on the path
pub slot_of-here : (path : List ℕ) (i : ℕ) → i < length path → IsDistinct eqb path → slot_of (take (i + 1) path) (get_or path i 0) ≡ i + 1
slot_of-here path i within apart =
    let before = before_place path i within apart in
    let now = more path i (get_or path i 0) within in
    let long : length (take (i + 1) path) ≡ i + 1 = length-take-le (i + 1) path (omega arith) in
    grind (arith, nat_tests)

pub slot_of-other : (path : List ℕ) (i c : ℕ) → i < length path → c ≢ get_or path i 0 → slot_of (take (i + 1) path) c ≡ slot_of (take i path) c
slot_of-other path i c within other =
    let now = more path i c within in
    let long : length (take (i + 1) path) ≡ i + 1 = length-take-le (i + 1) path (omega arith) in
    let short : length (take i path) ≡ i = length-take-le i path (omega arith) in
    let le : position_or_len (λ x. x == c) (take i path) ≤ length (take i path) = prefix_len-le-length (λ x. not (x == c)) (take i path) in
    grind (arith, nat_tests)

-- the place of the cell at index i is i
place_of : (path : List ℕ) (i : ℕ) → i < length path → IsDistinct eqb path → position_or_len (λ x. x == get_or path i 0) path ≡ i
place_of path i within apart =
    position_or_len_is (λ x. x == get_or path i 0) path i 0 (omega arith)
    (λ k before. apart_from_distinct eqb path k i 0 apart before within)
    (λ h. grind (arith, nat_tests))

-- the slot of the cell at index i is i + 1, and no other cell has that slot
slot_of-at : (path : List ℕ) (i : ℕ) → i < length path → IsDistinct eqb path → slot_of path (get_or path i 0) ≡ i + 1
slot_of-at path i within apart =
    let place = place_of path i within apart in
    grind (arith, nat_tests)

slot_of-only : (path : List ℕ) (i c : ℕ) → slot_of path c ≡ i + 1 → get_or path i 0 ≡ c
slot_of-only path i c is =
    by_case (nat_lt (position_or_len (λ x. x == c) path) (length path)) refl
  where
    by_case : (b : Bool) → nat_lt (position_or_len (λ x. x == c) path) (length path) ≡ b → get_or path i 0 ≡ c
    by_case true e =
        let here : position_or_len (λ x. x == c) path < length path = grind (arith, nat_tests) in
        let stops : not (get_or path (position_or_len (λ x. x == c) path) 0 == c) ≡ false = prefix_len_stops (λ x. not (x == c)) path 0 here in
        let place : position_or_len (λ x. x == c) path ≡ i = grind (arith, nat_tests) in
        rw (← place) (grind (arith, nat_tests))
    by_case false e = absurd (grind (arith, nat_tests))

-- the rank of the cell at index i is i
pub rank_in-at : (path : List ℕ) (i : ℕ) → i < length path → IsDistinct eqb path → rank_in path (get_or path i 0) ≡ Some i
rank_in-at path i within apart =
    let place : position_or_len (λ x. x == get_or path i 0) path ≡ i = place_of path i within apart in
    let passes : nat_lt (position_or_len (λ x. x == get_or path i 0) path) (length path) ≡ true = grind (arith, nat_tests) in
    rw passes (ap Some place)

-- slots stand for the path that they were made of
pub path_from-is : (slots path : List ℕ) → IsRanked slots path → IsDistinct eqb path → path_from (length path) slots ≡ path
unfolding path_from
path_from-is slots path ranked apart =
    sym (fill_by_all (λ i. position_or_len (λ s. s == i + 1) slots) path (length path) 0 refl (λ i within. sym (place i within)))
  where
    passes : (i : ℕ) → i < length path → (get_or slots (get_or path i 0) 0 == i + 1) ≡ true
    passes i within =
        let slot : get_or slots (get_or path i 0) 0 ≡ i + 1 = ranked.each (get_or path i 0) (ranked.inside i within) ∙ slot_of-at path i within apart in
        grind (arith, nat_tests)

    fails : (i k : ℕ) → i < length path → k < get_or path i 0 → (get_or slots k 0 == i + 1) ≡ false
    fails i k within before = by_test (eqb_tells (get_or slots k 0) (i + 1))
      where
        by_test : ((eqb (get_or slots k 0) (i + 1) ≡ true) × (get_or slots k 0 ≡ i + 1)) ⊎ ((eqb (get_or slots k 0) (i + 1) ≡ false) × (get_or slots k 0 ≢ i + 1)) → (get_or slots k 0 == i + 1) ≡ false
        by_test (inl found) =
            let inside : get_or path i 0 < length slots = ranked.inside i within in
            let same : get_or path i 0 ≡ k = slot_of-only path i k (sym (ranked.each k (omega arith)) ∙ found.1) in
            absurd (omega arith)
        by_test (inr other) = other.0

    place : (i : ℕ) → i < length path → position_or_len (λ s. s == i + 1) slots ≡ get_or path i 0
    place i within =
        let inside : get_or path i 0 < length slots = ranked.inside i within in
        position_or_len_is (λ s. s == i + 1) slots (get_or path i 0) 0 (omega arith) (λ k before. fails i k within before) (λ h. passes i within)

-- one more cell of the path has its slot
pub ranked_more : (slots path : List ℕ) (i at : ℕ) → i < length path → at ≡ get_or path i 0 → at < length slots → IsDistinct eqb path
    → ((c : ℕ) → c < length slots → get_or slots c 0 ≡ slot_of (take i path) c)
    → (c : ℕ) → c < length slots → get_or (set slots at (i + 1)) c 0 ≡ slot_of (take (i + 1) path) c
ranked_more slots path i at within here inside apart before c c_inside = by_test (eqb_tells c at)
  where
    by_test : ((eqb c at ≡ true) × (c ≡ at)) ⊎ ((eqb c at ≡ false) × (c ≢ at)) → get_or (set slots at (i + 1)) c 0 ≡ slot_of (take (i + 1) path) c
    by_test (inl found) =
        rw (found.1, get_or-set_same slots at (i + 1) 0 inside, here) (sym (slot_of-here path i within apart))
    by_test (inr other) =
        let elsewhere : c ≢ get_or path i 0 = λ e. other.1 (e ∙ sym here) in
        get_or-set_other slots at c (i + 1) 0 other.1 ∙ before c c_inside ∙ sym (slot_of-other path i c within elsewhere)

-- once every cell of the path has its slot
pub ranked_all : (slots path : List ℕ) (n i : ℕ) → length slots ≡ n → length path ≤ i → All (λ c. c < n) path
    → ((c : ℕ) → c < length slots → get_or slots c 0 ≡ slot_of (take i path) c) → IsRanked slots path
ranked_all slots path n i count past inside each = record {
  inside = λ k within. let below : get_or path k 0 < n = inside k 0 within in omega arith;
  each = λ c within. each c within ∙ ap (λ xs. slot_of xs c) (take_all i path past);
}
