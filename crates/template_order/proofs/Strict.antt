-- The keys in order, without their distances, are the candidates in strict order.
use Rattle.std.proofs.Common.{◌≡◌, ℕ, zero, suc, ◌+◌, ◌≤◌, ◌<◌, ℤ, Bool, true, false, ◌&&◌, ◌||◌, ◌==◌, nat_lt, cond, List, [], ◌∷◌, ◌++◌, map, filter, length, get_or, take, refl, ap, sym, subst, ◌∙◌, arith}
use Rattle.std.specs.Prelude.{int_lt}
use Rattle.std.specs.List.{All, count_by, sum_by}
use Rattle.std.specs.List.Sorted.{IsPermutation, IsSorted}
use Rattle.std.specs.Ordering.{int_eq, is_lt, nat_cmp, int_cmp, ordering_then}
use Rattle.std.proofs.lemmas.Cmp.{then_total, on_total, nat_cmp_total, int_cmp_total}
use Rattle.std.proofs.lemmas.List.{get_or-map, length-map, take-map, take_more, map-append}
use Rattle.std.specs.Cmp.{IsTotalOrder}
use Rattle.std.proofs.lemmas.Bool.Decides.{nat_tests}
use Rattle.std.proofs.lemmas.Int.{ints}
use Rattle.std.proofs.lemmas.List.Sums.{sum_by-cons, get_or-le-sum_by}
use Rattle.std.proofs.lemmas.List.Sorted.{sorted_far, ranks_by, sum_by-IsPermutation, IsPermutation-map, All-permutation}
use Rattle.mp_base.specs.declared.cell.Vector.{Vector}
use Rattle.template_order.specs.Template.{Radii, vector, offset, distance, candidates, box, is_candidate, is_before, template_of}
use Rattle.template_order.specs.Keys.{Key, key_of, key_cmp, vector_of}
use Rattle.template_order.proofs.Apart.{is_same, in_box}
use Rattle.template_order.proofs.Ranking.{IsStrict, by_rank}

abbrev key_before : ℕ → ℤ → ℤ → ℤ → ℕ → ℤ → ℤ → ℤ → Bool
key_before a z y x b w v u = nat_lt a b || (a == b && (int_lt z w || (int_eq z w && (int_lt y v || (int_eq y v && int_lt x u)))))

before_is : (a b : ℕ) (z w y v x u : ℤ) → is_lt (ordering_then (ordering_then (ordering_then (nat_cmp a b) (int_cmp z w)) (int_cmp y v)) (int_cmp x u)) ≡ key_before a z y x b w v u
before_is a b z w y v x u = grind (arith, ints, nat_tests)

one_way : (a b : ℕ) (z w y v x u : ℤ) → key_before b w v u a z y x ≡ false → (int_eq w z && (int_eq v y && int_eq u x)) ≡ false → key_before a z y x b w v u ≡ true
one_way a b z w y v x u later differ = grind (arith, ints, nat_tests)

pub key_total : IsTotalOrder key_cmp
key_total = then_total (then_total (then_total (on_total (λ (k : Key). k.0) nat_cmp_total) (on_total (λ (k : Key). k.1) int_cmp_total)) (on_total (λ (k : Key). k.2) int_cmp_total)) (on_total (λ (k : Key). k.3) int_cmp_total)

-- two elements that pass a test are two
two : {X : Type 0} (t : X → Bool) (xs : List X) (i j : ℕ) (d : X) → i < j → j < length xs → t (get_or xs i d) ≡ true → t (get_or xs j d) ≡ true → 2 ≤ count_by t xs
two t [] i j d lt within a b = absurd (omega arith)
two t (x ∷ xs) i zero d lt within a b = absurd (omega arith)
two t (x ∷ xs) zero (suc j) d lt within a b =
    let here : cond (t x) 1 0 ≡ suc zero = ap (λ c. cond c (suc zero) zero) a in
    let there : cond (t (get_or xs j d)) 1 0 ≡ suc zero = ap (λ c. cond c (suc zero) zero) b in
    omega (arith, sum_by-cons (λ y. cond (t y) 1 0) x xs, here, there, get_or-le-sum_by (λ y. cond (t y) 1 0) xs j d (omega arith))
two t (x ∷ xs) (suc i) (suc j) d lt within a b = omega (arith, sum_by-cons (λ y. cond (t y) 1 0) x xs, two t xs i j d (omega arith) (omega arith) a b)

sum_by-filter-le : {X : Type 0} (f : X → ℕ) (p : X → Bool) (xs : List X) → sum_by f (filter p xs) ≤ sum_by f xs
sum_by-filter-le f p [] = omega arith
sum_by-filter-le f p (x ∷ xs) = go (p x) (sum_by-filter-le f p xs)
  where
    go : (b : Bool) → sum_by f (filter p xs) ≤ sum_by f xs → sum_by f (cond b (x ∷ filter p xs) (filter p xs)) ≤ sum_by f (x ∷ xs)
    go true rest = omega (arith, sum_by-cons f x xs, sum_by-cons f x (filter p xs))
    go false rest = omega (arith, sum_by-cons f x xs)

same_itself : (v : Vector) → is_same v v ≡ true
same_itself v = go v.dx v.dy v.dz
  where
    go : (x y z : ℤ) → (int_eq z z && (int_eq y y && int_eq x x)) ≡ true
    go x y z = grind (arith, ints, nat_tests)

module _ (r : Radii) where
  once : (v : Vector) → count_by (is_same v) (candidates r) ≤ 1
  unfolding candidates
  once v = omega (arith, sum_by-filter-le (λ w. cond (is_same v w) 1 0) (is_candidate r) (box r), in_box r v)

  back : (xs : List Vector) → map vector_of (map (key_of r) xs) ≡ xs
  back [] = refl
  back (x ∷ xs) = ap (λ l. x ∷ l) (back xs)

  abbrev IsRight : Key → Type 0
  IsRight k = k.0 ≡ distance r (vector_of k)

  right : (xs : List Vector) → All IsRight (map (key_of r) xs)
  right xs = λ i k within. let v = vector_of k in
      let at : get_or (map (key_of r) xs) i k ≡ key_of r (get_or xs i v) = get_or-map (key_of r) xs i v k (omega (arith, length-map xs (key_of r))) in
      subst IsRight (sym at) refl

  order_is : (a b : Key) → IsRight a → IsRight b → is_lt (key_cmp a b) ≡ is_before r (vector_of a) (vector_of b)
  order_is a b p q =
      before_is a.0 b.0 a.1 b.1 a.2 b.2 a.3 b.3
      ∙ ap (λ n. key_before n a.1 a.2 a.3 b.0 b.1 b.2 b.3) p
      ∙ ap (λ n. key_before (distance r (vector_of a)) a.1 a.2 a.3 n b.1 b.2 b.3) q

  module _ (keys : List Key) (perm : IsPermutation (map (key_of r) (candidates r)) keys) (sorted : IsSorted key_cmp keys) where
    pub same : IsPermutation (candidates r) (map vector_of keys)
    same = subst (λ xs. IsPermutation xs (map vector_of keys)) (back (candidates r)) (IsPermutation-map vector_of (map (key_of r) (candidates r)) keys perm)

    all_right : All IsRight keys
    all_right = All-permutation IsRight (map (key_of r) (candidates r)) keys perm (right (candidates r))

    not_after : (i j : ℕ) (d : Vector) → i ≤ j → j < length keys → is_before r (get_or (map vector_of keys) j d) (get_or (map vector_of keys) i d) ≡ false
    not_after i j d le within =
        let k = key_of r d in
        ap (λ v. is_before r v (get_or (map vector_of keys) i d)) (get_or-map vector_of keys j k d within)
        ∙ ap (is_before r (vector_of (get_or keys j k))) (get_or-map vector_of keys i k d (omega arith))
        ∙ sym (order_is (get_or keys j k) (get_or keys i k) (all_right j k within) (all_right i k (omega arith)))
        ∙ sorted_far (λ a b. is_lt (key_cmp a b)) (ranks_by key_total (λ k. k)) keys sorted i j k le within

    differ : (i j : ℕ) (d : Vector) → i < j → j < length (map vector_of keys) → (b : Bool) → is_same (get_or (map vector_of keys) i d) (get_or (map vector_of keys) j d) ≡ b → b ≡ false
    differ i j d lt within false e = refl
    differ i j d lt within true e =
        let v = get_or (map vector_of keys) i d in
        absurd (omega (arith, once v, sum_by-IsPermutation (λ w. cond (is_same v w) 1 0) (candidates r) (map vector_of keys) same, two (is_same v) (map vector_of keys) i j d lt within (same_itself v) e))

    pub strict : IsStrict (is_before r) (map vector_of keys)
    strict = record {
      forwards = λ i j d lt within.
          let v = get_or (map vector_of keys) i d in
          let w = get_or (map vector_of keys) j d in
          one_way (distance r v) (distance r w) v.dz w.dz v.dy w.dy v.dx w.dx (not_after i j d (omega arith) (omega (arith, length-map keys vector_of))) (differ i j d lt within (is_same v w) refl);
      backwards = λ i j d le within. not_after i j d le (omega (arith, length-map keys vector_of));
    }

    -- the template is the vectors of the first keys
    pub template_is : (n : ℕ) → template_of r n ≡ map vector_of (take n keys)
    unfolding template_of
    template_is n = by_rank (is_before r) (candidates r) (map vector_of keys) same strict n (vector (offset 0 0) (offset 0 0) (offset 0 0)) ∙ take-map vector_of n keys

pub vectors_more : (keys : List Key) (i : ℕ) (k : Key) → i < length keys → map vector_of (take (i + 1) keys) ≡ map vector_of (take i keys) ++ vector_of (get_or keys i k) ∷ []
vectors_more keys i k within = ap (map vector_of) (take_more keys i k within) ∙ map-append vector_of (take i keys) (get_or keys i k ∷ [])
