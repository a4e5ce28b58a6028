-- The least keys of a list, one part after another.
use Rattle.std.proofs.Common.{◌≡◌, ℕ, zero, suc, ◌+◌, ◌*◌, ◌<◌, ◌≤◌, Bool, true, false, not, cond, List, [], ◌∷◌, ◌++◌, length, get_or, take, drop, map, filter, refl, ap, sym, subst, ◌∙◌, arith}
use Rattle.std.specs.List.{All, count_by}
use Rattle.std.specs.List.Sorted.{IsPermutation, IsSorted}
use Rattle.std.specs.Cmp.{IsStrictWeakOrder}
use Rattle.std.specs.Ordering.{is_lt}
use Rattle.std.proofs.lemmas.Bool.{false≢true}
use Rattle.std.proofs.lemmas.List.{append-nil, append_assoc, length-take, length-drop, get_or_default, get_or-take, get_or-drop, take-append-drop, take-append-le, take_all}
use Rattle.std.proofs.lemmas.List.Elements.{All-nil, All-cons, All-head, All-tail, All-append, All-weaker}
use Rattle.std.proofs.lemmas.List.Sums.{sum_by-cons, sum_by-append, sum_by-le-sum_by, count_by-le-length, count_by_more_yes}
use Rattle.std.proofs.lemmas.List.Sorted.{sorted_far, ranks_by, sum_by-IsPermutation, All-permutation, IsPermutation-refl, IsPermutation-trans, IsPermutation-append_left, IsPermutation-append_right, IsPermutation-append_comm}
use Rattle.mp_base.specs.declared.cell.Vector.{Vector}
use Rattle.template_order.specs.Template.{Radii, box, is_candidate, candidates, template_of}
use Rattle.template_order.specs.Keys.{Key, key_of, keys_of, planes, key_cmp, vector_of, is_up_to, IsShortOrder, AreLeast}
use Rattle.template_order.proofs.Keys.{keys_next, keys_of_none, box_is}
use Rattle.template_order.proofs.Sorting.{Rises, Rises-IsSortedBy, IsSortedBy-Rises, Rises-append, in_order}
use Rattle.template_order.proofs.Strict.{key_total, template_is}

abbrev pub is_less : Key → Key → Bool
is_less a b = is_lt (key_cmp a b)

pub less_order : IsStrictWeakOrder is_less
less_order = ranks_by key_total (λ k. k)

not_less : (b : Bool) → not b ≡ true → b ≡ false
not_less true e = absurd (false≢true e)
not_less false e = refl

pub is_not : (b : Bool) → b ≡ false → not b ≡ true
is_not b e = ap not e

up_to_trans : (r q k : Key) → is_up_to r q ≡ true → is_up_to q k ≡ true → is_up_to r k ≡ true
up_to_trans r q k first second = is_not (is_less r k) (less_order.chain r q k (not_less (is_less r q) first) (not_less (is_less q k) second))

abbrev bit : Bool → ℕ
bit b = cond b 1 0

bit-le : (b c : Bool) → (b ≡ true → c ≡ true) → bit b ≤ bit c
bit-le true c follows = subst (λ d. 1 ≤ bit d) (sym (follows refl)) (omega arith)
bit-le false c follows = omega arith

-- where q is up to r, no more are up to q than up to r
count-le : (r q : Key) (keys : List Key) → is_up_to r q ≡ true → count_by (is_up_to q) keys ≤ count_by (is_up_to r) keys
count-le r q keys up = sum_by-le-sum_by (λ k. bit (is_up_to q k)) (λ k. bit (is_up_to r k)) keys (λ k. bit-le (is_up_to q k) (is_up_to r k) (up_to_trans r q k up))

-- n keys are up to r among those that stay, also where one of them went
still : (n : ℕ) (r : Key) (keys gone : List Key) → All (λ q. n ≤ count_by (is_up_to q) keys) gone → n ≤ count_by (is_up_to r) keys + count_by (is_up_to r) gone → n ≤ count_by (is_up_to r) keys
still n r keys [] later enough = omega (arith, enough)
still n r keys (q ∷ gone) later enough =
    go (is_up_to r q) refl (λ e.
    let none : bit (is_up_to r q) ≡ zero = ap bit e in
    still n r keys gone (All-tail (λ q. n ≤ count_by (is_up_to q) keys) q gone later) (omega (arith, enough, none, sum_by-cons (λ k. bit (is_up_to r k)) q gone)))
  where
    here : n ≤ count_by (is_up_to q) keys
    here = All-head (λ q. n ≤ count_by (is_up_to q) keys) q gone later

    go : (b : Bool) → is_up_to r q ≡ b → (is_up_to r q ≡ false → n ≤ count_by (is_up_to r) keys) → n ≤ count_by (is_up_to r) keys
    go true e other = omega (arith, here, count-le r q keys e)
    go false e other = other e

-- the least of the least of some keys and of further ones are the least of them all
pub AreLeast-more : (n : ℕ) (xs ys keys new : List Key) → AreLeast n xs keys → AreLeast n (keys ++ ys) new → AreLeast n (xs ++ ys) new
AreLeast-more n xs ys keys new first second = record {
  order = second.order;
  others = second.others ++ first.others;
  same =
      IsPermutation-trans (xs ++ ys) ((keys ++ first.others) ++ ys) (new ++ (second.others ++ first.others)) (IsPermutation-append_left ys xs (keys ++ first.others) first.same) (
      subst (λ l. IsPermutation l (new ++ (second.others ++ first.others))) (sym (append_assoc keys first.others ys)) (
      IsPermutation-trans (keys ++ (first.others ++ ys)) (keys ++ (ys ++ first.others)) (new ++ (second.others ++ first.others))
      (IsPermutation-append_right keys (first.others ++ ys) (ys ++ first.others) (IsPermutation-append_comm first.others ys))
      (subst (λ l. IsPermutation l (new ++ (second.others ++ first.others))) (append_assoc keys ys first.others) (
      subst (IsPermutation ((keys ++ ys) ++ first.others)) (append_assoc new second.others first.others)
      (IsPermutation-append_left first.others (keys ++ ys) (new ++ second.others) second.same)
      ))
      )
      );
  later = All-append (λ r. n ≤ count_by (is_up_to r) new) second.others first.others second.later (All-weaker (λ r. n ≤ count_by (is_up_to r) keys) (λ r. n ≤ count_by (is_up_to r) new) moved first.others first.later);
}
  where
    moved : (r : Key) → n ≤ count_by (is_up_to r) keys → n ≤ count_by (is_up_to r) new
    moved r enough = still n r new second.others second.later (omega (
      arith,
      enough,
      sum_by-append (λ k. bit (is_up_to r k)) keys ys,
      sum_by-append (λ k. bit (is_up_to r k)) new second.others,
      sum_by-IsPermutation (λ k. bit (is_up_to r k)) (keys ++ ys) (new ++ second.others) second.same,
    ))

-- nothing new
pub AreLeast-same : (n : ℕ) (keys : List Key) → IsShortOrder n keys → AreLeast n (keys ++ []) keys
AreLeast-same n keys order = record { order = order; others = []; same = IsPermutation-refl (keys ++ []); later = All-nil (λ r. n ≤ count_by (is_up_to r) keys) }

-- one part of the vectors more
pub AreLeast-next : (r : Radii) (n : ℕ) (start keys new : List Key) (so_far part whole : List Vector) → so_far ++ part ≡ whole → AreLeast n (start ++ keys_of r so_far) keys → AreLeast n (keys ++ keys_of r part) new → AreLeast n (start ++ keys_of r whole) new
AreLeast-next r n start keys new so_far part whole is first second =
    subst (λ l. AreLeast n l new) (keys_next r start so_far part whole is) (AreLeast-more n (start ++ keys_of r so_far) (keys_of r part) keys new first second)

pub AreLeast-start : (r : Radii) (n : ℕ) (keys : List Key) → IsShortOrder n keys → AreLeast n (keys ++ keys_of r []) keys
AreLeast-start r n keys order = subst (λ l. AreLeast n (keys ++ l) keys) (sym (keys_of_none r)) (AreLeast-same n keys order)

-- the keys of the box are those of the candidates
pub AreLeast-candidates : (r : Radii) (n : ℕ) (start keys : List Key) → start ≡ [] → AreLeast n (start ++ keys_of r (planes r (2 * r.z + 1))) keys → AreLeast n (map (key_of r) (candidates r)) keys
unfolding keys_of candidates
AreLeast-candidates r n start keys none least =
    let is : start ++ map (key_of r) (filter (is_candidate r) (planes r (2 * r.z + 1))) ≡ map (key_of r) (filter (is_candidate r) (box r)) =
    ap (λ l. l ++ map (key_of r) (filter (is_candidate r) (planes r (2 * r.z + 1)))) none ∙ ap (λ l. map (key_of r) (filter (is_candidate r) l)) (sym (box_is r)) in
    subst (λ l. AreLeast n l keys) is least

all_pass : (p : Key → Bool) (xs : List Key) (n : ℕ) → ((i : ℕ) (d : Key) → i < n → p (get_or xs i d) ≡ true) → n ≤ length xs → (d : Key) → n ≤ count_by p (take n xs)
all_pass p xs zero pass enough d = omega arith
all_pass p xs (suc n) pass enough d =
    let e = count_by_more_yes p xs n d (omega arith) (pass n d (omega arith)) in
    let next : n + 1 ≡ suc n = omega arith in
    subst (λ m. suc n ≤ count_by p (take m xs)) next (omega (arith, e, all_pass p xs n (λ i d within. pass i d (omega arith)) (omega arith) d))

-- a key past all of n keys
pub AreLeast-past : (n : ℕ) (keys : List Key) (k : Key) → IsShortOrder n keys → n ≤ length keys → All (λ q. is_up_to k q ≡ true) keys → AreLeast n (keys ++ k ∷ []) keys
AreLeast-past n keys k order many past = record {
  order = order;
  others = k ∷ [];
  same = IsPermutation-refl (keys ++ k ∷ []);
  later = All-cons (λ r. n ≤ count_by (is_up_to r) keys) k [] count (All-nil (λ r. n ≤ count_by (is_up_to r) keys));
}
  where
    count : n ≤ count_by (is_up_to k) keys
    count = subst (λ l. n ≤ count_by (is_up_to k) l) (take_all n keys order.few) (all_pass (is_up_to k) keys n (λ i d within. past i d (omega arith)) many k)

-- the first n of all keys in order
pub AreLeast-take : (n : ℕ) (xs sorted : List Key) → IsPermutation xs sorted → IsSorted key_cmp sorted → AreLeast n xs (take n sorted)
AreLeast-take n xs sorted perm is_sorted = record {
  order = record {
    sorted = λ k d least in_list.
        let within : k + 1 < n = omega (arith, in_list, length-take n sorted) in
        subst (λ v. is_less v (get_or (take n sorted) k d) ≡ false) (sym (get_or-take n sorted (k + 1) d within)) (
        subst (λ v. is_less (get_or sorted (k + 1) d) v ≡ false) (sym (get_or-take n sorted k d (omega arith))) (is_sorted k d (omega arith) (omega (arith, in_list, length-take n sorted)))
        );
    few = omega (arith, length-take n sorted);
  };
  others = drop n sorted;
  same = subst (IsPermutation xs) (sym (take-append-drop n sorted)) perm;
  later = λ j d within.
      let in_all : n + j < length sorted = omega (arith, within, length-drop n sorted) in
      subst (λ r. n ≤ count_by (is_up_to r) (take n sorted)) (sym (get_or-drop n sorted j d)) (
      all_pass (is_up_to (get_or sorted (n + j) d)) sorted n
      (λ i e before. is_not (is_less (get_or sorted (n + j) d) (get_or sorted i e)) (far i e (n + j) d (omega arith) in_all))
      (omega arith) d
      );
}
  where
    far : (i : ℕ) (e : Key) (j : ℕ) (d : Key) → i ≤ j → j < length sorted → is_less (get_or sorted j d) (get_or sorted i e) ≡ false
    far i e j d le within = subst (λ v. is_less (get_or sorted j d) v ≡ false) (get_or_default sorted i d e (omega arith)) (sorted_far is_less less_order sorted is_sorted i j d le within)

count_all : (p : Key → Bool) (xs : List Key) → length xs ≤ count_by p xs → All (λ x. p x ≡ true) xs
count_all p [] enough = All-nil (λ x. p x ≡ true)
count_all p (x ∷ xs) enough =
    go (p x) refl (λ e.
    let one : bit (p x) ≡ suc zero = ap bit e in
    count_all p xs (omega (arith, enough, one, sum_by-cons (λ y. bit (p y)) x xs)))
  where
    go : (b : Bool) → p x ≡ b → (p x ≡ true → All (λ y. p y ≡ true) xs) → All (λ y. p y ≡ true) (x ∷ xs)
    go true e others = All-cons (λ y. p y ≡ true) x xs e (others e)
    go false e others =
        let none : bit (p x) ≡ zero = ap bit e in
        absurd (omega (arith, enough, none, sum_by-cons (λ y. bit (p y)) x xs, count_by-le-length p xs))

module _ (r : Radii) (n : ℕ) (keys : List Key) (least : AreLeast n (map (key_of r) (candidates r)) keys) where
  -- the others in order
  abbrev pub rest : (ys : List Key) × IsPermutation least.others ys × Rises is_less less_order ys
  rest = in_order is_less less_order least.others

  later : All (λ q. n ≤ count_by (is_up_to q) keys) rest.0
  later = All-permutation (λ q. n ≤ count_by (is_up_to q) keys) least.others rest.0 rest.1 least.later

  -- each of the others is past each of the least
  apart : All (λ k. All (λ q. is_less q k ≡ false) rest.0) keys
  apart i d within j e in_rest =
      let q = get_or rest.0 j e in
      let enough = later j e in_rest in
      let all_up : All (λ k. is_up_to q k ≡ true) keys = count_all (is_up_to q) keys (omega (arith, enough, least.order.few)) in
      not_less (is_less q (get_or keys i d)) (all_up i d within)

  pub all_sorted : IsSorted key_cmp (keys ++ rest.0)
  all_sorted = IsSortedBy-Rises is_less less_order (keys ++ rest.0) (Rises-append is_less less_order keys rest.0 (Rises-IsSortedBy is_less less_order keys least.order.sorted) rest.2 apart)

  pub all_same : IsPermutation (map (key_of r) (candidates r)) (keys ++ rest.0)
  all_same = IsPermutation-trans (map (key_of r) (candidates r)) (keys ++ least.others) (keys ++ rest.0) least.same (IsPermutation-append_right keys least.others rest.0 rest.1)

  first_all : (others : List Key) → All (λ q. n ≤ count_by (is_up_to q) keys) others → take n (keys ++ others) ≡ keys
  first_all [] enough = ap (take n) (append-nil keys) ∙ take_all n keys least.order.few
  first_all (q ∷ others) enough =
      let many : n ≤ length keys = omega (arith, All-head (λ q. n ≤ count_by (is_up_to q) keys) q others enough, count_by-le-length (is_up_to q) keys) in
      take-append-le n keys (q ∷ others) many ∙ take_all n keys least.order.few

  pub template_least : template_of r n ≡ map vector_of keys
  template_least = template_is r (keys ++ rest.0) all_same all_sorted n ∙ ap (map vector_of) (first_all rest.0 later)
