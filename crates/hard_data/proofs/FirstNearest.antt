-- The first of the nearest items, with one item more.
use Rattle.std.proofs.Common.{◌≡◌, ℕ, ◌<◌, Bool, true, false, cond, leb, ◌&&◌, List, [], ◌∷◌, ◌++◌, Option, Some, None, refl, ap, sym, ◌∙◌, arith}
use Rattle.std.specs.List.{find, list_all}
use Rattle.std.specs.Option.{option_or}
use Rattle.std.proofs.lemmas.Bool.{and_parts, and_from, le-leb, leb-true, leb-false}
use Rattle.std.proofs.lemmas.List.Folds.{find-append, list_all-append}
use Rattle.hard_data.specs.Nearest.{first_nearest, nearer_of}

-- What is found passes, and has what all items have.

found_passes : {X : Type 0} (p : X → Bool) (xs : List X) (w : X) → find p xs ≡ Some w → p w ≡ true
found_passes p [] w found = absurd (cc found)
found_passes p (x ∷ xs) w found = go (p x) refl found (found_passes p xs w)
  where
    go : (t : Bool) → p x ≡ t → cond t (Some x) (find p xs) ≡ Some w → (find p xs ≡ Some w → p w ≡ true) → p w ≡ true
    go true here same later = let is : x ≡ w = cc same in ap p (sym is) ∙ here
    go false here same later = later same

found_in : {X : Type 0} (p q : X → Bool) (xs : List X) (w : X) → list_all q xs ≡ true → find p xs ≡ Some w → q w ≡ true
found_in p q [] w all found = absurd (cc found)
found_in p q (x ∷ xs) w all found = let parts = and_parts (q x) (list_all q xs) all in go (p x) found parts.0 (found_in p q xs w parts.1)
  where
    go : (t : Bool) → cond t (Some x) (find p xs) ≡ Some w → q x ≡ true → (find p xs ≡ Some w → q w ≡ true) → q w ≡ true
    go true same here later = let is : x ≡ w = cc same in ap q (sym is) ∙ here
    go false same here later = later same

none_in : {X : Type 0} (p q : X → Bool) → ((x : X) → q x ≡ true → p x ≡ false) → (xs : List X) → list_all q xs ≡ true → find p xs ≡ None
none_in p q fails [] all = refl
none_in p q fails (x ∷ xs) all =
    let parts = and_parts (q x) (list_all q xs) all in
    ap (λ t. cond t (Some x) (find p xs)) (fails x parts.0) ∙ none_in p q fails xs parts.1

all_in : {X : Type 0} (q r : X → Bool) → ((x : X) → q x ≡ true → r x ≡ true) → (xs : List X) → list_all q xs ≡ true → list_all r xs ≡ true
all_in q r holds [] all = refl
all_in q r holds (x ∷ xs) all =
    let parts = and_parts (q x) (list_all q xs) all in
    and_from (r x) (list_all r xs) (holds x parts.0) (all_in q r holds xs parts.1)

module _ {X : Type 0} (distance : X → ℕ) where
  -- none of these has a smaller distance
  abbrev is_least : List X → X → Bool
  is_least xs a = list_all (λ b. leb (distance a) (distance b)) xs

  itself : (x : X) → leb (distance x) (distance x) ≡ true
  itself x = le-leb (distance x) (distance x) (omega arith)

  -- there is a least one
  record Least (xs : List X) : Type 0 where
    least : X
    all : is_least xs least ≡ true
    inside : (p : X → Bool) → p least ≡ true → find p xs ≡ None → ⊥

  least_one : (x : X) → Least (x ∷ [])
  least_one x = record { least = x; all = and_from (leb (distance x) (distance x)) true (itself x) refl; inside = λ p here none. first_found p here none }
    where
      first_found : (p : X → Bool) → p x ≡ true → cond (p x) (Some x) None ≡ None → ⊥
      first_found p here none = cc (ap (λ t. cond t (Some x) None) here, none)

  -- one item more in front
  least_more : (x : X) (xs : List X) (rest : Least xs) (t : Bool) → leb (distance x) (distance rest.least) ≡ t → Least (x ∷ xs)
  least_more x xs rest true nearer = record {
    least = x;
    all = and_from (leb (distance x) (distance x)) (is_least xs x) (itself x) (all_in (λ b. leb (distance rest.least) (distance b)) (λ b. leb (distance x) (distance b)) farther xs rest.all);
    inside = first_found;
  }
    where
      farther : (b : X) → leb (distance rest.least) (distance b) ≡ true → leb (distance x) (distance b) ≡ true
      farther b far = le-leb (distance x) (distance b) (omega (arith, leb-true (distance x) (distance rest.least) nearer, leb-true (distance rest.least) (distance b) far))

      first_found : (p : X → Bool) → p x ≡ true → cond (p x) (Some x) (find p xs) ≡ None → ⊥
      first_found p here none = cc (ap (λ t. cond t (Some x) (find p xs)) here, none)
  least_more x xs rest false farther = record {
    least = rest.least;
    all = and_from (leb (distance rest.least) (distance x)) (is_least xs rest.least) (le-leb (distance rest.least) (distance x) (omega (arith, leb-false (distance x) (distance rest.least) farther))) rest.all;
    inside = λ p here none. later p here (p x) none;
  }
    where
      later : (p : X → Bool) → p rest.least ≡ true → (t : Bool) → cond t (Some x) (find p xs) ≡ None → ⊥
      later p here true none = cc none
      later p here false none = rest.inside p here none

  least_of : (x : X) (xs : List X) → Least (x ∷ xs)
  least_of x [] = least_one x
  least_of x (y ∷ xs) = let rest = least_of y xs in least_more x (y ∷ xs) rest (leb (distance x) (distance rest.least)) refl

  -- whether the items and one more are no nearer
  split_least : (xs : List X) (x a : X) → is_least (xs ++ x ∷ []) a ≡ (is_least xs a && (leb (distance a) (distance x) && true))
  split_least xs x a = list_all-append (λ b. leb (distance a) (distance b)) xs (x ∷ [])

  -- the kept one stays
  stays : (xs : List X) (x w : X) → find (is_least xs) xs ≡ Some w → leb (distance w) (distance x) ≡ true → find (is_least (xs ++ x ∷ [])) (xs ++ x ∷ []) ≡ Some w
  stays xs x w found near =
      find-append (is_least (xs ++ x ∷ [])) xs (x ∷ [])
      ∙ ap (λ o. option_or o (find (is_least (xs ++ x ∷ [])) (x ∷ []))) ((λ i. find (λ a. same a i) xs) ∙ found)
    where
      same : (a : X) → is_least (xs ++ x ∷ []) a ≡ is_least xs a
      same a = split_least xs x a ∙ go (is_least xs a) refl
        where
          go : (t : Bool) → is_least xs a ≡ t → t && (leb (distance a) (distance x) && true) ≡ t
          go true all = and_from (leb (distance a) (distance x)) true (le-leb (distance a) (distance x) (omega (arith, leb-true (distance w) (distance x) near, leb-true (distance a) (distance w) (found_in (is_least xs) (λ b. leb (distance a) (distance b)) xs w all found)))) refl
          go false all = refl

  -- the nearer one that comes takes the place
  taken : (xs : List X) (x w : X) → find (is_least xs) xs ≡ Some w → leb (distance w) (distance x) ≡ false → find (is_least (xs ++ x ∷ [])) (xs ++ x ∷ []) ≡ Some x
  taken xs x w found far =
      find-append (is_least (xs ++ x ∷ [])) xs (x ∷ [])
      ∙ ap (λ o. option_or o (find (is_least (xs ++ x ∷ [])) (x ∷ []))) (none_in (is_least (xs ++ x ∷ [])) (λ b. leb (distance w) (distance b)) fails xs all)
      ∙ ap (λ t. cond t (Some x) None) here
    where
      all : is_least xs w ≡ true
      all = found_passes (is_least xs) xs w found

      nearer : distance x < distance w
      nearer = leb-false (distance w) (distance x) far

      fails : (a : X) → leb (distance w) (distance a) ≡ true → is_least (xs ++ x ∷ []) a ≡ false
      fails a behind = split_least xs x a ∙ go (is_least xs a) (leb (distance a) (distance x)) refl
        where
          go : (s t : Bool) → leb (distance a) (distance x) ≡ t → s && (t && true) ≡ false
          go false t test = refl
          go true false test = refl
          go true true test = absurd (omega (arith, nearer, leb-true (distance w) (distance a) behind, leb-true (distance a) (distance x) test))

      here : is_least (xs ++ x ∷ []) x ≡ true
      here =
          split_least xs x x
          ∙ and_from (is_least xs x) (leb (distance x) (distance x) && true)
          (all_in (λ b. leb (distance w) (distance b)) (λ b. leb (distance x) (distance b)) (λ b behind. le-leb (distance x) (distance b) (omega (arith, nearer, leb-true (distance w) (distance b) behind))) xs all)
          (and_from (leb (distance x) (distance x)) true (itself x) refl)

  -- the nearer one of the first of the nearest and the item that comes
  pub nearest_push : (xs : List X) (x : X) → first_nearest distance (xs ++ x ∷ []) ≡ Some (nearer_of distance (first_nearest distance xs) x)
  unfolding first_nearest
  nearest_push xs x = by_kept (find (is_least xs) xs) refl
    where
      by_test : (w : X) → find (is_least xs) xs ≡ Some w → (t : Bool) → leb (distance w) (distance x) ≡ t → find (is_least (xs ++ x ∷ [])) (xs ++ x ∷ []) ≡ Some (cond t w x)
      by_test w found true near = stays xs x w found near
      by_test w found false far = taken xs x w found far

      by_none : (ys : List X) → find (is_least ys) ys ≡ None → find (is_least (ys ++ x ∷ [])) (ys ++ x ∷ []) ≡ Some x
      by_none [] none = ap (λ t. cond t (Some x) None) (and_from (leb (distance x) (distance x)) true (itself x) refl)
      by_none (y ∷ ys) none = let least = least_of y ys in absurd (least.inside (is_least (y ∷ ys)) least.all none)

      by_kept : (kept : Option X) → find (is_least xs) xs ≡ kept → find (is_least (xs ++ x ∷ [])) (xs ++ x ∷ []) ≡ Some (nearer_of distance kept x)
      by_kept None none = by_none xs none
      by_kept (Some w) found = by_test w found (leb (distance w) (distance x)) refl
