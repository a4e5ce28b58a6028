-- Each list has its elements in order, and what two lists in order make.
use Rattle.std.proofs.Common.{◌≡◌, zero, suc, ◌+◌, Bool, true, false, List, [], ◌∷◌, ◌++◌, get_or, refl, subst, arith}
use Rattle.std.specs.List.{All}
use Rattle.std.specs.List.Sorted.{IsPermutation, IsSortedBy}
use Rattle.std.specs.Cmp.{IsStrictWeakOrder}
use Rattle.std.proofs.lemmas.List.Elements.{All-nil, All-cons, All-head, All-tail, All-append, All-weaker}
use Rattle.std.proofs.lemmas.List.Sorted.{sorted_far, All-permutation, IsPermutation-refl, IsPermutation-cons, IsPermutation-trans, IsPermutation-swap}

module _ {X : Type 0} (lt : X → X → Bool) (o : IsStrictWeakOrder lt) where
  -- in order, said by recursion: none of those that follow an element is less
  abbrev pub Rises : List X → Type 0
  Rises [] = Unit {0}
  Rises (x ∷ xs) = All (λ y. lt y x ≡ false) xs × Rises xs

  pub IsSortedBy-Rises : (xs : List X) → Rises xs → IsSortedBy lt xs
  IsSortedBy-Rises [] rises k d least in_list = absurd (omega arith)
  IsSortedBy-Rises (x ∷ xs) rises zero d least in_list = rises.0 0 d (omega arith)
  IsSortedBy-Rises (x ∷ xs) rises (suc k) d least in_list =
      let next : suc (k + 1) ≡ suc k + 1 = omega arith in
      subst (λ n. lt (get_or (x ∷ xs) n d) (get_or xs k d) ≡ false) next (IsSortedBy-Rises xs rises.1 k d (omega arith) (omega arith))

  pub Rises-IsSortedBy : (xs : List X) → IsSortedBy lt xs → Rises xs
  Rises-IsSortedBy [] sorted = tt
  Rises-IsSortedBy (x ∷ xs) sorted = (
    λ i d within. sorted_far lt o (x ∷ xs) sorted 0 (suc i) d (omega arith) (omega arith),
    Rises-IsSortedBy xs (λ k d least in_list.
        let next : suc k + 1 ≡ suc (k + 1) = omega arith in
        subst (λ n. lt (get_or (x ∷ xs) n d) (get_or xs k d) ≡ false) next (sorted (suc k) d (omega arith) (omega arith))),
  )

  pub Rises-append : (xs ys : List X) → Rises xs → Rises ys → All (λ x. All (λ y. lt y x ≡ false) ys) xs → Rises (xs ++ ys)
  Rises-append [] ys front back apart = back
  Rises-append (x ∷ xs) ys front back apart = (
    All-append (λ y. lt y x ≡ false) xs ys front.0 (All-head (λ w. All (λ y. lt y w ≡ false) ys) x xs apart),
    Rises-append xs ys front.1 back (All-tail (λ w. All (λ y. lt y w ≡ false) ys) x xs apart),
  )

  front_swap : (x y : X) (xs : List X) → IsPermutation (x ∷ y ∷ xs) (y ∷ x ∷ xs)
  front_swap x y xs = IsPermutation-swap (x ∷ y ∷ xs) (y ∷ x ∷ xs) 0 1 (omega arith) (omega arith) refl

  inserted : (x : X) (ys : List X) → Rises ys → (zs : List X) × IsPermutation (x ∷ ys) zs × Rises zs
  inserted x [] rises = (x ∷ [], IsPermutation-refl (x ∷ []), (All-nil (λ y. lt y x ≡ false), tt))
  inserted x (y ∷ ys) rises = go (lt y x) refl (inserted x ys rises.1)
    where
      go : (b : Bool) → lt y x ≡ b → ((zs : List X) × IsPermutation (x ∷ ys) zs × Rises zs) → (zs : List X) × IsPermutation (x ∷ (y ∷ ys)) zs × Rises zs
      go true e rest = (
        y ∷ rest.0,
        IsPermutation-trans (x ∷ y ∷ ys) (y ∷ x ∷ ys) (y ∷ rest.0) (front_swap x y ys) (IsPermutation-cons y (x ∷ ys) rest.0 rest.1),
        (All-permutation (λ z. lt z y ≡ false) (x ∷ ys) rest.0 rest.1 (All-cons (λ z. lt z y ≡ false) x ys (o.one_way y x e) rises.0), rest.2),
      )
      go false e rest = (
        x ∷ y ∷ ys,
        IsPermutation-refl (x ∷ y ∷ ys),
        (All-cons (λ z. lt z x ≡ false) y ys e (All-weaker (λ z. lt z y ≡ false) (λ z. lt z x ≡ false) (λ z later. o.chain z y x later e) ys rises.0), rises),
      )

  -- the same elements in order
  pub in_order : (xs : List X) → (ys : List X) × IsPermutation xs ys × Rises ys
  in_order [] = ([], IsPermutation-refl [], tt)
  in_order (x ∷ xs) =
      let rest = in_order xs in
      let with = inserted x rest.0 rest.2 in
      (with.0, IsPermutation-trans (x ∷ xs) (x ∷ rest.0) with.0 (IsPermutation-cons x xs rest.0 rest.1) with.1, with.2)
