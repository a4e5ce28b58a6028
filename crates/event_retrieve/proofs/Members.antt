-- Data by what is found, and lists with the same members.
use Rattle.std.proofs.Common.{◌≡◌, ◌⊎◌, ℕ, zero, suc, ◌+◌, ◌<◌, ◌≤◌, Bool, true, false, cond, List, [], ◌∷◌, ◌++◌, length, get_or, nat_le, Option, Some, None, option_map, slice_get, ◌==◌, ◌||◌, refl, ap, sym, ◌∙◌, inl, inr, subst, arith}
use Rattle.std.specs.List.{Contains, enumerate_from, filter_map, cons_option, list_any}
use Rattle.std.proofs.lemmas.Bool.{false≢true}
use Rattle.std.proofs.lemmas.Bool.Decides.{nat_tests}
use Rattle.std.proofs.lemmas.List.Elements.{Contains-get_or}
use Rattle.mp_base.specs.declared.cell.Vector.{Vector}
use Rattle.ti_scan.specs.declared.event.Datum.{Datum}
use Rattle.ti_scan.specs.Event.{IsWithin}
use Rattle.ti_scan.specs.Rising.{RisesFrom}
use Rattle.event_retrieve.specs.Retrieval.{up_to}

-- membership by recursion, for proofs
abbrev pub IsIn : Datum → List Datum → Type 0
IsIn d [] = ⊥
IsIn d (x ∷ xs) = (d ≡ x) ⊎ IsIn d xs

in_from_index : (k : ℕ) (d : Datum) (xs : List Datum) → k < length xs → get_or xs k d ≡ d → IsIn d xs
in_from_index k d [] within is = absurd (omega arith)
in_from_index zero d (x ∷ xs) within is = inl (sym is)
in_from_index (suc k) d (x ∷ xs) within is = inr (in_from_index k d xs (omega arith) is)

pub IsIn-from_contains : (d : Datum) (xs : List Datum) → Contains xs d → IsIn d xs
IsIn-from_contains d xs c = in_from_index c.0 d xs c.1 c.2

pub Contains-from_in : (d : Datum) (xs : List Datum) → IsIn d xs → Contains xs d
Contains-from_in d [] i = absurd i
Contains-from_in d (x ∷ xs) (inl here) = (0, omega arith, sym here)
Contains-from_in d (x ∷ xs) (inr there) = let c = Contains-from_in d xs there in (suc c.0, omega (arith, c.1), c.2)

-- each member of one is a member of the other
abbrev pub AllIn : List Datum → List Datum → Type 0
AllIn xs ys = (d : Datum) → IsIn d xs → IsIn d ys

pub AllIn-from_within : (xs ys : List Datum) → IsWithin xs ys → AllIn xs ys
AllIn-from_within [] ys within d i = absurd i
AllIn-from_within (x ∷ xs) ys within d (inl here) = subst (λ e. IsIn e ys) (sym here) (IsIn-from_contains x ys (within 0 x (omega arith)))
AllIn-from_within (x ∷ xs) ys within d (inr there) = AllIn-from_within xs ys (λ k e in_list. within (suc k) e (omega arith)) d there

pub within-from_AllIn : (xs ys : List Datum) → AllIn xs ys → IsWithin xs ys
within-from_AllIn xs ys all = λ k d in_list. Contains-from_in (get_or xs k d) ys (all (get_or xs k d) (IsIn-from_contains (get_or xs k d) xs (Contains-get_or xs k d in_list)))

-- the members with one more
pub in_push : (d e : Datum) (xs : List Datum) → IsIn d (xs ++ e ∷ []) → IsIn d xs ⊎ (d ≡ e)
in_push d e [] (inl here) = inr here
in_push d e [] (inr none) = absurd none
in_push d e (x ∷ xs) (inl here) = inl (inl here)
in_push d e (x ∷ xs) (inr there) = elim (in_push d e xs there) [
  | inl before ↦ inl (inr before)
  | inr last ↦ inr last
]

pub push_in : (d e : Datum) (xs : List Datum) → IsIn d xs → IsIn d (xs ++ e ∷ [])
push_in d e [] i = absurd i
push_in d e (x ∷ xs) (inl here) = inl here
push_in d e (x ∷ xs) (inr there) = inr (push_in d e xs there)

pub in_last : (d : Datum) (xs : List Datum) → IsIn d (xs ++ d ∷ [])
in_last d [] = inl refl
in_last d (x ∷ xs) = inr (in_last d xs)

-- a member of what rises from least stands at least there
pub in_rises : (least last : ℕ) (xs : List Datum) (d : Datum) → RisesFrom least last xs → IsIn d xs → (least ≤ d.position) × (d.position ≤ last)
in_rises least last [] d rising i = absurd i
in_rises least last (x ∷ xs) d rising (inl here) = (subst (λ (e : Datum). least ≤ e.position) (sym here) rising.0, subst (λ (e : Datum). e.position ≤ last) (sym here) rising.1)
in_rises least last (x ∷ xs) d rising (inr there) = let r = in_rises (suc x.position) last xs d rising.2 there in (omega (arith, rising.0, r.0), r.1)

-- lists that rise and have the same members are the same
pub same_if_same_members : (a b last : ℕ) (xs ys : List Datum) → RisesFrom a last xs → RisesFrom b last ys → AllIn xs ys → AllIn ys xs → xs ≡ ys
same_if_same_members a b last [] [] rx ry xy yx = refl
same_if_same_members a b last [] (y ∷ ys) rx ry xy yx = absurd (yx y (inl refl))
same_if_same_members a b last (x ∷ xs) [] rx ry xy yx = absurd (xy x (inl refl))
same_if_same_members a b last (x ∷ xs) (y ∷ ys) rx ry xy yx =
    let head : x ≡ y = same_head (xy x (inl refl)) (yx y (inl refl)) in
    ap (λ (d : Datum). d ∷ xs) head ∙ ap (λ (l : List Datum). y ∷ l) (same_if_same_members (suc x.position) (suc y.position) last xs ys rx.2 ry.2 (λ d i. tail_in x y xs ys (suc x.position) last head rx.2 d i (xy d (inr i))) (λ d i. tail_in y x ys xs (suc y.position) last (sym head) ry.2 d i (yx d (inr i))))
  where
    same_head : (x ≡ y) ⊎ IsIn x ys → (y ≡ x) ⊎ IsIn y xs → x ≡ y
    same_head (inl e) other = e
    same_head (inr later) (inl e) = sym e
    same_head (inr later) (inr too) = absurd (omega (arith, (in_rises (suc y.position) last ys x ry.2 later).0, (in_rises (suc x.position) last xs y rx.2 too).0))

    tail_in : (u v : Datum) (us vs : List Datum) (least end : ℕ) → u ≡ v → RisesFrom (suc u.position) last us → (d : Datum) → IsIn d us → (d ≡ v) ⊎ IsIn d vs → IsIn d vs
    tail_in u v us vs least end e rises d i (inr there) = there
    tail_in u v us vs least end e rises d i (inl here) = absurd (omega (arith, (in_rises (suc u.position) last us d rises i).0, ap (λ (z : Datum). z.position) here, ap (λ (z : Datum). z.position) e))

-- the data up to r
pub in_up_to : (r : ℕ) (xs : List Datum) (d : Datum) → IsIn d (up_to r xs) → IsIn d xs × (d.position ≤ r)
in_up_to r [] d i = absurd i
in_up_to r (x ∷ xs) d i = go (nat_le x.position r) refl i (λ j. in_up_to r xs d j)
  where
    go : (b : Bool) → nat_le x.position r ≡ b → IsIn d (cond b (x ∷ up_to r xs) (up_to r xs)) → (IsIn d (up_to r xs) → IsIn d xs × (d.position ≤ r)) → ((d ≡ x) ⊎ IsIn d xs) × (d.position ≤ r)
    go true e (inl here) rest = (inl here, subst (λ (z : Datum). z.position ≤ r) (sym here) (grind (arith, nat_tests)))
    go true e (inr there) rest = let f = rest there in (inr f.0, f.1)
    go false e there rest = let f = rest there in (inr f.0, f.1)

pub up_to-in : (r : ℕ) (xs : List Datum) (d : Datum) → IsIn d xs → d.position ≤ r → IsIn d (up_to r xs)
up_to-in r [] d i le = i
up_to-in r (x ∷ xs) d i le = go (nat_le x.position r) refl i (λ j. up_to-in r xs d j le)
  where
    go : (b : Bool) → nat_le x.position r ≡ b → (d ≡ x) ⊎ IsIn d xs → (IsIn d xs → IsIn d (up_to r xs)) → IsIn d (cond b (x ∷ up_to r xs) (up_to r xs))
    go true e (inl here) rest = inl here
    go true e (inr there) rest = inr (rest there)
    go false e (inl here) rest = let low : x.position ≤ r = subst (λ (z : Datum). z.position ≤ r) here le in absurd (grind (arith, nat_tests))
    go false e (inr there) rest = rest there

up_to-rises-step : (b : Bool) (least last : ℕ) (x : Datum) (xs : List Datum) → least ≤ x.position → x.position ≤ last → RisesFrom (suc x.position) last xs → RisesFrom least last (cond b (x ∷ xs) xs)
up_to-rises-step true least last x xs le within rising = (le, within, rising)
up_to-rises-step false least last x [] le within rising = tt
up_to-rises-step false least last x (y ∷ xs) le within rising = (omega (arith, rising.0), rising.1, rising.2)

pub up_to-rises : (r least last : ℕ) (xs : List Datum) → RisesFrom least last xs → RisesFrom least last (up_to r xs)
up_to-rises r least last [] rising = tt
up_to-rises r least last (x ∷ xs) rising = up_to-rises-step (nat_le x.position r) least last x (up_to r xs) rising.0 rising.1 (up_to-rises r (suc x.position) last xs rising.2)

abbrev datum : ℕ → ℕ → Datum
datum q k = record { position = q; cat = k }

abbrev from : (ℕ → Vector → Option ℕ) → ℕ → List Vector → List Datum
from f a vs = filter_map (λ (x : ℕ × Vector). option_map (λ k. datum x.0 k) (f x.0 x.1)) (enumerate_from a vs)

-- what stands at template vector j, counted from 0, where the first has position a
pub record IsFound (f : ℕ → Vector → Option ℕ) (a : ℕ) (vs : List Vector) (d : Datum) : Type 0 where
  pub index : ℕ
  pub vector : Vector
  pub stands : slice_get vs index ≡ Some vector
  pub position : d.position ≡ a + index
  pub found : f (a + index) vector ≡ Some d.cat

found-later : (f : ℕ → Vector → Option ℕ) (a : ℕ) (v : Vector) (vs : List Vector) (d : Datum) → IsFound f (a + 1) vs d → IsFound f a (v ∷ vs) d
found-later f a v vs d h =
    let at : a + 1 + h.index ≡ a + suc h.index = omega arith in
    record { index = suc h.index; vector = h.vector; stands = h.stands; position = h.position ∙ at; found = ap (λ n. f n h.vector) (sym at) ∙ h.found }

pub found_if_in : (f : ℕ → Vector → Option ℕ) (a : ℕ) (vs : List Vector) (d : Datum) → IsIn d (from f a vs) → IsFound f a vs d
found_if_in f a [] d i = absurd i
found_if_in f a (v ∷ vs) d i = go (f a v) refl i (λ j. found-later f a v vs d (found_if_in f (a + 1) vs d j))
  where
    go : (x : Option ℕ) → f a v ≡ x → IsIn d (cons_option (option_map (λ k. datum a k) x) (from f (a + 1) vs)) → (IsIn d (from f (a + 1) vs) → IsFound f a (v ∷ vs) d) → IsFound f a (v ∷ vs) d
    go None e there rest = rest there
    go (Some k) e (inr there) rest = rest there
    go (Some k) e (inl here) rest =
        let zero_more : a + 0 ≡ a = omega arith in
        record {
          index = 0;
          vector = v;
          stands = refl;
          position = ap (λ (z : Datum). z.position) here ∙ sym zero_more;
          found = ap (λ n. f n v) zero_more ∙ e ∙ ap (λ (z : Datum). Some z.cat) (sym here);
        }

in-step : (a k : ℕ) (x : Option ℕ) (rest : List Datum) → x ≡ Some k → IsIn (datum a k) (cons_option (option_map (λ j. datum a j) x) rest)
in-step a k None rest e = absurd (none_is_some k e)
  where
    none_is_some : (k : ℕ) → None ≡ Some k → ⊥
    none_is_some k e = cc
in-step a k (Some j) rest e = let same : j ≡ k = cc in inl (ap (datum a) (sym same))

in-skip : (a : ℕ) (d : Datum) (x : Option ℕ) (rest : List Datum) → IsIn d rest → IsIn d (cons_option (option_map (λ j. datum a j) x) rest)
in-skip a d None rest i = i
in-skip a d (Some j) rest i = inr i

pub in_if_found : (f : ℕ → Vector → Option ℕ) (a j : ℕ) (vs : List Vector) (v : Vector) (k : ℕ) → slice_get vs j ≡ Some v → f (a + j) v ≡ Some k → IsIn (datum (a + j) k) (from f a vs)
in_if_found f a j [] v k stands is = absurd (none_is_some v stands)
  where
    none_is_some : (v : Vector) → None ≡ Some v → ⊥
    none_is_some v e = cc
in_if_found f a zero (w ∷ vs) v k stands is =
    let zero_more : a + 0 ≡ a = omega arith in
    let same : w ≡ v = cc in
    subst (λ n. IsIn (datum n k) (from f a (w ∷ vs))) (sym zero_more) (in-step a k (f a w) (from f (a + 1) vs) (ap (f a) same ∙ ap (λ n. f n v) (sym zero_more) ∙ is))
in_if_found f a (suc j) (w ∷ vs) v k stands is =
    let at : a + 1 + j ≡ a + suc j = omega arith in
    subst (λ n. IsIn (datum n k) (from f a (w ∷ vs))) at (in-skip a (datum (a + 1 + j) k) (f a w) (from f (a + 1) vs) (in_if_found f (a + 1) j vs v k stands (ap (λ n. f n v) at ∙ is)))

-- a position that a test finds has a datum
pub position_in : (q : ℕ) (xs : List Datum) → list_any (λ d. d.position == q) xs ≡ true → (k : ℕ) × IsIn (datum q k) xs
position_in q [] e = absurd (false≢true e)
position_in q (x ∷ xs) e = go (x.position == q) refl e (λ rest. position_in q xs rest)
  where
    go : (b : Bool) → (x.position == q) ≡ b → (b || list_any (λ d. d.position == q) xs) ≡ true → (list_any (λ d. d.position == q) xs ≡ true → (k : ℕ) × IsIn (datum q k) xs) → (k : ℕ) × IsIn (datum q k) (x ∷ xs)
    go true e any rest = let same : x.position ≡ q = grind (arith, nat_tests) in (x.cat, inl (ap (λ n. datum n x.cat) (sym same)))
    go false e any rest = let r = rest any in (r.0, inr r.1)
