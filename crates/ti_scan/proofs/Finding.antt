-- The replicates of an event, block by block.
use Rattle.std.proofs.Common.{◌≡◌, ℕ, ◌+◌, ◌-◌, ◌<◌, ◌≤◌, Bool, true, false, cond, ◌&&◌, ◌==◌, List, [], ◌∷◌, length, get_or, take, drop, replicate, filter, Option, Some, None, is_some, option_and_then, nat_lt, refl, ap, sym, ◌∙◌, inl, inr, arith}
use Rattle.std.specs.List.{count_by, range_with_len, list_all}
use Rattle.std.proofs.lemmas.List.{length-take, length-replicate, get_or-take, get_or-drop, get_or-map, get_or-replicate, ext_get_or}
use Rattle.std.proofs.lemmas.List.FromFn.{get_or-map-range_with_len}
use Rattle.std.proofs.lemmas.List.Sums.{AllPass-from_list_all, sum_by-cons}
use Rattle.std.proofs.lemmas.Option.{slice_get-get_or}
use Rattle.std.proofs.lemmas.Bool.{and_parts, cases_lt}
use Rattle.std.proofs.lemmas.Bool.Decides.{nat_tests}
use Rattle.mp_base.specs.declared.cell.Vector.{Vector}
use Rattle.mp_base.specs.Counts.{is_cat, tally}
use Rattle.mp_base.specs.Grid.{cat_of, cat_at, category_of}
use Rattle.mp_base.proofs.Tallies.{get_or-tally, length-tally}
use Rattle.ti_scan.specs.declared.event.Datum.{Datum}
use Rattle.ti_scan.specs.Eroded.{is_eroded, positions_of}
use Rattle.ti_scan.specs.Event.{Source, cat_around, counts_of, shows, tallied}
use Rattle.ti_scan.specs.Marks.{mark, marked, is_marked}
use Rattle.ti_scan.specs.Window.{AddsFound, AddsMarked, AreAround, AreAt, AreCentres, KeepsShown, centre_in, found_in, is_found}
use Rattle.ti_scan.proofs.Blocks.{count-append, count-same, true_at}
use Rattle.ti_scan.proofs.Eroding.{at_inside}
use Rattle.ti_scan.proofs.Whole.{count-le, positions_are}

and_swap : (a b : Bool) → (a && b) ≡ (b && a)
and_swap true true = refl
and_swap true false = refl
and_swap false true = refl
and_swap false false = refl

and_off : (a : Bool) → (a && false) ≡ false
and_off true = refl
and_off false = refl

-- a byte is that of a category below 8 exactly where it stands for it
byte_is : (b k : ℕ) → k < 8 → (b == k) ≡ is_cat (category_of b) k
byte_is b k below = elim (cases_lt b 8) [
  | inl small ↦ sym (ap (λ t. is_cat (cond t (Some b) None) k) (known_small small))
  | inr large ↦
      let other : (b == k) ≡ false = grind (arith, nat_tests) in
      other ∙ sym (ap (λ t. is_cat (cond t (Some b) None) k) (known_large large))
]
  where
    known_small : b < 8 → nat_lt b 8 ≡ true
    known_small small = grind (arith, nat_tests)

    known_large : 8 ≤ b → nat_lt b 8 ≡ false
    known_large large = grind (arith, nat_tests)

-- the category at a position around an eroded one
pub around : (s : Source) (p from count : ℕ) (bytes : List ℕ) (d : Vector) → 1 ≤ p → p ≤ length s.template → AreAt s.image (get_or s.template (p - 1) d) from count bytes → AreAround s p from count bytes
around s p from count bytes d first last are = record {
  count_is = are.count_is;
  each = λ i below eroded. are.each i below (at_inside s.image (from + i) v (known (from + i) eroded)) ∙ sym (here (from + i));
  known = λ i below eroded. ap is_some (here (from + i)) ∙ known (from + i) eroded;
}
  where
    v : Vector
    v = get_or s.template (p - 1) d

    here : (c : ℕ) → cat_around s c p ≡ cat_at s.image c (get_or s.template (p - 1) d)
    here c = ap (option_and_then (cat_at s.image c)) (slice_get-get_or s.template (p - 1) d (omega arith))

    known : (c : ℕ) → is_eroded s.image s.template c ≡ true → is_some (cat_at s.image c (get_or s.template (p - 1) d)) ≡ true
    known c eroded =
        AllPass-from_list_all (λ w. is_some (cat_at s.image c w)) s.template (and_parts (is_some (cat_of s.image.cells c)) (list_all (λ w. is_some (cat_at s.image c w)) s.template) eroded).1 (p - 1) d (omega arith)

module _ (s : Source) (event : List Datum) (first start len : ℕ) (centres own : List ℕ) (marks : List Bool) (k : ℕ) where
  centre_at : AreCentres s first centres → start + len ≤ length centres → own ≡ take len (drop start centres) → (i : ℕ) → i < len → category_of (get_or own i 0) ≡ centre_in s.image s.template (first + start + i)
  centre_at are fits own_is i below =
      ap (λ l. category_of (get_or l i 0)) own_is
      ∙ ap category_of (get_or-take len (drop start centres) i 0 below ∙ get_or-drop start centres i 0)
      ∙ sym (get_or-map category_of centres (start + i) 0 None (omega arith))
      ∙ ap (λ l. get_or l (start + i) None) are.are
      ∙ get_or-map-range_with_len (centre_in s.image s.template) first (length centres) (start + i) (first + start + i) None (omega arith) (omega arith)

  both : (eroded m : Bool) (cat : Option ℕ) (shown : Bool) → (eroded ≡ true → m ≡ shown) → (m && is_cat (cond eroded cat None) k) ≡ (is_cat (cond eroded cat None) k && shown)
  both true m cat shown e = ap (λ b. b && is_cat cat k) (e refl) ∙ and_swap shown (is_cat cat k)
  both false m cat shown e = and_off m

  marked_is : k < 8 → AreCentres s first centres → start + len ≤ length centres → own ≡ take len (drop start centres) → (n : ℕ) → len ≤ n → KeepsShown s event (first + start) (take len (replicate n true)) marks → marked marks own k (length marks) ≡ found_in s event k (first + start) len
  unfolding marked found_in
  marked_is small are fits own_is n few shown =
      let long : length (take len (replicate n true)) ≡ len = omega (arith, length-take len (replicate n true), length-replicate n true) in
      ap (λ m. count_by (is_marked marks own k) (range_with_len 0 m)) (shown.count ∙ long)
      ∙ count-same (is_marked marks own k) (is_found s event k) 0 (first + start) len
      (λ i below.
      let c = first + start + i in
      let here : 0 + i ≡ i = omega arith in
      ap (is_marked marks own k) here
      ∙ ap (λ b. mark marks i && b) (byte_is (get_or own i 0) k small ∙ ap (λ v. is_cat v k) (centre_at are fits own_is i below))
      ∙ both (is_eroded s.image s.template c) (mark marks i) (cat_of s.image.cells c) (list_all (shows s c) event) (λ eroded. shown.each i (omega arith) eroded ∙ ap (λ b. b && list_all (shows s c) event) (true_at n len i below few)))

pub found_block : (s : Source) (event : List Datum) (first start len n : ℕ) (centres own : List ℕ) (marks : List Bool) (before after : List ℕ) → s.cats ≤ 8 → AreCentres s first centres → start + len ≤ length centres → own ≡ take len (drop start centres) → len ≤ n → KeepsShown s event (first + start) (take len (replicate n true)) marks → AddsMarked marks own s.cats before after → AddsFound s event (first + start) len before after
found_block s event first start len n centres own marks before after cats are fits own_is few shown adds = record {
  count = adds.count;
  each = λ k below. adds.each k below ∙ ap (λ m. get_or before k 0 + m) (marked_is s event first start len centres own marks k (omega arith) are fits own_is n few shown);
}

module _ (s : Source) (event : List Datum) (k : ℕ) where
  pub found_none : (first : ℕ) → found_in s event k first 0 ≡ 0
  unfolding found_in
  found_none first = refl

  pub found-append : (first n m : ℕ) → found_in s event k first (n + m) ≡ found_in s event k first n + found_in s event k (first + n) m
  unfolding found_in
  found-append first n m = count-append (is_found s event k) first n m

  pub found-le : (first n : ℕ) → found_in s event k first n ≤ n
  unfolding found_in
  found-le first n = count-le (is_found s event k) first n

count-filter : {X : Type 0} (p q : X → Bool) (xs : List X) → count_by q (filter p xs) ≡ count_by (λ x. p x && q x) xs
count-filter p q [] = refl
count-filter p q (x ∷ xs) = step (p x) (count-filter p q xs) ∙ sym (sum_by-cons (λ y. cond (p y && q y) 1 0) x xs)
  where
    step : (b : Bool) → count_by q (filter p xs) ≡ count_by (λ y. p y && q y) xs → count_by q (cond b (x ∷ filter p xs) (filter p xs)) ≡ cond (b && q x) 1 0 + count_by (λ y. p y && q y) xs
    step true rest = sum_by-cons (λ y. cond (q y) 1 0) x (filter p xs) ∙ ap (λ m. cond (q x) 1 0 + m) rest
    step false rest = rest ∙ omega arith

-- the number found of each category is that of the replicates
pub counts_are : (s : Source) (event : List Datum) (first : ℕ) (centres parts : List ℕ) → AreCentres s first centres → s.cats ≤ length parts → ((k : ℕ) → k < s.cats → get_or parts k 0 ≡ found_in s event k first (length centres)) → take s.cats parts ≡ counts_of s event
unfolding tallied found_in
counts_are s event first centres parts are fits each =
    ext_get_or 0 _ _ (omega (arith, length-take s.cats parts, length-tally (cat_of s.image.cells) s.cats (filter (λ c. list_all (shows s c) event) (positions_of s.image s.template)))) (λ k within. same k (omega (arith, length-take s.cats parts)))
  where
    one : (k c : ℕ) (eroded shown : Bool) (cat : Option ℕ) → (is_cat (cond eroded cat None) k && shown) ≡ (eroded && (shown && is_cat cat k))
    one k c true shown cat = and_swap (is_cat cat k) shown
    one k c false shown cat = refl

    same : (k : ℕ) → k < s.cats → get_or (take s.cats parts) k 0 ≡ get_or (tally (cat_of s.image.cells) s.cats (filter (λ c. list_all (shows s c) event) (positions_of s.image s.template))) k 0
    same k below =
        get_or-take s.cats parts k 0 below ∙ each k below
        ∙ count-same (is_found s event k) (λ c. is_eroded s.image s.template c && (list_all (shows s c) event && is_cat (cat_of s.image.cells c) k)) first first (length centres) (λ i _. one k (first + i) (is_eroded s.image s.template (first + i)) (list_all (shows s (first + i)) event) (cat_of s.image.cells (first + i)))
        ∙ sym (count-filter (is_eroded s.image s.template) (λ c. list_all (shows s c) event && is_cat (cat_of s.image.cells c) k) (range_with_len first (length centres)))
        ∙ sym (ap (count_by (λ c. list_all (shows s c) event && is_cat (cat_of s.image.cells c) k)) (positions_are s.image s.template first (length centres) are.span))
        ∙ sym (count-filter (λ c. list_all (shows s c) event) (λ c. is_cat (cat_of s.image.cells c) k) (positions_of s.image s.template))
        ∙ sym (get_or-tally (cat_of s.image.cells) s.cats (filter (λ c. list_all (shows s c) event) (positions_of s.image s.template)) k below)

abbrev eight_zeros : List ℕ
eight_zeros = 0 ∷ 0 ∷ 0 ∷ 0 ∷ 0 ∷ 0 ∷ 0 ∷ 0 ∷ []

pub zero_at : (k : ℕ) → k < 8 → get_or eight_zeros k 0 ≡ 0
zero_at k below = get_or-replicate 8 k 0 0 below
