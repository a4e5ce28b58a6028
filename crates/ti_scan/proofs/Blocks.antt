-- What is counted block by block.
use Rattle.std.proofs.Common.{◌≡◌, ℕ, zero, suc, ◌+◌, ◌-◌, ◌<◌, ◌≤◌, Bool, true, false, cond, ◌&&◌, List, [], ◌∷◌, ◌++◌, length, get_or, take, replicate, filter, map, None, refl, ap, sym, ◌∙◌, arith}
use Rattle.std.specs.List.{count_by, range_with_len}
use Rattle.std.proofs.lemmas.List.{append-nil, append_assoc, map-append, map_push, get_or-replicate, get_or-take, length-take, length-replicate}
use Rattle.std.proofs.lemmas.List.FromFn.{map-range_with_len_more}
use Rattle.std.proofs.lemmas.List.Sums.{sum_by-cons, sum_by-append}
use Rattle.std.proofs.lemmas.List.Elements.{filter-append}
use Rattle.std.proofs.lemmas.Bool.{false_from_ne_true}
use Rattle.mp_base.specs.declared.cell.Vector.{Vector}
use Rattle.mp_base.specs.Grid.{Field, category_of}
use Rattle.ti_scan.specs.Eroded.{is_eroded}
use Rattle.ti_scan.specs.Marks.{mark, Keeps, marks_in, cells_marked, category_marked}
use Rattle.ti_scan.specs.Window.{AreOwn, centre_in, eroded_from}

-- numbers from a on, and then more
pub range-append : (a n m : ℕ) → range_with_len a (n + m) ≡ range_with_len a n ++ range_with_len (a + n) m
range-append a zero m = ap (λ k. range_with_len a k) none ∙ ap (λ k. range_with_len k m) start
  where
    start : a ≡ a + 0
    start = omega arith

    none : 0 + m ≡ m
    none = omega arith
range-append a (suc n) m =
    ap (λ k. range_with_len a k) (more n) ∙ ap (λ l. a ∷ l) (range-append (a + 1) n m) ∙ ap (λ k. a ∷ (range_with_len (a + 1) n ++ range_with_len k m)) (next n)
  where
    more : (n : ℕ) → suc n + m ≡ suc (n + m)
    more n = omega arith

    next : (n : ℕ) → a + 1 + n ≡ a + suc n
    next n = omega arith

-- two ranges of which the same places pass
pub count-same : (p q : ℕ → Bool) (a b n : ℕ) → ((i : ℕ) → i < n → p (a + i) ≡ q (b + i)) → count_by p (range_with_len a n) ≡ count_by q (range_with_len b n)
count-same p q a b zero same = refl
count-same p q a b (suc n) same =
    let first : p a ≡ q b = ap p (omega arith) ∙ same 0 (omega arith) ∙ ap q (omega arith) in
    let rest = count-same p q (a + 1) (b + 1) n (λ i below. ap p (omega arith) ∙ same (i + 1) (omega arith) ∙ ap q (omega arith)) in
    sum_by-cons (λ x. cond (p x) 1 0) a (range_with_len (a + 1) n) ∙ ap (λ t. cond t 1 0 + count_by p (range_with_len (a + 1) n)) first
    ∙ ap (λ m. cond (q b) 1 0 + m) rest ∙ sym (sum_by-cons (λ x. cond (q x) 1 0) b (range_with_len (b + 1) n))

pub count-append : (p : ℕ → Bool) (a n m : ℕ) → count_by p (range_with_len a (n + m)) ≡ count_by p (range_with_len a n) + count_by p (range_with_len (a + n) m)
count-append p a n m = ap (count_by p) (range-append a n m) ∙ sum_by-append (λ x. cond (p x) 1 0) (range_with_len a n) (range_with_len (a + n) m)

pub true_at : (n len i : ℕ) → i < len → len ≤ n → mark (take len (replicate n true)) i ≡ true
true_at n len i below few = get_or-take len (replicate n true) i false below ∙ get_or-replicate n i true false (omega arith)

pub counted : (image : Field) (template : List Vector) (from n len : ℕ) (after : List Bool) → len ≤ n → Keeps (eroded_from image template from) (take len (replicate n true)) after → marks_in after (length after) ≡ count_by (is_eroded image template) (range_with_len from len)
unfolding marks_in
counted image template from n len after few kept =
    let long : length (take len (replicate n true)) ≡ len = omega (arith, length-take len (replicate n true), length-replicate n true) in
    let whole : length after ≡ len = kept.count ∙ long in
    ap (λ k. count_by (mark after) (range_with_len 0 k)) whole
    ∙ count-same (mark after) (is_eroded image template) 0 from len
    (λ i below. ap (mark after) (omega arith) ∙ kept.each i (omega arith) ∙ ap (λ b. b && eroded_from image template from i) (true_at n len i below few))

pub filter-same : (p q : ℕ → Bool) (a n : ℕ) → ((i : ℕ) → i < n → p (a + i) ≡ q (a + i)) → filter p (range_with_len a n) ≡ filter q (range_with_len a n)
filter-same p q a zero same = refl
filter-same p q a (suc n) same =
    let first : p a ≡ q a = ap p (omega arith) ∙ same 0 (omega arith) ∙ ap q (omega arith) in
    let rest = filter-same p q (a + 1) n (λ i below. ap p (omega arith) ∙ same (i + 1) (omega arith) ∙ ap q (omega arith)) in
    ap (λ t. cond t (a ∷ filter p (range_with_len (a + 1) n)) (filter p (range_with_len (a + 1) n))) first ∙ ap (λ l. cond (q a) (a ∷ l) l) rest

pub map-same : {X : Type 0} (f g : ℕ → X) (a b n : ℕ) → ((i : ℕ) → i < n → f (a + i) ≡ g (b + i)) → map f (range_with_len a n) ≡ map g (range_with_len b n)
map-same f g a b zero same = refl
map-same f g a b (suc n) same =
    let first : f a ≡ g b = ap f (omega arith) ∙ same 0 (omega arith) ∙ ap g (omega arith) in
    let rest = map-same f g (a + 1) (b + 1) n (λ i below. ap f (omega arith) ∙ same (i + 1) (omega arith) ∙ ap g (omega arith)) in
    ap (λ y. y ∷ map f (range_with_len (a + 1) n)) first ∙ ap (λ l. g b ∷ l) rest

pub filter-append-range : (p : ℕ → Bool) (a n m : ℕ) → filter p (range_with_len a (n + m)) ≡ filter p (range_with_len a n) ++ filter p (range_with_len (a + n) m)
filter-append-range p a n m = ap (filter p) (range-append a n m) ∙ filter-append p (range_with_len a n) (range_with_len (a + n) m)

pub map-append-range : {X : Type 0} (f : ℕ → X) (a n m : ℕ) → map f (range_with_len a (n + m)) ≡ map f (range_with_len a n) ++ map f (range_with_len (a + n) m)
map-append-range f a n m = ap (map f) (range-append a n m) ∙ map-append f (range_with_len a n) (range_with_len (a + n) m)

filter-none : (p : ℕ → Bool) (a n : ℕ) → ((i : ℕ) → i < n → p (a + i) ≡ false) → filter p (range_with_len a n) ≡ []
filter-none p a zero none = refl
filter-none p a (suc n) none =
    let first : p a ≡ false = ap p (omega arith) ∙ none 0 (omega arith) in
    ap (λ t. cond t (a ∷ filter p (range_with_len (a + 1) n)) (filter p (range_with_len (a + 1) n))) first
    ∙ filter-none p (a + 1) n (λ i below. ap p (omega arith) ∙ none (i + 1) (omega arith))

-- where nothing passes before a and nothing from a + n on, what passes lies between
pub filter-within : (p : ℕ → Bool) (a n total : ℕ) → a + n ≤ total → ((c : ℕ) → c < total → p c ≡ true → (a ≤ c) × (c < a + n)) → filter p (range_with_len 0 total) ≡ filter p (range_with_len a n)
filter-within p a n total within only =
    let whole : total ≡ a + (n + (total - (a + n))) = omega arith in
    let start : 0 + a ≡ a = omega arith in
    let before = filter-none p 0 a (λ i below. false_from_ne_true (p (0 + i)) (λ e. let o = only (0 + i) (omega arith) e in absurd (omega arith))) in
    let after = filter-none p (a + n) (total - (a + n)) (λ i below. false_from_ne_true (p (a + n + i)) (λ e. let o = only (a + n + i) (omega arith) e in absurd (omega arith))) in
    ap (λ k. filter p (range_with_len 0 k)) whole ∙ filter-append-range p 0 a (n + (total - (a + n)))
    ∙ ap (λ l. l ++ filter p (range_with_len (0 + a) (n + (total - (a + n))))) before
    ∙ ap (λ k. filter p (range_with_len k (n + (total - (a + n))))) start
    ∙ filter-append-range p a n (total - (a + n)) ∙ ap (λ l. filter p (range_with_len a n) ++ l) after ∙ append-nil (filter p (range_with_len a n))

pub cells_marked_none : (marks : List Bool) (from : ℕ) → cells_marked marks from 0 ≡ []
unfolding cells_marked
cells_marked_none marks from = refl

pub cells_marked_more : (marks : List Bool) (from n : ℕ) → cells_marked marks from (n + 1) ≡ cells_marked marks from n ++ cond (mark marks n) ((from + n) ∷ []) []
unfolding cells_marked
cells_marked_more marks from n =
    let here : from + n - from ≡ n = omega arith in
    filter-append-range (λ c. mark marks (c - from)) from n 1 ∙ ap (λ k. filter (λ c. mark marks (c - from)) (range_with_len from n) ++ cond (mark marks k) ((from + n) ∷ []) []) here

pub cells_marked_are : (image : Field) (template : List Vector) (from n len : ℕ) (after : List Bool) → len ≤ n → Keeps (eroded_from image template from) (take len (replicate n true)) after → cells_marked after from (length after) ≡ filter (is_eroded image template) (range_with_len from len)
unfolding cells_marked
cells_marked_are image template from n len after few kept =
    let whole : length after ≡ len = kept.count ∙ omega (arith, length-take len (replicate n true), length-replicate n true) in
    ap (λ k. filter (λ c. mark after (c - from)) (range_with_len from k)) whole
    ∙ filter-same (λ c. mark after (c - from)) (is_eroded image template) from len
    (λ i below.
    let here : from + i - from ≡ i = omega arith in
    ap (mark after) here ∙ kept.each i (omega (arith, length-take len (replicate n true), length-replicate n true)) ∙ ap (λ b. b && eroded_from image template from i) (true_at n len i below few))

pub categories_marked_are : (image : Field) (template : List Vector) (from n len : ℕ) (bytes : List ℕ) (after : List Bool) → len ≤ n → AreOwn image from len bytes → Keeps (eroded_from image template from) (take len (replicate n true)) after → map (category_marked after bytes) (range_with_len 0 (length after)) ≡ map (centre_in image template) (range_with_len from len)
categories_marked_are image template from n len bytes after few own kept =
    let whole : length after ≡ len = kept.count ∙ omega (arith, length-take len (replicate n true), length-replicate n true) in
    ap (λ k. map (category_marked after bytes) (range_with_len 0 k)) whole
    ∙ map-same (category_marked after bytes) (centre_in image template) 0 from len (λ i below. each i below)
  where
    each : (i : ℕ) → i < len → category_marked after bytes (0 + i) ≡ centre_in image template (from + i)
    each i below =
        let here : 0 + i ≡ i = omega arith in
        let is = kept.each i (omega (arith, length-take len (replicate n true), length-replicate n true)) ∙ ap (λ b. b && eroded_from image template from i) (true_at n len i below few) in
        ap (category_marked after bytes) here ∙ ap (λ b. cond b (category_of (get_or bytes i 0)) None) is ∙ ap (λ v. cond (eroded_from image template from i) v None) (own.each i below)

pub map-range-more : {X : Type 0} (f : ℕ → X) (n : ℕ) → map f (range_with_len 0 (n + 1)) ≡ map f (range_with_len 0 n) ++ f n ∷ []
map-range-more f n = map-range_with_len_more f 0 n n (omega arith)

-- one more byte
pub map-push-more : {X : Type 0} (means f : ℕ → X) (to before : List ℕ) (byte n : ℕ) → map means to ≡ map means before ++ map f (range_with_len 0 n) → means byte ≡ f n → map means (to ++ byte ∷ []) ≡ map means before ++ map f (range_with_len 0 (n + 1))
map-push-more means f to before byte n so_far is =
    map_push means to byte ∙ ap (λ l. l ++ means byte ∷ []) so_far ∙ ap (λ x. map means before ++ map f (range_with_len 0 n) ++ x ∷ []) is
    ∙ append_assoc (map means before) (map f (range_with_len 0 n)) (f n ∷ []) ∙ ap (λ l. map means before ++ l) (sym (map-range-more f n))

-- one more cell, where it's marked
pub push-more : (items before : List ℕ) (marks : List Bool) (from n : ℕ) → items ≡ before ++ cells_marked marks from n → (b : Bool) → mark marks n ≡ b → items ++ cond b ((from + n) ∷ []) [] ≡ before ++ cells_marked marks from (n + 1)
push-more items before marks from n so_far b is =
    ap (λ l. l ++ cond b ((from + n) ∷ []) []) so_far ∙ append_assoc before (cells_marked marks from n) (cond b ((from + n) ∷ []) [])
    ∙ ap (λ t. before ++ (cells_marked marks from n ++ cond t ((from + n) ∷ []) [])) (sym is) ∙ ap (λ l. before ++ l) (sym (cells_marked_more marks from n))
