-- What `clap` takes a word for, and what it is by the grammar.
use Rattle.std.proofs.Common.{◌≡◌, ◌∙◌, ◌+◌, ◌==◌, ℕ, Bool, true, false, not, suc, refl, sym, ap, subst, arith, true≢false, List, [], ◌∷◌, take, drop, codes, rules, Option, Some, None}
use Rattle.std.specs.Prelude.{slice_get, if◌then◌else◌}
use Rattle.std.specs.List.{after_first, before_first, list_any, position_or_len}
use Rattle.std.specs.Char.{encode_utf8}
use Rattle.std.specs.Str.{IsUtf8, bytes_eq, chars}
use Rattle.std.proofs.lemmas.Slice.Eq.{bytes_eq-Decides}
use Rattle.std.proofs.lemmas.Str.{IsUtf8-past_char, encodes-chars}
use Rattle.clap.specs.Lexer.{long_of, short_of}
use Rattle.mps_scan.specs.Words.{is_equals}
use Rattle.mps_words.specs.Words.{Part, by_list, chosen, is_dashed, is_list, is_workers, part_before, parts_from, placed, worker_number}

abbrev pub dashes : List ℕ
dashes = 45 ∷ 45 ∷ []

-- the value behind the first `=`, if there is one
abbrev pub attached : List ℕ → Option (List ℕ)
attached word = if list_any is_equals word then Some (after_first is_equals word) else None

-- an option of this name, with this value if any, is the flag
abbrev pub is_bare_list : List ℕ → Option (List ℕ) → Bool
is_bare_list name None = bytes_eq name (codes "list")
is_bare_list name (Some value) = false

pub data Looks (word : List ℕ) : Type 0 where
  as_separator : bytes_eq word dashes ≡ true → is_dashed word ≡ true → Looks word
  as_plain : bytes_eq word dashes ≡ false → long_of word ≡ None → short_of word ≡ None → is_dashed word ≡ false → Looks word
  as_long : (name : List ℕ) → bytes_eq word dashes ≡ false → long_of word ≡ Some (name, attached word) → is_workers word ≡ bytes_eq name (codes "workers")
      → is_list word ≡ is_bare_list name (attached word) → is_dashed word ≡ true → Looks word
  as_short : (f : ℕ) (fs : List ℕ) (x : ℕ) → bytes_eq word dashes ≡ false → long_of word ≡ None → short_of word ≡ Some (f ∷ fs) → slice_get (chars (f ∷ fs)) 0 ≡ Some x → is_workers word ≡ false
      → is_list word ≡ false → is_dashed word ≡ true → Looks word

skip_before : (c : ℕ) (xs : List ℕ) → is_equals c ≡ false → before_first is_equals (c ∷ xs) ≡ c ∷ before_first is_equals xs
skip_before c xs e =
    let one : 1 + position_or_len is_equals xs ≡ suc (position_or_len is_equals xs) = omega arith in
    rw e (ap (λ n. take n (c ∷ xs)) one)

skip_after : (c : ℕ) (xs : List ℕ) → is_equals c ≡ false → after_first is_equals (c ∷ xs) ≡ after_first is_equals xs
skip_after c xs e =
    let one : (1 + position_or_len is_equals xs) + 1 ≡ suc (position_or_len is_equals xs + 1) = omega arith in
    rw e (ap (λ n. drop n (c ∷ xs)) one)

-- behind two dashes
long_value : (xs : List ℕ) → (if list_any is_equals xs then Some (after_first is_equals xs) else None) ≡ attached (45 ∷ 45 ∷ xs)
long_value xs = go (list_any is_equals xs)
  where
    go : (b : Bool) → (if b then Some (after_first is_equals xs) else None) ≡ (if b then Some (after_first is_equals (45 ∷ 45 ∷ xs)) else None)
    go true = ap (λ v. Some v) (sym (skip_after 45 (45 ∷ xs) refl ∙ skip_after 45 xs refl))
    go false = refl

long_name : (xs : List ℕ) → is_workers (45 ∷ 45 ∷ xs) ≡ bytes_eq (before_first is_equals xs) (codes "workers")
long_name xs = ap (λ name. bytes_eq name (codes "--workers")) (skip_before 45 (45 ∷ xs) refl ∙ ap (λ name. 45 ∷ name) (skip_before 45 xs refl))

-- a word without a `=` is the name of its option
whole_before : (xs : List ℕ) → list_any is_equals xs ≡ false → before_first is_equals xs ≡ xs
whole_before [] none = refl
whole_before (x ∷ xs) none = go (is_equals x) refl (λ rest. whole_before xs rest)
  where
    go : (b : Bool) → is_equals x ≡ b → (list_any is_equals xs ≡ false → before_first is_equals xs ≡ xs) → before_first is_equals (x ∷ xs) ≡ x ∷ xs
    go true e later = absurd (true≢false (rw e at none))
    go false e later = skip_before x xs e ∙ ap (λ rest. x ∷ rest) (later (rw e at none))

long_list : (xs : List ℕ) → is_list (45 ∷ 45 ∷ xs) ≡ is_bare_list (before_first is_equals xs) (attached (45 ∷ 45 ∷ xs))
long_list xs = go (list_any is_equals xs) refl
  where
    same : bytes_eq xs (codes "list") ≡ true → list_any is_equals xs ≡ false
    same e = let is : xs ≡ codes "list" = (bytes_eq-Decides xs (codes "list")).0 e in subst (λ (w : List ℕ). list_any is_equals w ≡ false) (sym is) refl

    apart : (b : Bool) → bytes_eq xs (codes "list") ≡ b → list_any is_equals xs ≡ true → bytes_eq xs (codes "list") ≡ false
    apart true e any = absurd (true≢false (sym any ∙ same e))
    apart false e any = e

    go : (b : Bool) → list_any is_equals xs ≡ b
        → bytes_eq xs (codes "list") ≡ is_bare_list (before_first is_equals xs) (if b then Some (after_first is_equals (45 ∷ 45 ∷ xs)) else None)
    go true e = apart (bytes_eq xs (codes "list")) refl e
    go false e = sym (ap (λ name. bytes_eq name (codes "list")) (whole_before xs e))

short_name : (y : ℕ) (zs : List ℕ) → (y == 45) ≡ false → is_workers (45 ∷ y ∷ zs) ≡ false
short_name y zs apart = ap (λ name. bytes_eq name (codes "--workers")) (skip_before 45 (y ∷ zs) refl) ∙ go (is_equals y) refl
  where
    go : (b : Bool) → is_equals y ≡ b → bytes_eq (45 ∷ before_first is_equals (y ∷ zs)) (codes "--workers") ≡ false
    go true e = rw e refl
    go false e = ap (λ name. bytes_eq (45 ∷ name) (codes "--workers")) (skip_before y zs e) ∙ rw apart refl

-- what stands behind a dash has a first character
first_char : (y : ℕ) (zs : List ℕ) → IsUtf8 (45 ∷ y ∷ zs) → (x : ℕ) × (slice_get (chars (y ∷ zs)) 0 ≡ Some x)
unfolding encode_utf8
first_char y zs text = go (chars (y ∷ zs)) (encodes-chars (y ∷ zs) (IsUtf8-past_char (45 ∷ y ∷ zs) (y ∷ zs) 45 text refl))
  where
    go : (cs : List ℕ) → Rattle.std.specs.Str.encode_utf8_all cs ≡ y ∷ zs → (x : ℕ) × (slice_get cs 0 ≡ Some x)
    go [] e = cc
    go (c ∷ cs) e = (c, refl)

pub look : (word : List ℕ) → IsUtf8 word → Looks word
look [] text = as_plain refl refl refl refl
look (x ∷ []) text = go (x == 45) refl
  where
    go : (b : Bool) → (x == 45) ≡ b → Looks (x ∷ [])
    go true e = as_plain (rw e refl) (rw e refl) (rw e refl) refl
    go false e = as_plain (rw e refl) (rw e refl) (rw e refl) refl
look (x ∷ y ∷ zs) text = go (x == 45) refl
  where
    dashed : (zs : List ℕ) → Looks (45 ∷ 45 ∷ zs)
    dashed [] = as_separator refl refl
    dashed (z ∷ zs) = as_long (before_first is_equals (z ∷ zs)) refl (ap (λ v. Some (before_first is_equals (z ∷ zs), v)) (long_value (z ∷ zs))) (long_name (z ∷ zs)) (long_list (z ∷ zs)) refl

    second : (b : Bool) → (y == 45) ≡ b → IsUtf8 (45 ∷ y ∷ zs) → Looks (45 ∷ y ∷ zs)
    second true e text = let same : y ≡ 45 = search (rules, e) in subst (λ c. Looks (45 ∷ c ∷ zs)) (sym same) (dashed zs)
    second false e text =
        let first = first_char y zs text in
        as_short y zs first.0 (rw e refl) (rw e refl) (rw e refl) first.1 (short_name y zs e) (rw e refl) refl

    go : (b : Bool) → (x == 45) ≡ b → Looks (x ∷ y ∷ zs)
    go true e = let same : x ≡ 45 = search (rules, e) in subst (λ c. Looks (c ∷ y ∷ zs)) (sym same) (second (y == 45) refl (subst (λ c. IsUtf8 (c ∷ y ∷ zs)) same text))
    go false e = as_plain (rw e refl) (rw e refl) (rw e refl) (rw e refl)

-- ---- the parts, by what the first word is

pub parts_plain : (word : List ℕ) (rest : List (List ℕ)) → is_dashed word ≡ false → parts_from false (word ∷ rest) ≡ part_before (placed word) (parts_from false rest)
unfolding parts_from
parts_plain word rest plain = rw plain refl

pub parts_value : (word : List ℕ) (rest : List (List ℕ)) → is_dashed word ≡ false → parts_from true (word ∷ rest) ≡ part_before (chosen (worker_number word)) (parts_from false rest)
unfolding parts_from
parts_value word rest plain = rw plain refl

pub parts_no_value : (word : List ℕ) (rest : List (List ℕ)) → is_dashed word ≡ true → parts_from true (word ∷ rest) ≡ None
unfolding parts_from
parts_no_value word rest dashed = rw dashed refl

pub parts_behind : (word : List ℕ) (rest : List (List ℕ)) → is_dashed word ≡ true → bytes_eq word dashes ≡ true → parts_from false (word ∷ rest) ≡ Some (Rattle.std.specs.Prelude.map placed rest)
unfolding parts_from
parts_behind word rest dashed behind = rw (dashed, behind) refl

pub parts_other : (word : List ℕ) (rest : List (List ℕ)) → is_dashed word ≡ true → bytes_eq word dashes ≡ false → is_list word ≡ false → is_workers word ≡ false
    → parts_from false (word ∷ rest) ≡ None
unfolding parts_from
parts_other word rest dashed apart no_list other = rw (dashed, apart, no_list, other) refl

abbrev pub parts_option : Option (List ℕ) → List (List ℕ) → Option (List Part)
parts_option (Some number) rest = part_before (chosen (worker_number number)) (parts_from false rest)
parts_option None rest = parts_from true rest

-- the parts that begin with a long option of this name, with this value if any
abbrev pub parts_long : List ℕ → Option (List ℕ) → List (List ℕ) → Option (List Part)
parts_long name value rest =
    if is_bare_list name value then part_before (chosen by_list) (parts_from false rest)
    else if not (bytes_eq name (codes "workers")) then None
    else parts_option value rest

pub parts_of_long : (word name : List ℕ) (rest : List (List ℕ)) → is_dashed word ≡ true → bytes_eq word dashes ≡ false → is_workers word ≡ bytes_eq name (codes "workers")
    → is_list word ≡ is_bare_list name (attached word) → parts_from false (word ∷ rest) ≡ parts_long name (attached word) rest
unfolding parts_from
parts_of_long word name rest dashed apart workers list = rw (dashed, apart, list, workers) (go (list_any is_equals word))
  where
    -- the value is behind the `=`, if there is one
    go : (b : Bool) → (if is_bare_list name (attached word) then part_before (chosen by_list) (parts_from false rest)
        else if not (bytes_eq name (codes "workers")) then None
        else if b then part_before (chosen (worker_number (after_first is_equals word))) (parts_from false rest)
        else parts_from true rest)
        ≡ (if is_bare_list name (attached word) then part_before (chosen by_list) (parts_from false rest)
        else if not (bytes_eq name (codes "workers")) then None
        else parts_option (if b then Some (after_first is_equals word) else None) rest)
    go true = refl
    go false = refl

names_apart : (name : List ℕ) → bytes_eq name (codes "workers") ≡ true → bytes_eq name (codes "list") ≡ false
names_apart name e =
    let is : name ≡ codes "workers" = (bytes_eq-Decides name (codes "workers")).0 e in
    subst (λ (w : List ℕ). bytes_eq w (codes "list") ≡ false) (sym is) refl

pub parts_number : (name : List ℕ) (value : Option (List ℕ)) (rest : List (List ℕ)) → bytes_eq name (codes "workers") ≡ true → parts_long name value rest ≡ parts_option value rest
parts_number name None rest e = rw (names_apart name e, e) refl
parts_number name (Some number) rest e = rw e refl

pub parts_flag : (name : List ℕ) (rest : List (List ℕ)) → bytes_eq name (codes "list") ≡ true → parts_long name None rest ≡ part_before (chosen by_list) (parts_from false rest)
parts_flag name rest e = rw e refl

pub parts_flag_value : (name value : List ℕ) (rest : List (List ℕ)) → bytes_eq name (codes "list") ≡ true → parts_long name (Some value) rest ≡ None
parts_flag_value name value rest e = rw other refl
  where
    is : name ≡ codes "list"
    is = (bytes_eq-Decides name (codes "list")).0 e

    other : bytes_eq name (codes "workers") ≡ false
    other = subst (λ (w : List ℕ). bytes_eq w (codes "workers") ≡ false) (sym is) refl
