-- Bytes, cut behind their last line feed: the lines that have ended, and the line that has begun.
use Rattle.std.proofs.Common.{◌≡◌, ℕ, suc, ◌+◌, ◌-◌, ◌<◌, Bool, true, false, cond, eqb, ltb, not, List, [], ◌∷◌, ◌++◌, length, get_or, drop, filter, ◌⊎◌, inl, inr, refl, ap, sym, ◌∙◌, subst, arith, append_assoc}
use Rattle.std.specs.List.{All, concat, list_all, onto_first, suffix_len, sum_by}
use Rattle.std.proofs.lemmas.List.{append-nil, drop_at, get_or-append_right, get_or_append_left, get_or_at, length-append, length_push}
use Rattle.std.proofs.lemmas.List.Concat.{concat_is, length-flat_map}
use Rattle.std.proofs.lemmas.List.Folds.{concat-append}
use Rattle.std.proofs.lemmas.List.Elements.{All-append, All-cons, All-nil, filter-append}
use Rattle.std.proofs.lemmas.List.Sums.{suffix_len_is}
use Rattle.std.proofs.lemmas.Bool.{and_from, and_parts, and_right, cases_Bool, eqb-true, false≢true, lt-ltb, not_from_false, not_from_true}
use Rattle.mp_text.specs.Lines.{lines_of}
use Rattle.mp_text.proofs.LineLemmas.{lines_of_empty, lines_of_rest}
use Rattle.gslib_grid.specs.Reader.{begun_line, ended_lines, has_ended}

-- The first byte of lines.

pub fed : (b : ℕ) (bytes : List ℕ) → eqb b 10 ≡ true → lines_of (b ∷ bytes) ≡ (b ∷ []) ∷ lines_of bytes
unfolding lines_of
fed b bytes feed = ap (λ t. cond t ((b ∷ []) ∷ lines_of bytes) (onto_first b (lines_of bytes))) feed

pub unfed : (b : ℕ) (bytes : List ℕ) → eqb b 10 ≡ false → lines_of (b ∷ bytes) ≡ onto_first b (lines_of bytes)
unfolding lines_of
unfed b bytes other = ap (λ t. cond t ((b ∷ []) ∷ lines_of bytes) (onto_first b (lines_of bytes))) other

pub alone : (b : ℕ) → lines_of (b ∷ []) ≡ (b ∷ []) ∷ []
unfolding lines_of
alone b = same (eqb b 10)
  where
    same : (t : Bool) → cond t ((b ∷ []) ∷ []) ((b ∷ []) ∷ []) ≡ (b ∷ []) ∷ []
    same true = refl
    same false = refl

-- The lines together are the bytes, and each of them is one line.

joined_onto : (b : ℕ) (ls : List (List ℕ)) → concat (onto_first b ls) ≡ b ∷ concat ls
joined_onto b [] = refl
joined_onto b (l ∷ ls) = refl

joined_lines : (bytes : List ℕ) → concat (lines_of bytes) ≡ bytes
joined_lines [] = ap concat (lines_of_empty [] refl)
joined_lines (b ∷ bs) =
    elim (cases_Bool (eqb b 10)) [
      | inl feed ↦ ap concat (fed b bs feed) ∙ ap (λ (rest : List ℕ). b ∷ rest) (joined_lines bs)
      | inr other ↦ ap concat (unfed b bs other) ∙ joined_onto b (lines_of bs) ∙ ap (λ (rest : List ℕ). b ∷ rest) (joined_lines bs)
    ]

-- the first line, and what stands behind it
pub cut_first : (bytes line behind : List ℕ) → lines_of bytes ≡ line ∷ lines_of behind → bytes ≡ line ++ behind
cut_first bytes line behind cut = sym (joined_lines bytes) ∙ ap concat cut ∙ ap (λ (rest : List ℕ). line ++ rest) (joined_lines behind)

pub no_lines : (bytes : List ℕ) → lines_of bytes ≡ [] → bytes ≡ []
no_lines bytes none = sym (joined_lines bytes) ∙ ap concat none

first_alone_onto : (b : ℕ) (line : List ℕ) (ls rest : List (List ℕ)) → eqb b 10 ≡ false → onto_first b ls ≡ line ∷ rest → ((l : List ℕ) (more : List (List ℕ)) → ls ≡ l ∷ more → lines_of l ≡ l ∷ []) → lines_of line ≡ line ∷ []
first_alone_onto b line [] rest other is each = let only : b ∷ [] ≡ line = cc is in subst (λ (l : List ℕ). lines_of l ≡ l ∷ []) only (alone b)
first_alone_onto b line (l ∷ ls) rest other is each = let first : b ∷ l ≡ line = cc is in subst (λ (l : List ℕ). lines_of l ≡ l ∷ []) first (unfed b l other ∙ ap (onto_first b) (each l ls refl))

pub first_alone : (bytes line : List ℕ) (rest : List (List ℕ)) → lines_of bytes ≡ line ∷ rest → lines_of line ≡ line ∷ []
first_alone [] line rest is = absurd (cc (sym (lines_of_empty [] refl) ∙ is))
first_alone (b ∷ bs) line rest is =
    elim (cases_Bool (eqb b 10)) [
      | inl feed ↦ let first : b ∷ [] ≡ line = cc (sym (fed b bs feed) ∙ is) in subst (λ (l : List ℕ). lines_of l ≡ l ∷ []) first (alone b)
      | inr other ↦ first_alone_onto b line (lines_of bs) rest other (sym (unfed b bs other) ∙ is) (first_alone bs)
    ]

-- One line: a line feed stands at most at its end.

-- no line feed is there
abbrev pub IsFree : List ℕ → Type 0
IsFree bytes = All (λ b. eqb b 10 ≡ false) bytes

-- the lines of a byte and bytes behind it are one line only where these bytes are one line
one_behind : (b c : ℕ) (bs : List ℕ) (ls : List (List ℕ)) → onto_first b ls ≡ (b ∷ c ∷ bs) ∷ [] → ls ≡ (c ∷ bs) ∷ []
one_behind b c bs [] is = absurd (cc is)
one_behind b c bs (l ∷ ls) is = cc is

first_is_all : (b c : ℕ) (bs : List ℕ) (ls : List (List ℕ)) → (b ∷ []) ∷ ls ≡ (b ∷ c ∷ bs) ∷ [] → ⊥
first_is_all b c bs ls is = cc is

-- either it goes on, or it ends with the line feed
abbrev Shape : List ℕ → Type 0
Shape line = IsFree line ⊎ ((body : List ℕ) × IsFree body × (line ≡ body ++ 10 ∷ []))

shape_of : (line : List ℕ) → lines_of line ≡ line ∷ [] → Shape line
shape_of [] one = inl (All-nil (λ b. eqb b 10 ≡ false))
shape_of (b ∷ []) one =
    elim (cases_Bool (eqb b 10)) [
      | inl feed ↦ inr ([], All-nil (λ b. eqb b 10 ≡ false), ap (λ c. c ∷ []) (eqb-true b 10 feed))
      | inr other ↦ inl (All-cons (λ b. eqb b 10 ≡ false) b [] other (All-nil (λ b. eqb b 10 ≡ false)))
    ]
shape_of (b ∷ c ∷ bs) one =
    elim (cases_Bool (eqb b 10)) [
      | inl feed ↦ absurd (first_is_all b c bs (lines_of (c ∷ bs)) (sym (fed b (c ∷ bs) feed) ∙ one))
      | inr other ↦ longer other (shape_of (c ∷ bs) (one_behind b c bs (lines_of (c ∷ bs)) (sym (unfed b (c ∷ bs) other) ∙ one)))
    ]
  where
    longer : eqb b 10 ≡ false → Shape (c ∷ bs) → Shape (b ∷ c ∷ bs)
    longer other (inl free) = inl (All-cons (λ b. eqb b 10 ≡ false) b (c ∷ bs) other free)
    longer other (inr ended) = inr (b ∷ ended.0, All-cons (λ b. eqb b 10 ≡ false) b ended.0 other ended.1, ap (λ (line : List ℕ). b ∷ line) ended.2)

-- Whether a line has ended.

pub free_unended : (line : List ℕ) → IsFree line → has_ended line ≡ false
free_unended [] free = refl
free_unended (b ∷ bs) free = and_right (ltb 0 (length (b ∷ bs))) _ (free (length (b ∷ bs) - 1) 0 (omega arith))

feed_ended : (body : List ℕ) → has_ended (body ++ 10 ∷ []) ≡ true
feed_ended body =
    let long = length_push body 10 in
    and_from (ltb 0 (length (body ++ 10 ∷ []))) _ (lt-ltb 0 (length (body ++ 10 ∷ [])) (omega arith))
    (ap (λ b. eqb b 10) (get_or_at body 10 [] 0 (length (body ++ 10 ∷ []) - 1) (omega arith)))

cons_ended : (b : ℕ) (line : List ℕ) → has_ended line ≡ true → has_ended (b ∷ line) ≡ true
cons_ended b [] is = absurd (false≢true is)
cons_ended b (c ∷ cs) is =
    let last = and_parts (ltb 0 (length (c ∷ cs))) _ is in
    let at : length (b ∷ c ∷ cs) - 1 ≡ suc (length (c ∷ cs) - 1) = omega arith in
    and_from (ltb 0 (length (b ∷ c ∷ cs))) _ (lt-ltb 0 (length (b ∷ c ∷ cs)) (omega arith)) (ap (λ n. eqb (get_or (b ∷ c ∷ cs) n 0) 10) at ∙ last.1)

-- Bytes that end with a line feed.

onto_append : (b : ℕ) (xs ys : List (List ℕ)) → 0 < length xs → onto_first b (xs ++ ys) ≡ onto_first b xs ++ ys
onto_append b [] ys some = absurd (omega arith)
onto_append b (x ∷ xs) ys some = refl

some_onto : (b : ℕ) (ls : List (List ℕ)) → 0 < length (onto_first b ls)
some_onto b [] = omega arith
some_onto b (l ∷ ls) = omega arith

some_line : (body : List ℕ) → 0 < length (lines_of (body ++ 10 ∷ []))
some_line [] = rw (fed 10 [] refl) (omega arith)
some_line (b ∷ body) =
    elim (cases_Bool (eqb b 10)) [
      | inl feed ↦ rw (fed b (body ++ 10 ∷ []) feed) (omega arith)
      | inr other ↦ rw (unfed b (body ++ 10 ∷ []) other) (some_onto b (lines_of (body ++ 10 ∷ [])))
    ]

-- their lines, and then the lines of what follows
lines_behind_feed : (body more : List ℕ) → lines_of ((body ++ 10 ∷ []) ++ more) ≡ lines_of (body ++ 10 ∷ []) ++ lines_of more
lines_behind_feed [] more = fed 10 more refl ∙ ap (λ ls. ls ++ lines_of more) (sym (alone 10))
lines_behind_feed (b ∷ body) more =
    let behind = body ++ 10 ∷ [] in
    elim (cases_Bool (eqb b 10)) [
      | inl feed ↦
          fed b (behind ++ more) feed
          ∙ ap (λ (ls : List (List ℕ)). (b ∷ []) ∷ ls) (lines_behind_feed body more)
          ∙ ap (λ ls. ls ++ lines_of more) (sym (fed b behind feed))
      | inr other ↦
          unfed b (behind ++ more) other
          ∙ ap (onto_first b) (lines_behind_feed body more)
          ∙ onto_append b (lines_of behind) (lines_of more) (some_line body)
          ∙ ap (λ ls. ls ++ lines_of more) (sym (unfed b behind other))
    ]

all_onto : (b : ℕ) (ls : List (List ℕ)) → 0 < length ls → list_all has_ended ls ≡ true → list_all has_ended (onto_first b ls) ≡ true
all_onto b [] some all = absurd (omega arith)
all_onto b (l ∷ ls) some all =
    let parts = and_parts (has_ended l) (list_all has_ended ls) all in
    and_from (has_ended (b ∷ l)) (list_all has_ended ls) (cons_ended b l parts.0) parts.1

all_ended : (body : List ℕ) → list_all has_ended (lines_of (body ++ 10 ∷ [])) ≡ true
all_ended [] = ap (list_all has_ended) (alone 10)
all_ended (b ∷ body) =
    let behind = body ++ 10 ∷ [] in
    elim (cases_Bool (eqb b 10)) [
      | inl feed ↦
          ap (list_all has_ended) (fed b behind feed)
          ∙ and_from (has_ended (b ∷ [])) (list_all has_ended (lines_of behind)) (and_from (ltb 0 (length (b ∷ []))) _ refl feed) (all_ended body)
      | inr other ↦ ap (list_all has_ended) (unfed b behind other) ∙ all_onto b (lines_of behind) (some_line body) (all_ended body)
    ]

kept_all : (ls : List (List ℕ)) → list_all has_ended ls ≡ true → filter has_ended ls ≡ ls
kept_all [] all = refl
kept_all (l ∷ ls) all =
    let parts = and_parts (has_ended l) (list_all has_ended ls) all in
    ap (λ t. cond t (l ∷ filter has_ended ls) (filter has_ended ls)) parts.0 ∙ ap (λ (rest : List (List ℕ)). l ∷ rest) (kept_all ls parts.1)

-- Bytes in two parts: the first is empty or ends with a line feed, and the second has none.

abbrev Stops : List ℕ → Type 0
Stops front = (front ≡ []) ⊎ ((body : List ℕ) × (front ≡ body ++ 10 ∷ []))

record IsCut (bytes front part : List ℕ) : Type 0 where
  joined : bytes ≡ front ++ part
  stops : Stops front
  free : IsFree part

-- all bytes can be cut so
record Cut (bytes : List ℕ) : Type 0 where
  front : List ℕ
  part : List ℕ
  cut : IsCut bytes front part

cut_of : (bytes : List ℕ) → Cut bytes
cut_of [] = record { front = []; part = []; cut = record { joined = refl; stops = inl refl; free = All-nil (λ b. eqb b 10 ≡ false) } }
cut_of (b ∷ bs) =
    elim (cases_Bool (eqb b 10)) [
      | inl feed ↦ ended feed (cut_of bs)
      | inr other ↦ by_stop other (cut_of bs)
    ]
  where
    longer : (c : Cut bs) → Stops (b ∷ c.front) → Cut (b ∷ bs)
    longer c stops = record { front = b ∷ c.front; part = c.part; cut = record { joined = ap (λ (xs : List ℕ). b ∷ xs) c.cut.joined; stops = stops; free = c.cut.free } }

    ended : eqb b 10 ≡ true → Cut bs → Cut (b ∷ bs)
    ended feed c = longer c (stop c.cut.stops)
      where
        stop : Stops c.front → Stops (b ∷ c.front)
        stop (inl none) = inr ([], ap (λ (front : List ℕ). b ∷ front) none ∙ ap (λ n. n ∷ []) (eqb-true b 10 feed))
        stop (inr body) = inr (b ∷ body.0, ap (λ (front : List ℕ). b ∷ front) body.1)

    by_stop : eqb b 10 ≡ false → Cut bs → Cut (b ∷ bs)
    by_stop other c = choose c.cut.stops
      where
        choose : Stops c.front → Cut (b ∷ bs)
        choose (inl none) =
            record {
              front = [];
              part = b ∷ c.part;
              cut = record {
                joined = ap (λ (xs : List ℕ). b ∷ xs) (c.cut.joined ∙ ap (λ (front : List ℕ). front ++ c.part) none);
                stops = inl refl;
                free = All-cons (λ b. eqb b 10 ≡ false) b c.part other c.cut.free;
              };
            }
        choose (inr body) = longer c (inr (b ∷ body.0, ap (λ (front : List ℕ). b ∷ front) body.1))

-- what is cut so is the lines that have ended and the line that has begun

stopped_lines : (front more : List ℕ) → Stops front → lines_of (front ++ more) ≡ lines_of front ++ lines_of more
stopped_lines front more (inl none) = ap (λ (f : List ℕ). lines_of (f ++ more)) none ∙ ap (λ ls. ls ++ lines_of more) (sym (lines_of_empty [] refl) ∙ ap lines_of (sym none))
stopped_lines front more (inr body) = ap (λ (f : List ℕ). lines_of (f ++ more)) body.1 ∙ lines_behind_feed body.0 more ∙ ap (λ (f : List ℕ). lines_of f ++ lines_of more) (sym body.1)

stopped_ended : (front : List ℕ) → Stops front → filter has_ended (lines_of front) ≡ lines_of front
stopped_ended front (inl none) = ap (λ (f : List ℕ). filter has_ended (lines_of f)) none ∙ ap (filter has_ended) (lines_of_empty [] refl) ∙ sym (lines_of_empty [] refl) ∙ ap lines_of (sym none)
stopped_ended front (inr body) = kept_all (lines_of front) (ap (λ (f : List ℕ). list_all has_ended (lines_of f)) body.1 ∙ all_ended body.0)

free_ended : (part : List ℕ) → IsFree part → filter has_ended (lines_of part) ≡ []
free_ended [] free = ap (filter has_ended) (lines_of_empty [] refl)
free_ended (b ∷ bs) free =
    ap (filter has_ended) (lines_of_rest (b ∷ bs) (omega arith) (λ k below. free k 0 below)) ∙ ap (λ t. cond t ((b ∷ bs) ∷ []) []) (free_unended (b ∷ bs) free)

-- the last byte of the first part is a line feed
last_feed : (front part : List ℕ) → Stops front → 0 < length front → eqb (get_or (front ++ part) (length front - 1) 0) 10 ≡ true
last_feed front part (inl none) some = absurd (omega (arith, ap length none))
last_feed front part (inr body) some =
    let long : length front ≡ length body.0 + 1 = ap length body.1 ∙ length_push body.0 10 in
    ap (λ b. eqb b 10)
    (get_or_append_left front part 0 (length front - 1) (omega arith)
    ∙ ap (λ (f : List ℕ). get_or f (length front - 1) 0) body.1
    ∙ get_or_at body.0 10 [] 0 (length front - 1) (omega arith))

module _ (bytes front part : List ℕ) (cut : IsCut bytes front part) where
  begun_is : begun_line bytes ≡ part
  unfolding begun_line
  begun_is =
      let other : ℕ → Bool = λ b. not (eqb b 10) in
      let long : length bytes ≡ length front + length part = ap length cut.joined ∙ length-append front part in
      let same : suffix_len other bytes ≡ length bytes - length front =
      suffix_len_is other bytes (length front) 0 (omega arith)
      (λ k from below. not_from_false _ (ap (λ (xs : List ℕ). eqb (get_or xs k 0) 10) cut.joined ∙ ap (λ b. eqb b 10) (get_or-append_right front part (length front) k 0 refl from) ∙ cut.free (k - length front) 0 (omega arith)))
      (λ some. not_from_true _ (ap (λ (xs : List ℕ). eqb (get_or xs (length front - 1) 0) 10) cut.joined ∙ last_feed front part cut.stops some)) in
      let at : length bytes - suffix_len other bytes ≡ length front = omega arith in
      ap (λ n. drop n bytes) at ∙ ap (drop (length front)) cut.joined ∙ drop_at front part (length front) refl

  ended_is : ended_lines bytes ≡ lines_of front
  unfolding ended_lines
  ended_is =
      ap (λ (xs : List ℕ). filter has_ended (lines_of xs)) cut.joined
      ∙ ap (filter has_ended) (stopped_lines front part cut.stops)
      ∙ filter-append has_ended (lines_of front) (lines_of part)
      ∙ ap (λ ls. filter has_ended (lines_of front) ++ ls) (free_ended part cut.free)
      ∙ append-nil (filter has_ended (lines_of front))
      ∙ stopped_ended front cut.stops

-- What follows goes behind the line that has begun.

pub begun_free : (bytes : List ℕ) → IsFree (begun_line bytes)
begun_free bytes = let c = cut_of bytes in subst IsFree (sym (begun_is bytes c.front c.part c.cut)) c.cut.free

pub lines_on : (bytes more : List ℕ) → lines_of (bytes ++ more) ≡ ended_lines bytes ++ lines_of (begun_line bytes ++ more)
lines_on bytes more =
    let c = cut_of bytes in
    ap (λ (xs : List ℕ). lines_of (xs ++ more)) c.cut.joined
    ∙ ap lines_of (append_assoc c.front c.part more)
    ∙ stopped_lines c.front (c.part ++ more) c.cut.stops
    ∙ (λ i. sym (ended_is bytes c.front c.part c.cut) i ++ lines_of (sym (begun_is bytes c.front c.part c.cut) i ++ more))

pub lines_here : (bytes : List ℕ) → lines_of bytes ≡ ended_lines bytes ++ lines_of (begun_line bytes)
lines_here bytes =
    ap lines_of (sym (append-nil bytes)) ∙ lines_on bytes [] ∙ ap (λ (xs : List ℕ). ended_lines bytes ++ lines_of xs) (append-nil (begun_line bytes))

-- all bytes are counted
pub counted_bytes : (bytes : List ℕ) → sum_by length (ended_lines bytes) + length (begun_line bytes) ≡ length bytes
counted_bytes bytes =
    let whole : bytes ≡ concat (ended_lines bytes) ++ begun_line bytes =
    sym (joined_lines bytes)
    ∙ ap concat (lines_here bytes)
    ∙ concat-append (ended_lines bytes) (lines_of (begun_line bytes))
    ∙ ap (λ (rest : List ℕ). concat (ended_lines bytes) ++ rest) (joined_lines (begun_line bytes)) in
    let size : length (concat (ended_lines bytes)) ≡ sum_by length (ended_lines bytes) = ap length (concat_is (ended_lines bytes)) ∙ length-flat_map (λ (line : List ℕ). line) (ended_lines bytes) in
    ap (λ n. n + length (begun_line bytes)) (sym size) ∙ sym (length-append (concat (ended_lines bytes)) (begun_line bytes)) ∙ ap length (sym whole)

-- a part that goes on
pub part_on : (bytes part : List ℕ) → lines_of part ≡ part ∷ [] → has_ended part ≡ false → (ended_lines (bytes ++ part) ≡ ended_lines bytes) × (begun_line (bytes ++ part) ≡ begun_line bytes ++ part)
part_on bytes part one unended =
    let c = cut_of bytes in
    let free : IsFree part = of_shape (shape_of part one) in
    let more : IsCut (bytes ++ part) c.front (c.part ++ part) =
    record {
      joined = ap (λ (xs : List ℕ). xs ++ part) c.cut.joined ∙ append_assoc c.front c.part part;
      stops = c.cut.stops;
      free = All-append (λ b. eqb b 10 ≡ false) c.part part c.cut.free free;
    } in (
      ended_is (bytes ++ part) c.front (c.part ++ part) more ∙ sym (ended_is bytes c.front c.part c.cut),
      begun_is (bytes ++ part) c.front (c.part ++ part) more ∙ ap (λ (xs : List ℕ). xs ++ part) (sym (begun_is bytes c.front c.part c.cut)),
    )
  where
    of_shape : Shape part → IsFree part
    of_shape (inl free) = free
    of_shape (inr ended) = absurd (false≢true (sym unended ∙ ap has_ended ended.2 ∙ feed_ended ended.0))

-- a part that ends the line
pub line_on : (bytes part : List ℕ) → lines_of part ≡ part ∷ [] → has_ended part ≡ true → (ended_lines (bytes ++ part) ≡ ended_lines bytes ++ (begun_line bytes ++ part) ∷ []) × (begun_line (bytes ++ part) ≡ [])
line_on bytes part one ended =
    let c = cut_of bytes in
    let shape = of_shape (shape_of part one) in
    let body = (c.front ++ c.part) ++ shape.0 in
    let whole : bytes ++ part ≡ body ++ 10 ∷ [] = ap (λ (xs : List ℕ). xs ++ part) c.cut.joined ∙ ap (λ (xs : List ℕ). (c.front ++ c.part) ++ xs) shape.2 ∙ sym (append_assoc (c.front ++ c.part) shape.0 (10 ∷ [])) in
    let more : IsCut (bytes ++ part) (bytes ++ part) [] = record { joined = sym (append-nil (bytes ++ part)); stops = inr (body, whole); free = All-nil (λ b. eqb b 10 ≡ false) } in
    let line = c.part ++ part in
    let ends : line ≡ (c.part ++ shape.0) ++ 10 ∷ [] = ap (λ (xs : List ℕ). c.part ++ xs) shape.2 ∙ sym (append_assoc c.part shape.0 (10 ∷ [])) in (
      ended_is (bytes ++ part) (bytes ++ part) [] more
          ∙ ap (λ (xs : List ℕ). lines_of (xs ++ part)) c.cut.joined
          ∙ ap lines_of (append_assoc c.front c.part part)
          ∙ stopped_lines c.front line c.cut.stops
          ∙ ap (λ ls. lines_of c.front ++ ls) (ap lines_of ends ∙ one_line (c.part ++ shape.0) (All-append (λ b. eqb b 10 ≡ false) c.part shape.0 c.cut.free shape.1) ∙ ap (λ (l : List ℕ). l ∷ []) (sym ends))
          ∙ (λ i. sym (ended_is bytes c.front c.part c.cut) i ++ (sym (begun_is bytes c.front c.part c.cut) i ++ part) ∷ []),
      begun_is (bytes ++ part) (bytes ++ part) [] more,
    )
  where
    of_shape : Shape part → (body : List ℕ) × IsFree body × (part ≡ body ++ 10 ∷ [])
    of_shape (inl free) = absurd (false≢true (sym (free_unended part free) ∙ ended))
    of_shape (inr ended) = ended

    one_line : (body : List ℕ) → IsFree body → lines_of (body ++ 10 ∷ []) ≡ (body ++ 10 ∷ []) ∷ []
    one_line [] free = alone 10
    one_line (b ∷ body) free =
        unfed b (body ++ 10 ∷ []) (free 0 0 (omega arith)) ∙ ap (onto_first b) (one_line body (λ k d below. free (suc k) d (omega arith)))
