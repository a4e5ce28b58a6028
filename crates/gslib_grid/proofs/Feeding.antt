-- What a reader stands behind, part after part of lines.
use Rattle.std.proofs.Common.{◌≡◌, ℕ, ◌+◌, ◌-◌, ◌^◌, ◌<◌, ◌≤◌, Bool, true, false, cond, ltb, List, [], ◌∷◌, ◌++◌, length, take, Option, Some, None, Result, Ok, Err, MatchOption, ◌⊎◌, inl, inr, refl, ap, sym, ◌∙◌, subst, arith, append_assoc}
use Rattle.std.specs.List.{sum_by}
use Rattle.std.specs.Option.{option_or, option_map_or}
use Rattle.std.specs.Result.{result_err}
use Rattle.std.proofs.lemmas.List.{append-nil, length-append, length-take}
use Rattle.std.proofs.lemmas.Bool.{cases_Bool, cond-false, cond-true, false≢true, le-ltb, lt-ltb, ltb-false, ltb-true, or_cases, or_left, or_parts, or_right}
use Rattle.mp_base.specs.declared.codes.Codes.{Codes}
use Rattle.mp_text.specs.Lines.{lines_of, without_line_feed}
use Rattle.mp_text.proofs.LineLemmas.{lines_of_empty, lines_of_rest}
use Rattle.gslib_grid.specs.Table.{Front, Tells, ended, first_fault, front_of, is_too_long, judged, result_map, rows_in, table_of, wanted_of}
use Rattle.gslib_grid.specs.Steps.{with_line}
use Rattle.gslib_grid.specs.Reader.{Reading, StandsBehind, Takes, TellsWith, WasFed, begun_line, ended_lines, fault_so_far, has_ended, long_fault, told_so_far, with_part}
use Rattle.gslib_grid.specs.declared.want.Want.{Want}
use Rattle.gslib_grid.specs.declared.want.Wanted.{Wanted}
use Rattle.gslib_grid.specs.declared.fault.TableError.{TableError}
use Rattle.gslib_grid.specs.declared.fault.TableError.TheVariants as errors
use Rattle.gslib_grid.specs.declared.fault.TableFault.{TableFault}
use Rattle.gslib_grid.specs.declared.fault.TableFault.TheVariants.{TooLong}
use Rattle.gslib_grid.proofs.Cuts.{alone, begun_free, counted_bytes, cut_first, first_alone, free_unended, IsFree, line_on, lines_here, no_lines, part_on}
use Rattle.gslib_grid.proofs.Faults.{few_bytes, first_append, first_one}
use Rattle.gslib_grid.proofs.Fronts.{HasRead, all_read, fault_of, front_of_push, more_read, none_of, tells_read}
use Rattle.gslib_grid.proofs.Judging.{with_line_long}

-- Of two faults the first.

neither : (a b : Option TableFault) → option_or a b ≡ None → (a ≡ None) × (b ≡ None)
neither None b none = (refl, none)
neither (Some fault) b none = absurd (cc none)

none_long : (t : Bool) (fault : TableFault) → cond t (Some fault) None ≡ None → t ≡ false
none_long true fault none = absurd (cc none)
none_long false fault none = refl

-- A line that is too long stays so.

size_without : (line : List ℕ) (t : Bool) → has_ended line ≡ t → length (without_line_feed line) ≡ cond t (length line - 1) (length line)
size_without line true is = ap (λ t. length (cond t (take (length line - 1) line) line)) is ∙ omega (arith, length-take (length line - 1) line)
size_without line false is = ap (λ t. length (cond t (take (length line - 1) line) line)) is

without_more : (begun part : List ℕ) → 0 < length part → length begun ≤ length (without_line_feed (begun ++ part))
without_more begun part some =
    elim (cases_Bool (has_ended (begun ++ part))) [
      | inl is ↦ omega (arith, size_without (begun ++ part) true is, length-append begun part)
      | inr is ↦ omega (arith, size_without (begun ++ part) false is, length-append begun part)
    ]

long_more : (front : Front) (begun part : List ℕ) → IsFree begun → 0 < length part → is_too_long front begun ≡ true → is_too_long front (begun ++ part) ≡ true
long_more front begun part free some long =
    let all = length-append begun part in
    elim (or_cases (ltb 65536 (length (without_line_feed begun))) (ltb (2 ^ 28) (front.bytes + length begun)) long) [
      | inl over ↦
          let least = ltb-true 65536 (length (without_line_feed begun)) over in
          let size = size_without begun false (free_unended begun free) in
          or_left (ltb 65536 (length (without_line_feed (begun ++ part)))) _ (lt-ltb 65536 (length (without_line_feed (begun ++ part))) (omega (arith, without_more begun part some)))
      | inr over ↦
          let least = ltb-true (2 ^ 28) (front.bytes + length begun) over in
          or_right (ltb 65536 (length (without_line_feed (begun ++ part)))) _ (lt-ltb (2 ^ 28) (front.bytes + length (begun ++ part)) (omega arith))
    ]

-- nothing is no line that is too long
long_nothing : (front : Front) → front.bytes ≤ 2 ^ 28 → is_too_long front [] ≡ false
long_nothing front few = le-ltb (2 ^ 28) (front.bytes + 0) (omega arith)

-- that a line is too long, and that it isn't
is_long : (front : Front) (line : List ℕ) (fault : TableFault) → long_fault front line ≡ Some fault → (is_too_long front line ≡ true) × (TooLong (front.lines + 1) ≡ fault)
is_long front line fault is = by (is_too_long front line) refl is
  where
    by : (t : Bool) → is_too_long front line ≡ t → cond t (Some (TooLong (front.lines + 1))) None ≡ Some fault → (is_too_long front line ≡ true) × (TooLong (front.lines + 1) ≡ fault)
    by true long same = (long, cc same)
    by false short same = absurd (cc same)

long_judged : (wanted : Wanted) (codes : Codes) (front : Front) (line : List ℕ) → is_too_long front line ≡ true → result_err (judged wanted codes front line) ≡ Some (TooLong (front.lines + 1))
unfolding judged
long_judged wanted codes front line long = ap result_err (cond-true (is_too_long front line) (Err (TooLong (front.lines + 1))) _ long)

-- one line has a byte
some_byte : (part : List ℕ) → lines_of part ≡ part ∷ [] → 0 < length part
some_byte [] one = absurd (cc (sym (lines_of_empty [] refl) ∙ one))
some_byte (b ∷ bs) one = omega arith

module _ (want : Want) (codes : Codes) where
  abbrev wanted : Wanted
  wanted = wanted_of want

  -- the first fault of the lines that have ended
  abbrev ended_fault : List ℕ → Option TableFault
  ended_fault bytes = first_fault wanted codes [] (ended_lines bytes)

  abbrev front_at : List ℕ → Front
  front_at bytes = front_of wanted codes (ended_lines bytes)

  so_far : (bytes : List ℕ) → fault_so_far want codes bytes ≡ option_or (ended_fault bytes) (long_fault (front_at bytes) (begun_line bytes))
  unfolding fault_so_far
  so_far bytes = refl

  -- The faults with a part more.

  -- where it ends a line
  line_fault : (bytes part : List ℕ) → lines_of part ≡ part ∷ [] → has_ended part ≡ true → ended_fault (bytes ++ part) ≡ option_or (ended_fault bytes) (result_err (judged wanted codes (front_at bytes) (begun_line bytes ++ part)))
  line_fault bytes part one is =
      ap (first_fault wanted codes []) (line_on bytes part one is).0
      ∙ first_append wanted codes [] (ended_lines bytes) ((begun_line bytes ++ part) ∷ [])
      ∙ ap (option_or (ended_fault bytes)) (first_one wanted codes (ended_lines bytes) (begun_line bytes ++ part) _ refl)

  -- and where it doesn't
  part_fault : (bytes part : List ℕ) → lines_of part ≡ part ∷ [] → has_ended part ≡ false → fault_so_far want codes (bytes ++ part) ≡ option_or (ended_fault bytes) (long_fault (front_at bytes) (begun_line bytes ++ part))
  part_fault bytes part one isnt =
      let same = part_on bytes part one isnt in
      so_far (bytes ++ part) ∙ (λ i. option_or (first_fault wanted codes [] (same.0 i)) (long_fault (front_of wanted codes (same.0 i)) (same.1 i)))

  -- no line has begun behind lines without a fault
  line_free : (bytes part : List ℕ) → lines_of part ≡ part ∷ [] → has_ended part ≡ true → ended_fault (bytes ++ part) ≡ None → fault_so_far want codes (bytes ++ part) ≡ None
  line_free bytes part one is none =
      let all = bytes ++ part in
      let few : sum_by length (ended_lines all) ≤ 2 ^ 28 = few_bytes wanted codes [] (ended_lines all) none (omega arith) in
      so_far all
      ∙ ap (λ o. option_or o (long_fault (front_at all) (begun_line all))) none
      ∙ ap (long_fault (front_at all)) (line_on bytes part one is).1
      ∙ cond-false (is_too_long (front_at all) []) (Some (TooLong ((front_at all).lines + 1))) None (long_nothing (front_at all) few)

  -- the faults that are told stay told

  ended_stays : (bytes part : List ℕ) (fault : TableFault) → lines_of part ≡ part ∷ [] → ended_fault bytes ≡ Some fault → fault_so_far want codes (bytes ++ part) ≡ Some fault
  ended_stays bytes part fault one is = by (has_ended part) refl
    where
      by : (t : Bool) → has_ended part ≡ t → fault_so_far want codes (bytes ++ part) ≡ Some fault
      by true ends =
          so_far (bytes ++ part)
          ∙ ap (λ o. option_or o (long_fault (front_at (bytes ++ part)) (begun_line (bytes ++ part))))
          (line_fault bytes part one ends ∙ ap (λ o. option_or o (result_err (judged wanted codes (front_at bytes) (begun_line bytes ++ part)))) is)
      by false on = part_fault bytes part one on ∙ ap (λ o. option_or o (long_fault (front_at bytes) (begun_line bytes ++ part))) is

  long_stays : (bytes part : List ℕ) → lines_of part ≡ part ∷ [] → ended_fault bytes ≡ None → is_too_long (front_at bytes) (begun_line bytes) ≡ true → fault_so_far want codes (bytes ++ part) ≡ Some (TooLong ((front_at bytes).lines + 1))
  long_stays bytes part one none long = by (has_ended part) refl
    where
      fault : Option TableFault
      fault = Some (TooLong ((front_at bytes).lines + 1))

      more : is_too_long (front_at bytes) (begun_line bytes ++ part) ≡ true
      more = long_more (front_at bytes) (begun_line bytes) part (begun_free bytes) (some_byte part one) long

      by : (t : Bool) → has_ended part ≡ t → fault_so_far want codes (bytes ++ part) ≡ fault
      by true ends =
          so_far (bytes ++ part)
          ∙ ap (λ o. option_or o (long_fault (front_at (bytes ++ part)) (begun_line (bytes ++ part))))
          (line_fault bytes part one ends ∙ (λ i. option_or (none i) (long_judged wanted codes (front_at bytes) (begun_line bytes ++ part) more i)))
      by false on = part_fault bytes part one on ∙ (λ i. option_or (none i) (cond-true (is_too_long (front_at bytes) (begun_line bytes ++ part)) fault None more i))

  -- which of the two it is
  told_by : (bytes : List ℕ) (fault : TableFault) → fault_so_far want codes bytes ≡ Some fault
      → (P : Type 0) → (ended_fault bytes ≡ Some fault → P) → (ended_fault bytes ≡ None → is_too_long (front_at bytes) (begun_line bytes) ≡ true → TooLong ((front_at bytes).lines + 1) ≡ fault → P) → P
  told_by bytes fault is P first second = by (ended_fault bytes) refl (sym (so_far bytes) ∙ is)
    where
      by : (o : Option TableFault) → ended_fault bytes ≡ o → option_or o (long_fault (front_at bytes) (begun_line bytes)) ≡ Some fault → P
      by (Some other) here same = first (here ∙ same)
      by None none same = let long = is_long (front_at bytes) (begun_line bytes) fault same in second none long.0 long.1

  stays : (bytes part : List ℕ) (fault : TableFault) → lines_of part ≡ part ∷ [] → fault_so_far want codes bytes ≡ Some fault → fault_so_far want codes (bytes ++ part) ≡ Some fault
  stays bytes part fault one is =
      told_by bytes fault is (fault_so_far want codes (bytes ++ part) ≡ Some fault)
      (ended_stays bytes part fault one)
      (λ none long same. long_stays bytes part one none long ∙ ap Some same)

  pub stays_told : (bytes more : List ℕ) (fault : TableFault) → fault_so_far want codes bytes ≡ Some fault → fault_so_far want codes (bytes ++ more) ≡ Some fault
  stays_told bytes [] fault is = ap (fault_so_far want codes) (append-nil bytes) ∙ is
  stays_told bytes (b ∷ more) fault is = ap (fault_so_far want codes) (sym (append_assoc bytes (b ∷ []) more)) ∙ stays_told (bytes ++ b ∷ []) more fault (stays bytes (b ∷ []) fault (alone b) is)

  -- and they decide over the table
  pub fault_decides : (bytes : List ℕ) (fault : TableFault) → fault_so_far want codes bytes ≡ Some fault → table_of want codes bytes ≡ Err fault
  unfolding table_of
  fault_decides bytes fault is = ap (λ told. option_map_or Err told (ended wanted (front_of wanted codes (lines_of bytes)))) (told_by bytes fault is (first_fault wanted codes [] (lines_of bytes) ≡ Some fault) first second)
    where
      all : first_fault wanted codes [] (lines_of bytes) ≡ option_or (ended_fault bytes) (first_fault wanted codes (ended_lines bytes) (lines_of (begun_line bytes)))
      all = ap (first_fault wanted codes []) (lines_here bytes) ∙ first_append wanted codes [] (ended_lines bytes) (lines_of (begun_line bytes))

      first : ended_fault bytes ≡ Some fault → first_fault wanted codes [] (lines_of bytes) ≡ Some fault
      first here = all ∙ ap (λ o. option_or o (first_fault wanted codes (ended_lines bytes) (lines_of (begun_line bytes)))) here

      second : ended_fault bytes ≡ None → is_too_long (front_at bytes) (begun_line bytes) ≡ true → TooLong ((front_at bytes).lines + 1) ≡ fault → first_fault wanted codes [] (lines_of bytes) ≡ Some fault
      second none long same =
          let few : sum_by length (ended_lines bytes) ≤ 2 ^ 28 = few_bytes wanted codes [] (ended_lines bytes) none (omega arith) in
          all
          ∙ ap (λ o. option_or o (first_fault wanted codes (ended_lines bytes) (lines_of (begun_line bytes)))) none
          ∙ ap (first_fault wanted codes (ended_lines bytes)) (lines_of_rest (begun_line bytes) (some few long) (λ k below. begun_free bytes k 0 below))
          ∙ first_one wanted codes (ended_lines bytes) (begun_line bytes) (Some fault) (long_judged wanted codes (front_at bytes) (begun_line bytes) long ∙ ap Some same)
        where
          some : (front_at bytes).bytes ≤ 2 ^ 28 → is_too_long (front_at bytes) (begun_line bytes) ≡ true → 0 < length (begun_line bytes)
          some few long = by (begun_line bytes) long
            where
              by : (line : List ℕ) → is_too_long (front_at bytes) line ≡ true → 0 < length line
              by [] over = absurd (false≢true (sym (long_nothing (front_at bytes) few) ∙ over))
              by (b ∷ bs) over = omega arith

  -- What the reader stands behind.

  none_so_far : (bytes : List ℕ) → fault_so_far want codes bytes ≡ None → ended_fault bytes ≡ None
  none_so_far bytes none = (neither (ended_fault bytes) (long_fault (front_at bytes) (begun_line bytes)) (sym (so_far bytes) ∙ none)).0

  pub stands_first : (reader : Reading) → reader.wanted ≡ wanted → reader.codes ≡ codes → reader.front ≡ record { lines = 0; bytes = 0; variables = 0; rows = [] } → reader.begun ≡ [] → StandsBehind want codes reader []
  unfolding fault_so_far ended_lines begun_line lines_of first_fault rows_in
  stands_first reader asked listed front begun = record { wanted = asked; listed = listed; no_fault = refl; front = front; begun = begun }

  module _ (reader : Reading) (bytes part : List ℕ) (stands : StandsBehind want codes reader bytes) (one : lines_of part ≡ part ∷ []) where
    -- what is told of the line
    told_line : Result Front TableFault
    told_line = with_line reader.wanted reader.codes reader.front (reader.begun ++ part)

    line_told : with_line wanted codes (front_at bytes) (begun_line bytes ++ part) ≡ with_line reader.wanted reader.codes reader.front (reader.begun ++ part)
    line_told = λ i. with_line (sym stands.wanted i) (sym stands.listed i) (sym stands.front i) (sym stands.begun i ++ part)

    long_told : long_fault (front_at bytes) (begun_line bytes ++ part) ≡ long_fault reader.front (reader.begun ++ part)
    long_told = λ i. long_fault (sym stands.front i) (sym stands.begun i ++ part)

    line_taken : (front : Front) → has_ended part ≡ true → with_line reader.wanted reader.codes reader.front (reader.begun ++ part) ≡ Ok front → StandsBehind want codes (record reader { front = front; begun = [] }) (bytes ++ part)
    line_taken front is told =
        let here : with_line wanted codes (front_at bytes) (begun_line bytes ++ part) ≡ Ok front = line_told ∙ told in
        let on = line_on bytes part one is in
        record {
          wanted = stands.wanted;
          listed = stands.listed;
          no_fault =
              line_free bytes part one is
              (line_fault bytes part one is
              ∙ (λ i. option_or (none_so_far bytes stands.no_fault i) (none_of wanted codes (front_at bytes) front (begun_line bytes ++ part) here i)));
          front = front_of_push wanted codes (ended_lines bytes) (begun_line bytes ++ part) front here ∙ ap (front_of wanted codes) (sym on.0);
          begun = sym on.1;
        }

    part_taken : has_ended part ≡ false → long_fault reader.front (reader.begun ++ part) ≡ None → StandsBehind want codes (record reader { begun = reader.begun ++ part }) (bytes ++ part)
    part_taken isnt short =
        let on = part_on bytes part one isnt in
        record {
          wanted = stands.wanted;
          listed = stands.listed;
          no_fault = part_fault bytes part one isnt ∙ (λ i. option_or (none_so_far bytes stands.no_fault i) ((long_told ∙ short) i));
          front = stands.front ∙ ap (front_of wanted codes) (sym on.0);
          begun = ap (λ (begun : List ℕ). begun ++ part) stands.begun ∙ sym on.1;
        }

    pub stands_on : (now : Reading) → with_part reader part ≡ Ok now → StandsBehind want codes now (bytes ++ part)
    stands_on now told =
        elim (cases_Bool (has_ended part)) [
          | inl is ↦ line_case is (with_line reader.wanted reader.codes reader.front (reader.begun ++ part)) refl (sym (cond-true (has_ended part) _ _ is) ∙ told)
          | inr isnt ↦ part_case isnt (long_fault reader.front (reader.begun ++ part)) refl (sym (cond-false (has_ended part) _ _ isnt) ∙ told)
        ]
      where
        line_case : has_ended part ≡ true → (told : Result Front TableFault) → with_line reader.wanted reader.codes reader.front (reader.begun ++ part) ≡ told → result_map (λ front. record reader { front = front; begun = [] }) told ≡ Ok now → StandsBehind want codes now (bytes ++ part)
        line_case is (Ok front) taken same = subst (λ (r : Reading). StandsBehind want codes r (bytes ++ part)) (cc same) (line_taken front is taken)
        line_case is (Err fault) refused same = absurd (cc same)

        part_case : has_ended part ≡ false → (told : Option TableFault) → long_fault reader.front (reader.begun ++ part) ≡ told → option_map_or Err told (Ok (record reader { begun = reader.begun ++ part })) ≡ Ok now → StandsBehind want codes now (bytes ++ part)
        part_case isnt None short same = subst (λ (r : Reading). StandsBehind want codes r (bytes ++ part)) (cc same) (part_taken isnt short)
        part_case isnt (Some fault) long same = absurd (cc same)

    pub fault_on : (fault : TableFault) → with_part reader part ≡ Err fault → fault_so_far want codes (bytes ++ part) ≡ Some fault
    fault_on fault told =
        elim (cases_Bool (has_ended part)) [
          | inl is ↦ line_case is (with_line reader.wanted reader.codes reader.front (reader.begun ++ part)) refl (sym (cond-true (has_ended part) _ _ is) ∙ told)
          | inr isnt ↦ part_case isnt (long_fault reader.front (reader.begun ++ part)) refl (sym (cond-false (has_ended part) _ _ isnt) ∙ told)
        ]
      where
        line_case : has_ended part ≡ true → (told : Result Front TableFault) → with_line reader.wanted reader.codes reader.front (reader.begun ++ part) ≡ told → result_map (λ front. record reader { front = front; begun = [] }) told ≡ Err fault → fault_so_far want codes (bytes ++ part) ≡ Some fault
        line_case is (Ok front) taken same = absurd (cc same)
        line_case is (Err other) refused same =
            let this : other ≡ fault = cc same in
            let here = fault_of wanted codes (front_at bytes) (begun_line bytes ++ part) other (line_told ∙ refused) in
            so_far (bytes ++ part)
            ∙ ap (λ o. option_or o (long_fault (front_at (bytes ++ part)) (begun_line (bytes ++ part))))
            (line_fault bytes part one is ∙ (λ i. option_or (none_so_far bytes stands.no_fault i) (here i)) ∙ ap Some this)

        part_case : has_ended part ≡ false → (told : Option TableFault) → long_fault reader.front (reader.begun ++ part) ≡ told → option_map_or Err told (Ok (record reader { begun = reader.begun ++ part })) ≡ Err fault → fault_so_far want codes (bytes ++ part) ≡ Some fault
        part_case isnt None short same = absurd (cc same)
        part_case isnt (Some other) long same =
            let this : other ≡ fault = cc same in
            part_fault bytes part one isnt ∙ (λ i. option_or (none_so_far bytes stands.no_fault i) ((long_told ∙ long ∙ ap Some this) i))

  -- bytes without a fault so far stay within the limit
  pub few_so_far : (bytes : List ℕ) → fault_so_far want codes bytes ≡ None → length bytes ≤ 2 ^ 28
  few_so_far bytes none =
      let short = none_long (is_too_long (front_at bytes) (begun_line bytes)) (TooLong ((front_at bytes).lines + 1)) (neither (ended_fault bytes) (long_fault (front_at bytes) (begun_line bytes)) (sym (so_far bytes) ∙ none)).1 in
      let few : sum_by length (ended_lines bytes) + length (begun_line bytes) ≤ 2 ^ 28 = ltb-false (2 ^ 28) (sum_by length (ended_lines bytes) + length (begun_line bytes)) (or_parts (ltb 65536 (length (without_line_feed (begun_line bytes)))) _ short).1 in
      omega (arith, counted_bytes bytes)

  -- how far the table was read: all lines that have ended
  pub has_read : (reader : Reading) (bytes : List ℕ) → StandsBehind want codes reader bytes → HasRead wanted codes bytes reader.front reader.begun
  has_read reader bytes stands =
      record {
        before = ended_lines bytes;
        together = stands.front;
        faults =
            ap (first_fault wanted codes []) (lines_here bytes)
            ∙ first_append wanted codes [] (ended_lines bytes) (lines_of (begun_line bytes))
            ∙ ap (λ o. option_or o (first_fault wanted codes (ended_lines bytes) (lines_of (begun_line bytes)))) (none_so_far bytes stands.no_fault)
            ∙ ap (λ (begun : List ℕ). first_fault wanted codes (ended_lines bytes) (lines_of begun)) (sym stands.begun);
        lines = lines_here bytes ∙ ap (λ (begun : List ℕ). ended_lines bytes ++ lines_of begun) (sym stands.begun);
      }

-- What the calls say.

-- a reader that told no error stands behind what it was fed
stands_of : (want : Want) (codes : Codes) (reader : Reading) (bytes : List ℕ) → reader.told ≡ None → WasFed want codes reader bytes → StandsBehind want codes reader bytes
stands_of want codes reader bytes untold fed = subst (λ (told : Option TableError). MatchOption told (StandsBehind want codes reader bytes) (λ error. Tells error (told_so_far want codes bytes))) untold fed

fed_of : (want : Want) (codes : Codes) (reader : Reading) (bytes : List ℕ) → reader.told ≡ None → StandsBehind want codes reader bytes → WasFed want codes reader bytes
fed_of want codes reader bytes untold stands = subst (λ (told : Option TableError). MatchOption told (StandsBehind want codes reader bytes) (λ error. Tells error (told_so_far want codes bytes))) (sym untold) stands

abbrev nothing : Result (Unit {0}) TableFault
nothing = Ok tt

-- what is told of a fault
tells_fault : (want : Want) (codes : Codes) (bytes : List ℕ) (fault : TableFault) → fault_so_far want codes bytes ≡ Some fault → told_so_far want codes bytes ≡ Err fault
tells_fault want codes bytes fault is = ap (λ o. option_map_or Err o nothing) is

fault_told : (want : Want) (codes : Codes) (bytes : List ℕ) (fault : TableFault) → told_so_far want codes bytes ≡ Err fault → fault_so_far want codes bytes ≡ Some fault
fault_told want codes bytes fault is = by (fault_so_far want codes bytes) is
  where
    by : (o : Option TableFault) → option_map_or Err o nothing ≡ Err fault → o ≡ Some fault
    by None same = absurd (cc same)
    by (Some other) same = ap Some (cc same)

-- a part was taken
takes_part : (before now : Reading) (part : List ℕ) → before.told ≡ None → now.told ≡ None → lines_of part ≡ part ∷ [] → with_part before part ≡ Ok now → Takes before now part
takes_part before now part untold still one taken want codes bytes fed = fed_of want codes now (bytes ++ part) still (stands_on want codes before bytes part (stands_of want codes before bytes untold fed) one now taken)

tells_part : (before : Reading) (part : List ℕ) (error : TableError) → before.told ≡ None → lines_of part ≡ part ∷ [] → Tells error (with_part before part) → TellsWith before part error
tells_part before part errors.NoMemory untold one told want codes bytes fed = tt
tells_part before part (errors.Fault fault) untold one told want codes bytes fed =
    tells_fault want codes (bytes ++ part) fault (fault_on want codes before bytes part (stands_of want codes before bytes untold fed) one fault told)

-- what is told stays told with more bytes
pub tells_on : (want : Want) (codes : Codes) (bytes more : List ℕ) (error : TableError) → Tells error (told_so_far want codes bytes) → Tells error (told_so_far want codes (bytes ++ more))
tells_on want codes bytes more errors.NoMemory told = tt
tells_on want codes bytes more (errors.Fault fault) told = tells_fault want codes (bytes ++ more) fault (stays_told want codes bytes more fault (fault_told want codes bytes fault told))

-- and is told of the table
pub tells_table : (want : Want) (codes : Codes) (bytes : List ℕ) (error : TableError) → Tells error (told_so_far want codes bytes) → Tells error (table_of want codes bytes)
tells_table want codes bytes errors.NoMemory told = tt
tells_table want codes bytes (errors.Fault fault) told = fault_decides want codes bytes fault (fault_told want codes bytes fault told)

-- After an error.

-- an error that was told
told_of : (want : Want) (codes : Codes) (reader : Reading) (bytes : List ℕ) (error : TableError) → reader.told ≡ Some error → WasFed want codes reader bytes → Tells error (told_so_far want codes bytes)
told_of want codes reader bytes error told fed = subst (λ (told : Option TableError). MatchOption told (StandsBehind want codes reader bytes) (λ error. Tells error (told_so_far want codes bytes))) told fed

-- it is told of all that follows
pub told_again : (want : Want) (codes : Codes) (reader : Reading) (bytes more : List ℕ) (error : TableError) → reader.told ≡ Some error → WasFed want codes reader bytes → Tells error (told_so_far want codes (bytes ++ more))
told_again want codes reader bytes more error told fed = tells_on want codes bytes more error (told_of want codes reader bytes error told fed)

pub fed_again : (want : Want) (codes : Codes) (reader : Reading) (bytes more : List ℕ) (error : TableError) → reader.told ≡ Some error → WasFed want codes reader bytes → WasFed want codes reader (bytes ++ more)
fed_again want codes reader bytes more error told fed =
    subst (λ (told : Option TableError). MatchOption told (StandsBehind want codes reader (bytes ++ more)) (λ error. Tells error (told_so_far want codes (bytes ++ more)))) (sym told) (told_again want codes reader bytes more error told fed)

-- How far a piece was taken.
pub record HasTaken (before now : Reading) (piece rest : List ℕ) : Type 0 where
  pub done : List ℕ
  pub cut : piece ≡ done ++ rest
  pub taken : Takes before now done

pub taken_none : (reader : Reading) (piece : List ℕ) → HasTaken reader reader piece piece
taken_none reader piece =
    record { done = []; cut = refl; taken = λ want codes bytes fed. subst (WasFed want codes reader) (sym (append-nil bytes)) fed }

-- one part more
pub taken_more : (first before now : Reading) (piece rest part behind : List ℕ) → HasTaken first before piece rest → lines_of rest ≡ part ∷ lines_of behind → before.told ≡ None → now.told ≡ None → with_part before part ≡ Ok now → HasTaken first now piece behind
taken_more first before now piece rest part behind far cut untold still taken =
    record {
      done = far.done ++ part;
      cut = far.cut ∙ ap (λ (rest : List ℕ). far.done ++ rest) (cut_first rest part behind cut) ∙ sym (append_assoc far.done part behind);
      taken = λ want codes bytes fed.
          subst (WasFed want codes now) (append_assoc bytes far.done part)
          (takes_part before now part untold still (first_alone rest part (lines_of behind) cut) taken want codes (bytes ++ far.done) (far.taken want codes bytes fed));
    }

-- a part that brings an error
pub taken_error : (first before : Reading) (piece rest part behind : List ℕ) (error : TableError) → HasTaken first before piece rest → lines_of rest ≡ part ∷ lines_of behind → before.told ≡ None → Tells error (with_part before part) → TellsWith first piece error
taken_error first before piece rest part behind error far cut untold told want codes bytes fed =
    let here = tells_part before part error untold (first_alone rest part (lines_of behind) cut) told want codes (bytes ++ far.done) (far.taken want codes bytes fed) in
    let whole : ((bytes ++ far.done) ++ part) ++ behind ≡ bytes ++ piece =
    append_assoc (bytes ++ far.done) part behind
    ∙ append_assoc bytes far.done (part ++ behind)
    ∙ ap (λ (rest : List ℕ). bytes ++ (far.done ++ rest)) (sym (cut_first rest part behind cut))
    ∙ ap (λ (all : List ℕ). bytes ++ all) (sym far.cut) in
    subst (λ (all : List ℕ). Tells error (told_so_far want codes all)) whole (tells_on want codes ((bytes ++ far.done) ++ part) behind error here)

-- all parts
pub taken_all : (first now : Reading) (piece rest : List ℕ) → HasTaken first now piece rest → lines_of rest ≡ [] → Takes first now piece
taken_all first now piece rest far over want codes bytes fed =
    let all : far.done ≡ piece = sym (far.cut ∙ ap (λ (rest : List ℕ). far.done ++ rest) (no_lines rest over) ∙ append-nil far.done) in
    subst (λ (done : List ℕ). WasFed want codes now (bytes ++ done)) all (far.taken want codes bytes fed)

-- A part of a line that is too long already.
pub part_long : (reader : Reading) (part : List ℕ) (fault : TableFault) → long_fault reader.front (reader.begun ++ part) ≡ Some fault → with_part reader part ≡ Err fault
part_long reader part fault told =
    elim (cases_Bool (has_ended part)) [
      | inl is ↦
          cond-true (has_ended part) _ _ is
          ∙ ap (result_map (λ front. record reader { front = front; begun = [] })) (with_line_long reader.wanted reader.codes reader.front (reader.begun ++ part) long.0 ∙ ap Err long.1)
      | inr isnt ↦ cond-false (has_ended part) _ _ isnt ∙ ap (λ o. option_map_or Err o (Ok (record reader { begun = reader.begun ++ part }))) told
    ]
  where
    long : (is_too_long reader.front (reader.begun ++ part) ≡ true) × (TooLong (reader.front.lines + 1) ≡ fault)
    long = is_long reader.front (reader.begun ++ part) fault told

-- At the end.

-- an error that was told is told of the table
pub told_before : (want : Want) (codes : Codes) (reader : Reading) (bytes : List ℕ) (error : TableError) → reader.told ≡ Some error → WasFed want codes reader bytes → Tells error (table_of want codes bytes)
told_before want codes reader bytes error told fed = tells_table want codes bytes error (told_of want codes reader bytes error told fed)

-- this is the front with the line that has begun, if one has
abbrev pub IsLast : Wanted → Codes → Front → List ℕ → Front → Type 0
IsLast wanted codes before begun front = ((begun ≡ []) × (front ≡ before)) ⊎ ((0 < length begun) × (with_line wanted codes before begun ≡ Ok front))

module _ (want : Want) (codes : Codes) (reader : Reading) (bytes : List ℕ) (untold : reader.told ≡ None) (fed : WasFed want codes reader bytes) where
  abbrev stands : StandsBehind want codes reader bytes
  stands = stands_of want codes reader bytes untold fed

  abbrev read : HasRead (wanted_of want) codes bytes reader.front reader.begun
  read = has_read want codes reader bytes stands

  -- the line that has begun is the last
  last_line : 0 < length reader.begun → lines_of reader.begun ≡ reader.begun ∷ lines_of []
  last_line some =
      let free = subst IsFree (sym stands.begun) (begun_free bytes) in
      lines_of_rest reader.begun some (λ k below. free k 0 below) ∙ ap (λ (ls : List (List ℕ)). reader.begun ∷ ls) (sym (lines_of_empty [] refl))

  same_line : with_line (wanted_of want) codes reader.front reader.begun ≡ with_line reader.wanted reader.codes reader.front reader.begun
  same_line = λ i. with_line (sym stands.wanted i) (sym stands.listed i) reader.front reader.begun

  -- its fault is the table's
  pub last_told : (error : TableError) → 0 < length reader.begun → Tells error (with_line reader.wanted reader.codes reader.front reader.begun) → Tells error (table_of want codes bytes)
  last_told error some told = tells_read want codes bytes reader.begun [] reader.begun reader.front error read (last_line some) (subst (Tells error) (sym same_line) told)

  -- the table of all lines
  pub last_taken : (front : Front) → IsLast reader.wanted reader.codes reader.front reader.begun front → table_of want codes bytes ≡ ended reader.wanted front
  last_taken front (inl (none, same)) =
      all_read want codes bytes reader.begun reader.front read (ap lines_of none ∙ lines_of_empty [] refl) ∙ (λ i. ended (sym stands.wanted i) (sym same i))
  last_taken front (inr (some, taken)) =
      all_read want codes bytes [] front (more_read (wanted_of want) codes bytes reader.begun [] reader.begun reader.front front read (last_line some) (same_line ∙ taken)) (lines_of_empty [] refl)
      ∙ (λ i. ended (sym stands.wanted i) front)
