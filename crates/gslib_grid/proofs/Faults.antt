-- The first fault of lines: of lines behind lines, and of one line more.
use Rattle.std.proofs.Common.{◌≡◌, ℕ, ◌+◌, ◌^◌, ◌≤◌, ltb, List, [], ◌∷◌, ◌++◌, length, Option, Some, None, Result, Ok, Err, refl, ap, sym, ◌∙◌, subst, arith, append_assoc}
use Rattle.std.specs.List.{sum_by}
use Rattle.std.specs.Option.{option_or}
use Rattle.std.specs.Result.{result_err}
use Rattle.std.proofs.lemmas.List.{append-nil}
use Rattle.std.proofs.lemmas.List.Sums.{sum_by_push}
use Rattle.std.proofs.lemmas.Bool.{ltb-false, or_parts}
use Rattle.mp_base.specs.declared.codes.Codes.{Codes}
use Rattle.mp_text.specs.Lines.{without_line_feed}
use Rattle.gslib_grid.specs.Table.{Added, first_fault, front_of, is_too_long, judged}
use Rattle.gslib_grid.specs.declared.want.Wanted.{Wanted}
use Rattle.gslib_grid.specs.declared.fault.TableFault.{TableFault}
use Rattle.gslib_grid.specs.declared.fault.TableFault.TheVariants.{TooLong}
use Rattle.gslib_grid.proofs.Fronts.{passed}

first_of_three : (a b c : Option TableFault) → option_or a (option_or b c) ≡ option_or (option_or a b) c
first_of_three None b c = refl
first_of_three (Some fault) b c = refl

module _ (wanted : Wanted) (codes : Codes) where
  -- of lines behind lines
  pub first_append : (before xs ys : List (List ℕ)) → first_fault wanted codes before (xs ++ ys) ≡ option_or (first_fault wanted codes before xs) (first_fault wanted codes (before ++ xs) ys)
  unfolding first_fault
  first_append before [] ys = ap (λ (ls : List (List ℕ)). first_fault wanted codes ls ys) (sym (append-nil before))
  first_append before (x ∷ xs) ys =
      let here = result_err (judged wanted codes (front_of wanted codes before) x) in
      ap (option_or here) (first_append (before ++ x ∷ []) xs ys)
      ∙ first_of_three here (first_fault wanted codes (before ++ x ∷ []) xs) (first_fault wanted codes ((before ++ x ∷ []) ++ xs) ys)
      ∙ ap (λ (ls : List (List ℕ)). option_or (option_or here (first_fault wanted codes (before ++ x ∷ []) xs)) (first_fault wanted codes ls ys)) (append_assoc before (x ∷ []) xs)

  -- of one line
  pub first_one : (before : List (List ℕ)) (line : List ℕ) (told : Option TableFault) → result_err (judged wanted codes (front_of wanted codes before) line) ≡ told → first_fault wanted codes before (line ∷ []) ≡ told
  unfolding first_fault
  first_one before line told is = or_nothing (result_err (judged wanted codes (front_of wanted codes before) line)) ∙ is
    where
      or_nothing : (o : Option TableFault) → option_or o None ≡ o
      or_nothing None = refl
      or_nothing (Some fault) = refl

  -- a line that is accepted stays within the limit
  pub in_limit : (before : List (List ℕ)) (line : List ℕ) (added : Added) → judged wanted codes (front_of wanted codes before) line ≡ Ok added → sum_by length before + length line ≤ 2 ^ 28
  unfolding judged
  in_limit before line added is =
      ltb-false (2 ^ 28) (sum_by length before + length line)
      (or_parts (ltb 65536 (length (without_line_feed line))) _ (passed (is_too_long (front_of wanted codes before) line) (TooLong (length before + 1)) _ added is).0).1

  -- and so do lines without a fault
  pub few_bytes : (before lines : List (List ℕ)) → first_fault wanted codes before lines ≡ None → sum_by length before ≤ 2 ^ 28 → sum_by length (before ++ lines) ≤ 2 ^ 28
  unfolding first_fault
  few_bytes before [] none few = subst (λ (ls : List (List ℕ)). sum_by length ls ≤ 2 ^ 28) (sym (append-nil before)) few
  few_bytes before (line ∷ lines) none few = judge (judged wanted codes (front_of wanted codes before) line) refl (few_bytes (before ++ line ∷ []) lines)
    where
      later : Option TableFault
      later = first_fault wanted codes (before ++ line ∷ []) lines

      judge : (told : Result Added TableFault) → judged wanted codes (front_of wanted codes before) line ≡ told → (later ≡ None → sum_by length (before ++ line ∷ []) ≤ 2 ^ 28 → sum_by length ((before ++ line ∷ []) ++ lines) ≤ 2 ^ 28) → sum_by length (before ++ line ∷ lines) ≤ 2 ^ 28
      judge (Err fault) is more = absurd (cc (sym (ap (λ told. option_or (result_err told) later) is) ∙ none))
      judge (Ok added) is more =
          let here = in_limit before line added is in
          let all = sum_by_push length before line in
          subst (λ (ls : List (List ℕ)). sum_by length ls ≤ 2 ^ 28) (append_assoc before (line ∷ []) lines)
          (more (sym (ap (λ told. option_or (result_err told) later) is) ∙ none) (omega arith))
