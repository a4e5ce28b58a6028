-- Fields, cut off one by one from the front.
use Rattle.std.proofs.Common.{◌≡◌, ℕ, zero, suc, ◌<◌, ◌≤◌, true, false, cond, not, ltb, List, [], ◌∷◌, length, take, drop, get_or, filter, refl, ap, add-zero, sym, ◌∙◌, arith, inl, inr}
use Rattle.std.specs.List.{slice_split, onto_first, position_or_len}
use Rattle.std.proofs.lemmas.List.{length-take, length-drop, get_or-drop, drop_all}
use Rattle.std.proofs.lemmas.List.Sums.{fails_before_first, passes_at_first, prefix_len-le-length}
use Rattle.std.proofs.lemmas.Bool.{false≢true, cases_lt, not-true, not-false}
use Rattle.std.proofs.lemmas.Bool.Decides.{nat_tests}
use Rattle.mp_text.specs.Fields.{fields_of, from_visible, is_blank, is_filled, is_visible}

-- blanks in front change no field
pub fields_of_skip : (bs : List ℕ) (n : ℕ) → n ≤ length bs → ((k : ℕ) → k < n → is_blank (get_or bs k 0) ≡ true) → fields_of (drop n bs) ≡ fields_of bs
unfolding fields_of
fields_of_skip bs zero within blank = refl
fields_of_skip [] (suc n) within blank = absurd (omega arith)
fields_of_skip (b ∷ bs) (suc n) within blank =
    fields_of_skip bs n (omega arith) (λ k below. blank (suc k) (omega arith))
    ∙ sym (ap (λ t. filter is_filled (cond t ([] ∷ slice_split is_blank bs) (onto_first b (slice_split is_blank bs)))) (blank 0 (omega arith)))

-- where bytes are over or a blank comes, an empty part begins the parts
part_over : (bs : List ℕ) → (0 < length bs → is_blank (get_or bs 0 0) ≡ true) → (more : List (List ℕ)) × (slice_split is_blank bs ≡ [] ∷ more)
part_over [] over = ([], refl)
part_over (b ∷ bs) over = (slice_split is_blank bs, ap (λ t. cond t ([] ∷ slice_split is_blank bs) (onto_first b (slice_split is_blank bs))) (over (omega arith)))

-- the first part is what stands before the first blank
part_first : (bs : List ℕ) (n : ℕ) (more : List (List ℕ)) → n ≤ length bs → ((k : ℕ) → k < n → is_blank (get_or bs k 0) ≡ false) → slice_split is_blank (drop n bs) ≡ [] ∷ more → slice_split is_blank bs ≡ take n bs ∷ more
part_first bs zero more within none rest = rest
part_first [] (suc n) more within none rest = absurd (omega arith)
part_first (b ∷ bs) (suc n) more within none rest =
    ap (λ t. cond t ([] ∷ slice_split is_blank bs) (onto_first b (slice_split is_blank bs))) (none 0 (omega arith))
    ∙ ap (onto_first b) (part_first bs n more (omega arith) (λ k below. none (suc k) (omega arith)) rest)

-- the first field is what stands before the first blank
pub fields_of_cut : (bs : List ℕ) (n : ℕ) → 0 < n → n ≤ length bs → ((k : ℕ) → k < n → is_blank (get_or bs k 0) ≡ false) → (n < length bs → is_blank (get_or bs n 0) ≡ true) → fields_of bs ≡ take n bs ∷ fields_of (drop n bs)
unfolding fields_of
fields_of_cut bs n some within none over =
    let rest = part_over (drop n bs) (λ more. rw (get_or-drop, add-zero) (over (omega (arith, length-drop n bs)))) in
    let filled : ltb 0 (length (take n bs)) ≡ true = grind (arith, nat_tests, length-take n bs) in
    ap (filter is_filled) (part_first bs n rest.0 within none rest.1)
    ∙ ap (λ t. cond t (take n bs ∷ filter is_filled rest.0) (filter is_filled rest.0)) filled
    ∙ sym (ap (λ parts. take n bs ∷ filter is_filled parts) rest.1)

-- where the first byte is no blank, the first blank stands behind it
pub later_blank : (bs : List ℕ) (n : ℕ) → is_blank (get_or bs 0 0) ≡ false → is_blank (get_or bs n 0) ≡ true → 0 < n
later_blank bs zero none blank = absurd (false≢true (sym none ∙ blank))
later_blank bs (suc n) none blank = omega arith

-- nothing but blanks has no field
pub fields_of_none : (bs : List ℕ) (n : ℕ) → length bs ≤ n → fields_of (drop n bs) ≡ []
unfolding fields_of
fields_of_none bs n over = ap (λ rest. filter is_filled (slice_split is_blank rest)) (drop_all n bs over)

module _ (text : List ℕ) where
  abbrev first : ℕ
  first = position_or_len is_visible text

  abbrev seen : List ℕ
  seen = from_visible text

  blank_before : (k : ℕ) → k < first → is_blank (get_or text k 0) ≡ true
  blank_before k below = not-false (is_blank (get_or text k 0)) (fails_before_first is_visible text k 0 below)

  first_within : first ≤ length text
  first_within = prefix_len-le-length (λ b. not (is_visible b)) text

  -- no field stands in a text of blanks
  pub no_field : length (from_visible text) ≡ 0 → fields_of text ≡ []
  no_field none = sym (fields_of_skip text first first_within blank_before) ∙ fields_of_none text first (omega (arith, length-drop first text, none))

  begins : 0 < length seen → is_blank (get_or seen 0 0) ≡ false
  begins some =
      let within : first < length text = omega (arith, length-drop first text, some) in
      ap is_blank (get_or-drop first text 0 0 ∙ ap (λ i. get_or text i 0) (add-zero first)) ∙ not-true (is_blank (get_or text first 0)) (passes_at_first is_visible text 0 within)

  -- the first field has a byte
  pub field_some : 0 < length (from_visible text) → 0 < position_or_len is_blank (from_visible text)
  field_some some = elim (cases_lt (position_or_len is_blank seen) (length seen)) [
    | inl within ↦ later_blank seen (position_or_len is_blank seen) (begins some) (passes_at_first is_blank seen 0 within)
    | inr past ↦ omega (arith, past, some)
  ]

  -- the first field, and the fields of what stands behind it
  pub first_field : 0 < length (from_visible text) → let n = position_or_len is_blank (from_visible text) in fields_of text ≡ take n (from_visible text) ∷ fields_of (drop n (from_visible text))
  first_field some =
      let n = position_or_len is_blank seen in
      sym (fields_of_skip text first first_within blank_before)
      ∙ fields_of_cut seen n (field_some some) (prefix_len-le-length (λ b. not (is_blank b)) seen) (λ k below. fails_before_first is_blank seen k 0 below) (λ more. passes_at_first is_blank seen 0 more)
