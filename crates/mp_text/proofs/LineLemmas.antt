-- Lines, cut off one by one from the front.
use Rattle.std.proofs.Common.{◌≡◌, ◌≢◌, ℕ, zero, suc, ◌+◌, ◌<◌, true, false, cond, eqb, List, [], ◌∷◌, length, take, drop, get_or, Option, Some, None, unwrap_or, refl, ap, sym, ◌∙◌, arith, add-one}
use Rattle.std.specs.Prelude.{◌==◌, option_map}
use Rattle.std.specs.List.{onto_first, position}
use Rattle.std.proofs.lemmas.Bool.{eq-eqb, ne_eqb}
use Rattle.std.proofs.lemmas.List.{take_all, drop_all}
use Rattle.std.proofs.lemmas.List.Quantifiers.{position-Some}
use Rattle.mp_text.specs.Lines.{lines_of}
use Rattle.mp_text.proofs.Places.{none_before}

-- the first line ends with the first line feed
pub lines_of_cut : (bs : List ℕ) (n : ℕ) → n < length bs → eqb (get_or bs n 0) 10 ≡ true → ((k : ℕ) → k < n → eqb (get_or bs k 0) 10 ≡ false) → lines_of bs ≡ take (suc n) bs ∷ lines_of (drop (suc n) bs)
unfolding lines_of
lines_of_cut [] n within feed none = absurd (omega arith)
lines_of_cut (b ∷ bs) zero within feed none = ap (λ t. cond t ((b ∷ []) ∷ lines_of bs) (onto_first b (lines_of bs))) feed
lines_of_cut (b ∷ bs) (suc n) within feed none =
    ap (λ t. cond t ((b ∷ []) ∷ lines_of bs) (onto_first b (lines_of bs))) (none 0 (omega arith))
    ∙ ap (onto_first b) (lines_of_cut bs n (omega arith) feed (λ k below. none (suc k) (omega arith)))

-- a first line of one byte
pub lines_of_one_byte : (bs : List ℕ) → 1 < length bs → get_or bs 0 0 ≢ 10 → get_or bs 1 0 ≡ 10 → lines_of bs ≡ take 2 bs ∷ lines_of (drop 2 bs)
lines_of_one_byte bs within other feed =
    lines_of_cut bs 1 within (eq-eqb (get_or bs 1 0) 10 feed) (λ k below. ne_eqb (get_or bs k 0) 10 (λ is. other (ap (λ i. get_or bs i 0) (omega arith) ∙ is)))

-- bytes without a line feed are one line
pub lines_of_rest : (bs : List ℕ) → 0 < length bs → ((k : ℕ) → k < length bs → eqb (get_or bs k 0) 10 ≡ false) → lines_of bs ≡ bs ∷ []
unfolding lines_of
lines_of_rest [] some none = absurd (omega arith)
lines_of_rest (b ∷ []) some none = ap (λ t. cond t ((b ∷ []) ∷ []) ((b ∷ []) ∷ [])) (none 0 (omega arith))
lines_of_rest (b ∷ c ∷ bs) some none =
    ap (λ t. cond t ((b ∷ []) ∷ lines_of (c ∷ bs)) (onto_first b (lines_of (c ∷ bs)))) (none 0 (omega arith))
    ∙ ap (onto_first b) (lines_of_rest (c ∷ bs) (omega arith) (λ k below. none (suc k) (omega arith)))

pub lines_of_end : (bs : List ℕ) → 0 < length bs → ((k : ℕ) → k < length bs → eqb (get_or bs k 0) 10 ≡ false) → lines_of bs ≡ take (length bs) bs ∷ lines_of (drop (length bs) bs)
unfolding lines_of
lines_of_end bs some none =
    lines_of_rest bs some none
    ∙ ap (λ (line : List ℕ). line ∷ []) (sym (take_all (length bs) bs (omega arith)))
    ∙ ap (λ (rest : List ℕ). take (length bs) bs ∷ lines_of rest) (sym (drop_all (length bs) bs (omega arith)))

pub lines_of_empty : (bs : List ℕ) → length bs ≡ 0 → lines_of bs ≡ []
unfolding lines_of
lines_of_empty [] none = refl
lines_of_empty (b ∷ bs) none = absurd (omega arith)

-- the first line ends behind the first line feed, or else at the end
pub lines_of_first : (bs : List ℕ) (place : Option ℕ) → 0 < length bs → position (λ b. b == 10) bs ≡ place → let n = unwrap_or (option_map (λ i. i + 1) place) (length bs) in lines_of bs ≡ take n bs ∷ lines_of (drop n bs)
lines_of_first bs None some is = lines_of_end bs some (none_before (λ b. b == 10) bs 0 (sym is))
lines_of_first bs (Some i) some is =
    let at = position-Some (λ b. b == 10) bs i 0 is in
    rw add-one (lines_of_cut bs i at.0 at.1 at.2)
