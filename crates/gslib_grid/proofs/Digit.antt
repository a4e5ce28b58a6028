-- One digit as a whole number, and as the only field of a text.
use Rattle.std.proofs.Common.{◌≡◌, ℕ, zero, suc, ◌+◌, ◌<◌, ◌≤◌, false, ◌||◌, cond, ap, List, [], ◌∷◌, length, get_or, Ok, pos, refl, arith}
use Rattle.std.specs.List.{filter, onto_first}
use Rattle.std.proofs.lemmas.Bool.{ne_eqb}
use Rattle.mp_base.specs.Number.{whole_of, spelling_of}
use Rattle.mp_text.specs.Fields.{fields_of, is_blank, is_filled}

-- a digit is the number that it shows
pub whole_of_digit : (n : ℕ) → n < 10 → whole_of ((n + 48) ∷ []) ≡ Ok (pos n)
unfolding whole_of spelling_of
whole_of_digit zero below = refl
whole_of_digit (suc zero) below = refl
whole_of_digit (suc (suc zero)) below = refl
whole_of_digit (suc (suc (suc zero))) below = refl
whole_of_digit (suc (suc (suc (suc zero)))) below = refl
whole_of_digit (suc (suc (suc (suc (suc zero))))) below = refl
whole_of_digit (suc (suc (suc (suc (suc (suc zero)))))) below = refl
whole_of_digit (suc (suc (suc (suc (suc (suc (suc zero))))))) below = refl
whole_of_digit (suc (suc (suc (suc (suc (suc (suc (suc zero)))))))) below = refl
whole_of_digit (suc (suc (suc (suc (suc (suc (suc (suc (suc zero))))))))) below = refl
whole_of_digit (suc (suc (suc (suc (suc (suc (suc (suc (suc (suc n)))))))))) below = absurd (omega arith)

-- a digit that stands alone is the only field
pub fields_of_digit : (b : ℕ) → 48 ≤ b → fields_of (b ∷ []) ≡ (b ∷ []) ∷ []
unfolding fields_of
fields_of_digit b digit =
    let visible : is_blank b ≡ false = λ i. ne_eqb b 32 (λ is. omega arith) i || ne_eqb b 9 (λ is. omega arith) i in
    ap (λ t. filter is_filled (cond t ([] ∷ [] ∷ []) (onto_first b ([] ∷ [])))) visible

-- a list of one item
pub single : (xs : List ℕ) → length xs ≡ 1 → xs ≡ get_or xs 0 0 ∷ []
single [] one = absurd (omega arith)
single (x ∷ []) one = refl
single (x ∷ y ∷ ys) one = absurd (omega arith)
