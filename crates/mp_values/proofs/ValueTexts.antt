-- What bytes the text of a value has.
use Rattle.std.proofs.Common.{◌≡◌, ℕ, ◌-◌, ◌≤◌, Bool, true, false, List, [], ◌∷◌, length, get_or, refl}
use Rattle.std.specs.List.{list_all}
use Rattle.std.proofs.lemmas.Bool.{and_parts, and_from}
use Rattle.mp_text.specs.Fields.{is_blank}
use Rattle.mp_values.specs.Values.{is_line_byte}

pub all_weaker : (p q : ℕ → Bool) → ((b : ℕ) → p b ≡ true → q b ≡ true) → (xs : List ℕ) → list_all p xs ≡ true → list_all q xs ≡ true
all_weaker p q each [] all = refl
all_weaker p q each (x ∷ xs) all =
    let parts = and_parts (p x) (list_all p xs) all in
    and_from (q x) (list_all q xs) (each x parts.0) (all_weaker p q each xs parts.1)

-- a value's text: bytes that a line may hold, with no blank at either end
pub record IsValueText (text : List ℕ) : Type 0 where
  pub bytes : list_all is_line_byte text ≡ true
  pub some : 1 ≤ length text
  pub first : is_blank (get_or text 0 0) ≡ false
  pub last : is_blank (get_or text (length text - 1) 0) ≡ false
  pub few : length text ≤ 600
