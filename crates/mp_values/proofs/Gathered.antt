-- What is read of some fields, one after another.
use Rattle.std.proofs.Common.{◌≡◌, ℕ, ◌<◌, ◌≤◌, Bool, true, false, cond, List, [], ◌∷◌, ◌++◌, length, Option, Some, None, refl, ap, sym, ◌∙◌}
use Rattle.std.specs.Prelude.{option_map, nat_le}
use Rattle.std.proofs.lemmas.Bool.{le-leb, lt-leb}
use Rattle.std.proofs.lemmas.List.{append_assoc, append-nil}
use Rattle.mp_text.specs.Fields.{fields_of}
use Rattle.mp_values.specs.Values.{all_read, few_read}

-- with these in front
abbrev pub behind : {X : Type 0} → List X → Option (List X) → Option (List X)
behind front more = option_map (λ xs. front ++ xs) more

module _ {X : Type 0} (read : List ℕ → Option X) where
  behind_nothing : (more : Option (List X)) → more ≡ behind [] more
  behind_nothing None = refl
  behind_nothing (Some xs) = refl

  behind_one : (front : List X) (x : X) (more : Option (List X)) → behind front (option_map (λ xs. x ∷ xs) more) ≡ behind (front ++ x ∷ []) more
  behind_one front x None = refl
  behind_one front x (Some xs) = ap Some (sym (append_assoc front (x ∷ []) xs))

  -- before the first field
  pub read_start : (fs : List (List ℕ)) → all_read read fs ≡ behind [] (all_read read fs)
  read_start fs = behind_nothing (all_read read fs)

  -- behind one more field
  pub read_more : (fs : List (List ℕ)) (front : List X) (f : List ℕ) (rest : List (List ℕ)) (x : X) → read f ≡ Some x → all_read read fs ≡ behind front (all_read read (f ∷ rest)) → all_read read fs ≡ behind (front ++ x ∷ []) (all_read read rest)
  read_more fs front f rest x is so = so ∙ rw is (behind_one front x (all_read read rest))

  -- where nothing is read of a field
  pub read_none : (fs : List (List ℕ)) (front : List X) (f : List ℕ) (rest : List (List ℕ)) → read f ≡ None → all_read read fs ≡ behind front (all_read read (f ∷ rest)) → all_read read fs ≡ None
  read_none fs front f rest is so = so ∙ rw is refl

  -- where no field is left
  pub read_end : (fs : List (List ℕ)) (front : List X) (rest : List (List ℕ)) → rest ≡ [] → all_read read fs ≡ behind front (all_read read rest) → all_read read fs ≡ Some front
  read_end fs front rest none so = so ∙ ap (λ r. behind front (all_read read r)) none ∙ ap Some (append-nil front)

  pub few_over : (text : List ℕ) → 8 < length (fields_of text) → few_read read text ≡ None
  unfolding few_read
  few_over text over = ap (λ b. cond b (all_read read (fields_of text)) None) (lt-leb (length (fields_of text)) 8 over)

  none_either : (b : Bool) → cond {A = Option (List X)} b None None ≡ None
  none_either true = refl
  none_either false = refl

  pub few_none : (text : List ℕ) → all_read read (fields_of text) ≡ None → few_read read text ≡ None
  unfolding few_read
  few_none text none = rw none (none_either (nat_le (length (fields_of text)) 8))

  pub few_all : (text : List ℕ) (r : Option (List X)) → length (fields_of text) ≤ 8 → all_read read (fields_of text) ≡ r → few_read read text ≡ r
  unfolding few_read
  few_all text r few is = ap (λ b. cond b (all_read read (fields_of text)) None) (le-leb (length (fields_of text)) 8 few) ∙ is
