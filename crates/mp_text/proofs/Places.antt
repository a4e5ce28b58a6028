-- The first place at which a test passes.
use Rattle.std.proofs.Common.{◌≡◌, ℕ, ◌<◌, Bool, true, false, cond, not, ltb, List, length, get_or, Some, None, refl, ap, ◌∙◌, arith}
use Rattle.std.specs.List.{list_any, position, position_or_len}
use Rattle.std.proofs.lemmas.Bool.{ltb-true, ltb-false, lt-ltb, le-ltb, not-false}
use Rattle.std.proofs.lemmas.List.Folds.{list_any_at, list_any_none}
use Rattle.std.proofs.lemmas.List.Sums.{fails_before_first, position_or_len_is, prefix_len-le-length, prefix_len_stops}

none_past : (b : Bool) (n : ℕ) → None ≡ cond b (Some n) None → b ≡ false
none_past true n is = cc
none_past false n is = refl

-- a choice that gave something
pub chosen : {X : Type 0} (b : Bool) (x y : X) → Some x ≡ cond b (Some y) None → (b ≡ true) × (x ≡ y)
chosen true x y is = (refl, cc)
chosen false x y is = cc

module _ {X : Type 0} (p : X → Bool) (xs : List X) where
  -- where nothing passes
  pub none_passes : None ≡ position p xs → position_or_len p xs ≡ length xs
  none_passes none =
      let past = ltb-false (position_or_len p xs) (length xs) (none_past (ltb (position_or_len p xs) (length xs)) (position_or_len p xs) none) in
      omega (arith, past, prefix_len-le-length (λ x. not (p x)) xs)

  pub none_any : None ≡ position p xs → list_any p xs ≡ false
  none_any none = list_any_none p xs (λ k d in_list. fails_before_first p xs k d (omega (arith, none_passes none)))

  -- where something passes
  pub some_is : (i : ℕ) → Some i ≡ position p xs → i ≡ position_or_len p xs
  some_is i some = (chosen (ltb (position_or_len p xs) (length xs)) i (position_or_len p xs) some).1

  some_within : (i : ℕ) → Some i ≡ position p xs → position_or_len p xs < length xs
  some_within i some = ltb-true (position_or_len p xs) (length xs) (chosen (ltb (position_or_len p xs) (length xs)) i (position_or_len p xs) some).0

  pub some_any : (i : ℕ) (d : X) → Some i ≡ position p xs → list_any p xs ≡ true
  some_any i d some =
      let within = some_within i some in
      list_any_at p xs (position_or_len p xs) d within (not-false (p (get_or xs (position_or_len p xs) d)) (prefix_len_stops (λ x. not (p x)) xs d within))

  -- where nothing passes, no item does
  pub none_before : (d : X) → None ≡ position p xs → (k : ℕ) → k < length xs → p (get_or xs k d) ≡ false
  none_before d none k in_list = fails_before_first p xs k d (omega (arith, none_passes none))

  -- the first item that passes
  pub first_at : (i : ℕ) (d : X) → i < length xs → p (get_or xs i d) ≡ true → ((k : ℕ) → k < i → p (get_or xs k d) ≡ false) → position p xs ≡ Some i
  first_at i d within at before =
      ap (λ n. cond (ltb n (length xs)) (Some n) None) (position_or_len_is p xs i d (omega arith) before (λ _. at)) ∙ ap (λ b. cond b (Some i) None) (lt-ltb i (length xs) within)

  pub first_none : (d : X) → ((k : ℕ) → k < length xs → p (get_or xs k d) ≡ false) → position p xs ≡ None
  first_none d none =
      ap (λ n. cond (ltb n (length xs)) (Some n) None) (position_or_len_is p xs (length xs) d (omega arith) none (λ more. absurd (omega arith)))
      ∙ ap (λ b. cond b (Some (length xs)) None) (le-ltb (length xs) (length xs) (omega arith))

  -- the same by the place itself
  pub any_within : (d : X) → position_or_len p xs < length xs → list_any p xs ≡ true
  any_within d within =
      list_any_at p xs (position_or_len p xs) d within (not-false (p (get_or xs (position_or_len p xs) d)) (prefix_len_stops (λ x. not (p x)) xs d within))

  pub any_past : position_or_len p xs ≡ length xs → list_any p xs ≡ false
  any_past past = list_any_none p xs (λ k d in_list. fails_before_first p xs k d (omega (arith, past)))
