-- What is kept at each place for the items that go there, with one item more.
use Rattle.std.proofs.Common.{◌≡◌, ℕ, ◌<◌, Bool, true, false, cond, List, [], ◌∷◌, ◌++◌, filter, get_or, length, replicate, set, Option, Some, None, inl, inr, ap, sym, ◌∙◌, arith}
use Rattle.std.proofs.lemmas.Bool.{cases_eq}
use Rattle.std.proofs.lemmas.List.{append-nil, get_or-replicate, get_or-set_same, get_or-set_other, length-replicate, length-set}
use Rattle.std.proofs.lemmas.List.Elements.{filter-append}
use Rattle.hard_data.specs.Nearest.{first_nearest, nearer_of}
use Rattle.hard_data.specs.Kept.{AreKept}
use Rattle.hard_data.proofs.FirstNearest.{nearest_push}

module _ {X : Type 0} (goes_to : ℕ → X → Bool) (distance : ℕ → X → ℕ) where
  -- the nearest of the items that go to a place
  abbrev pub nearest_at : List X → ℕ → Option X
  nearest_at items place = first_nearest (distance place) (filter (goes_to place) items)

  filter_push : (items : List X) (item : X) (place : ℕ) (t : Bool) → goes_to place item ≡ t → filter (goes_to place) (items ++ item ∷ []) ≡ filter (goes_to place) items ++ cond t (item ∷ []) []
  filter_push items item place t is = filter-append (goes_to place) items (item ∷ []) ∙ ap (λ b. filter (goes_to place) items ++ cond b (item ∷ []) []) is

  nearest_same : (items : List X) (item : X) (place : ℕ) → goes_to place item ≡ false → nearest_at (items ++ item ∷ []) place ≡ nearest_at items place
  nearest_same items item place other = ap (first_nearest (distance place)) (filter_push items item place false other ∙ append-nil (filter (goes_to place) items))

  nearest_more : (items : List X) (item : X) (place : ℕ) → goes_to place item ≡ true → nearest_at (items ++ item ∷ []) place ≡ Some (nearer_of (distance place) (nearest_at items place) item)
  nearest_more items item place here = ap (first_nearest (distance place)) (filter_push items item place true here) ∙ nearest_push (distance place) (filter (goes_to place) items) item

  module _ (item_of : ℕ → Option X) (places : ℕ) where
    -- at the beginning nothing is kept
    pub kept_none : (numbers : List ℕ) (count none : ℕ) → numbers ≡ replicate count none → count ≡ places → item_of none ≡ None → AreKept item_of (nearest_at []) places numbers
    unfolding first_nearest
    kept_none numbers count none are all nothing = record {
      count = ap length are ∙ length-replicate count none ∙ all;
      each = λ place inside. ap (λ (ns : List ℕ). item_of (get_or ns place 0)) are ∙ ap item_of (get_or-replicate count place none 0 (omega (arith, all))) ∙ nothing;
    }

    -- an item that goes nowhere changes nothing
    pub kept_same : (items : List X) (item : X) (numbers : List ℕ) → AreKept item_of (nearest_at items) places numbers → ((v : ℕ) → goes_to v item ≡ false) → AreKept item_of (nearest_at (items ++ item ∷ [])) places numbers
    kept_same items item numbers kept nowhere = record {
      count = kept.count;
      each = λ place inside. kept.each place inside ∙ sym (nearest_same items item place (nowhere place));
    }

    -- an item takes its place where it is nearer than what is kept there
    pub kept_set : (items : List X) (item : X) (numbers : List ℕ) (place new : ℕ) → AreKept item_of (nearest_at items) places numbers → place < places → goes_to place item ≡ true → ((v : ℕ) → (v ≡ place → ⊥) → goes_to v item ≡ false) → item_of new ≡ Some (nearer_of (distance place) (item_of (get_or numbers place 0)) item) → AreKept item_of (nearest_at (items ++ item ∷ [])) places (set numbers place new)
    kept_set items item numbers place new kept inside here elsewhere told = record {
      count = length-set numbers place new ∙ kept.count;
      each = λ v below. elim (cases_eq v place) [
        | inl same ↦
            ap (λ k. item_of (get_or (set numbers place new) k 0)) same
            ∙ ap item_of (get_or-set_same numbers place new 0 (omega (arith, kept.count)))
            ∙ told
            ∙ ap (λ o. Some (nearer_of (distance place) o item)) (kept.each place inside)
            ∙ sym (nearest_more items item place here)
            ∙ ap (nearest_at (items ++ item ∷ [])) (sym same)
        | inr differ ↦
            ap item_of (get_or-set_other numbers place v new 0 differ)
            ∙ kept.each v below
            ∙ sym (nearest_same items item v (elsewhere v differ))
      ];
    }
