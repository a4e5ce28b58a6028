-- Eroded positions, and where the template is inside.
use Rattle.std.proofs.Common.{◌≡◌, ℕ, ◌+◌, Bool, true, false, ◌&&◌, option_and_then, inl, inr, List, [], ◌∷◌, Option, Some, None, is_some, refl, ap, sym, ◌∙◌, arith}
use Rattle.std.specs.List.{list_all}
use Rattle.std.proofs.lemmas.Bool.{and_parts, cases_Bool, false≢true, false_from_ne_true}
use Rattle.mp_base.specs.declared.cell.Vector.{Vector}
use Rattle.mp_base.specs.Grid.{Field, cat_of, cat_at, cell_at}
use Rattle.ti_scan.specs.Eroded.{is_eroded}
use Rattle.ti_scan.specs.Marks.{mark, Keeps}
use Rattle.ti_scan.specs.Window.{KeepsEroded, eroded_from, inside_from, is_inside}

and_true : (a : Bool) → (a && true) ≡ a
and_true true = refl
and_true false = refl

and_false : (a : Bool) → (a && false) ≡ false
and_false true = refl
and_false false = refl

pub at_inside : (image : Field) (c : ℕ) (v : Vector) → is_some (cat_at image c v) ≡ true → is_some (cell_at image.sides c v) ≡ true
at_inside image c v e = go (cell_at image.sides c v) e
  where
    go : (o : Option ℕ) → is_some (option_and_then (cat_of image.cells) o) ≡ true → is_some o ≡ true
    go None bad = absurd (false≢true bad)
    go (Some d) good = refl

all_inside : (image : Field) (c : ℕ) (template : List Vector) → list_all (λ v. is_some (cat_at image c v)) template ≡ true → is_inside image.sides template c ≡ true
all_inside image c [] e = refl
all_inside image c (v ∷ template) e =
    let parts = and_parts (is_some (cat_at image c v)) (list_all (λ w. is_some (cat_at image c w)) template) e in
    rw (at_inside image c v parts.0, all_inside image c template parts.1) refl

-- the template is inside around an eroded position
pub eroded-inside : (image : Field) (template : List Vector) (c : ℕ) → is_eroded image template c ≡ true → is_inside image.sides template c ≡ true
eroded-inside image template c e = all_inside image c template (and_parts (is_some (cat_of image.cells c)) (list_all (λ v. is_some (cat_at image c v)) template) e).1

-- and where it isn't inside there is none
joint : (image : Field) (template : List Vector) (from i : ℕ) (b m : Bool) → (inside_from image.sides template from i ≡ true → m ≡ (b && eroded_from image template from i)) → (m && inside_from image.sides template from i) ≡ (b && eroded_from image template from i)
joint image template from i b m h = elim (cases_Bool (inside_from image.sides template from i)) [
  | inl inside ↦ ap (λ t. m && t) inside ∙ and_true m ∙ h inside
  | inr outside ↦
      let no : eroded_from image template from i ≡ false = false_from_ne_true (eroded_from image template from i) (λ e. false≢true (sym outside ∙ eroded-inside image template (from + i) e)) in
      ap (λ t. m && t) outside ∙ and_false m ∙ sym (ap (λ t. b && t) no ∙ and_false b)
]

pub eroded_all : (image : Field) (template : List Vector) (from : ℕ) (before mid after : List Bool) → KeepsEroded image template template from before mid → Keeps (inside_from image.sides template from) mid after → Keeps (eroded_from image template from) before after
eroded_all image template from before mid after surrounded within = record {
  count = within.count ∙ surrounded.count;
  each = λ i below. within.each i (omega (arith, surrounded.count)) ∙ joint image template from i (mark before i) (mark mid i) (surrounded.each i below);
}
