-- From each cell with room for the whole template a vector leads as far.
use Rattle.std.proofs.Common.{arith, ◌≡◌, ◌∙◌, ℕ, ◌+◌, ◌-◌, ◌<◌, true, is_some, List, get_or, length, Option, None, Some, option_and_then, pos, sym, ap, subst}
use Rattle.std.proofs.lemmas.List.{get_or-map, length-map}
use Rattle.std.proofs.lemmas.List.Sums.{AllPass-from_list_all}
use Rattle.std.proofs.lemmas.Option.{slice_get-get_or}
use Rattle.mp_base.specs.declared.cell.Vector.{Vector}
use Rattle.mp_base.specs.Grid.{Sides, IsShape, cells_of, cell_at}
use Rattle.ti_scan.specs.Window.{IsSpan, is_inside}
use Rattle.ti_scan.proofs.Shifting.{at_of, shifted, cell_at-below}
use Rattle.event_retrieve.specs.Around.{AreFrom, Centre, cell_from, moved_on}

-- the cell at a vector, and that it is inside
pub record IsFurther (s : Sides) (c : ℕ) (v : Vector) (d : ℕ) : Type 0 where
  pub is : cell_at s c v ≡ Some d
  pub inside : d < cells_of s

pub further : (s : Sides) (template : List Vector) (first n : ℕ) (cells : List ℕ) (c i : ℕ) (d : Vector) → IsShape s → IsSpan (is_inside s template) (cells_of s) first n → (0 < n → AreFrom s template first cells) → c < cells_of s → is_inside s template c ≡ true → i < length cells → IsFurther s c (get_or template i d) (get_or cells i 0 + (c - first))
further s template first n cells c i d shape span from below inside in_list =
    let within = span.whole c below inside in
    let low = within.0 in
    let high = within.1 in
    let are = from (omega arith) in
    let in_template : i < length template = omega (arith, are.count) in
    let v = get_or template i d in
    let some : is_some (cell_at s c v) ≡ true = AllPass-from_list_all (λ w. is_some (cell_at s c w)) template inside i d in_template in
    let at = at_of s c v some in
    let far = shifted s c first v at.0 (get_or cells i 0) at.1 (are.each i d in_template) in
    let is : at.0 ≡ get_or cells i 0 + (c - first) = omega (arith, far, low) in
    record { is = at.1 ∙ ap Some is; inside = subst (λ k. k < cells_of s) is (cell_at-below s c v at.0 shape below at.1) }

-- there is a cell for each vector
pub as_many : (s : Sides) (template : List Vector) (first n : ℕ) (cells : List ℕ) (c : ℕ) → IsSpan (is_inside s template) (cells_of s) first n → (0 < n → AreFrom s template first cells) → c < cells_of s → is_inside s template c ≡ true → length cells ≡ length template
as_many s template first n cells c span from below inside =
    let within = span.whole c below inside in
    let low = within.0 in
    let high = within.1 in
    let are = from (omega arith) in
    are.count

-- from a cell with room for the whole template each vector leads as much further
pub from_further : (s : Sides) (template : List Vector) (first n : ℕ) (cells : List ℕ) (c : ℕ) → IsShape s → IsSpan (is_inside s template) (cells_of s) first n → (0 < n → AreFrom s template first cells) → c < cells_of s → is_inside s template c ≡ true → AreFrom s template c (moved_on (c - first) cells)
from_further s template first n cells c shape span from below inside =
    let count = as_many s template first n cells c span from below inside in
    let more : ℕ → ℕ = λ k. k + (c - first) in
    record {
      count = length-map cells more ∙ count;
      each = λ i v in_template.
          let in_cells : i < length cells = omega (arith, count) in
          (further s template first n cells c i v shape span from below inside in_cells).is ∙ ap Some (sym (get_or-map more cells i 0 0 in_cells));
    }

-- the cell at a vector, by its number
pub cell_from-at : (c : Centre) (i : ℕ) (d : Vector) → i < length c.around.template → cell_from c i ≡ cell_at c.around.sides c.cell (get_or c.around.template i d)
cell_from-at c i d in_template = ap (option_and_then (cell_at c.around.sides c.cell)) (slice_get-get_or c.around.template i d in_template)

-- that cell is found by one addition
pub by_addition : (c : Centre) (n : ℕ) (cells : List ℕ) (i d : ℕ) → AreFrom c.around.sides c.around.template c.cell (moved_on n cells) → i < length c.around.template → cell_from c i ≡ Some (get_or cells i d + n)
by_addition c n cells i d from in_template =
    let more : ℕ → ℕ = λ k. k + n in
    let v : Vector = record { dx = pos 0; dy = pos 0; dz = pos 0 } in
    let in_cells : i < length cells = omega (arith, from.count, length-map cells more) in
    cell_from-at c i v in_template ∙ from.each i v in_template ∙ ap Some (get_or-map more cells i d 0 in_cells)

-- a cell at a vector, if there is one, is inside
pub step_inside : (s : Sides) (a : ℕ) (v : Option Vector) (c : ℕ) → IsShape s → a < cells_of s → option_and_then (cell_at s a) v ≡ Some c → c < cells_of s
step_inside s a None c shape below at = cc
step_inside s a (Some v) c shape below at = cell_at-below s a v c shape below at
