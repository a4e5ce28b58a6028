use Rattle.std.proofs.Common.{arith, ◌≡◌, ◌<◌, ◌^◌, ◌∙◌, ℕ, ◌+◌, IfSome, List, Option, Some, ap, sym, subst, pos, length, get_or, slice_get}
use Rattle.mp_base.specs.declared.cell.Vector.{Vector}
use Rattle.mp_base.specs.Grid.{IsShape, cells_of, cell_at}
use Rattle.event_retrieve.specs.Around.{AreFrom, Centre, cell_from, moved_on}
use Rattle.event_retrieve.proofs.AroundLemmas.{by_addition, cell_from-at, step_inside}
use Rattle.event_retrieve.proofs.around.Centre.cell_at.Goals as goal

-- a sum is the cell at a vector, and is inside
record IsSum (c : Centre) (i sum : ℕ) : Type 0 where
  is : Some sum ≡ cell_from c i
  inside : sum < cells_of c.around.sides
  few : sum < 2 ^ 20

sum_is : (was c : Centre) (further : Option ℕ) (cells : List ℕ) (i d n first : ℕ) → was ≡ c → IsShape was.around.sides × (was.cell < cells_of was.around.sides) × IfSome further (λ k. AreFrom was.around.sides was.around.template was.cell (moved_on k cells)) → further ≡ Some n → i < length c.around.template → first ≡ get_or cells i d → IsSum c i (first + n)
sum_is was c further cells i d n first same kept some in_template first_is =
    let s = was.around.sides in
    let from : AreFrom s was.around.template was.cell (moved_on n cells) = subst (λ (o : Option ℕ). IfSome o (λ k. AreFrom s was.around.template was.cell (moved_on k cells))) some kept.2 in
    let here : i < length was.around.template = subst (λ (k : Centre). i < length k.around.template) (sym same) in_template in
    let at : cell_from was i ≡ Some (first + n) = by_addition was n cells i d from here ∙ ap (λ k. Some (k + n)) (sym first_is) in
    let inside : first + n < cells_of s = step_inside s was.cell (slice_get was.around.template i) (first + n) kept.0 kept.1 at in
    record {
      is = sym at ∙ ap (λ (k : Centre). cell_from k i) same;
      inside = subst (λ (k : Centre). first + n < cells_of k.around.sides) same inside;
      few = omega (arith, inside, kept.0.fits);
    }

pub overflow_add-result : goal.overflow_add-result
overflow_add-result c =
    let sum = sum_is _ c.args.self.now c.self.inside.further c.self.inside.cells.now c.args.number _ c.in-Some.further c.first.inside.0 c.self.view_is c.self.invariant c.in-Some.is c.requires c.first.view_is in
    omega (arith, sum.few)

pub returns-in-Some-clause-cell : goal.returns-in-Some-clause-cell
returns-in-Some-clause-cell c =
    (sum_is _ c.args.self.now c.self.inside.further c.self.inside.cells.now c.args.number _ c.in-Some.further c.first.inside.0 c.self.view_is c.self.invariant c.in-Some.is c.requires c.first.view_is).is

pub returns-in-Some-clause-inside : goal.returns-in-Some-clause-inside
returns-in-Some-clause-inside c =
    (sum_is _ c.args.self.now c.self.inside.further c.self.inside.cells.now c.args.number _ c.in-Some.further c.first.inside.0 c.self.view_is c.self.invariant c.in-Some.is c.requires c.first.view_is).inside

pub returns-in-None-clause-cell : goal.returns-in-None-clause-cell
returns-in-None-clause-cell c = c.step.ensures.cell ∙ step_is _ c.args.self.now c.args.number (record { dx = pos 0; dy = pos 0; dz = pos 0 }) c.self.view_is c.requires
  where
    step_is : (was now : Centre) (i : ℕ) (d : Vector) → was ≡ now → i < length now.around.template → cell_at was.around.sides was.cell (get_or was.around.template i d) ≡ cell_from now i
    step_is was now i d same in_template =
        let here : i < length was.around.template = subst (λ (k : Centre). i < length k.around.template) (sym same) in_template in
        sym (cell_from-at was i d here) ∙ ap (λ (k : Centre). cell_from k i) same
