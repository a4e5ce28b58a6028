use Rattle.std.proofs.Common.{rules, ◌≡◌, ◌≢◌, ◌∙◌, sym, subst, ℤ, List, w32, to_z, of_z}
use Rattle.std.specs.List.{AllPairs, Contains}
use Rattle.std.proofs.lemmas.Bool.{and_parts}
use Rattle.mps_inputs.proofs.Codes.{distinct, unlisted}
use Rattle.mps_inputs.proofs.inputs.distinct_codes.Goals as goal

pub returns-clause-differ : goal.returns-clause-differ
returns-clause-differ c =
    subst (λ (codes : List ℤ). AllPairs (λ a b. a ≢ b) codes) (sym (c.list_of.ensures ∙ c.as_slice.ensures.codes))
    (distinct c.parameters.inside.categories (and_parts _ _ c.parameters.invariant.categories.codes).1)

pub returns-clause-missing : goal.returns-clause-missing
returns-clause-missing c =
    let listed = c.list_of.ensures ∙ c.as_slice.ensures.codes in
    let missing : to_z w32 (of_z w32 c.parameters.inside.missing) ≡ c.parameters.inside.missing = search rules in
    (λ has. unlisted c.parameters.inside.missing c.parameters.inside.categories c.parameters.invariant.missing_apart
    (subst (λ (codes : List ℤ). Contains codes c.parameters.inside.missing) listed
    (subst (λ (code : ℤ). Contains c.list_of.result code) missing has)))
