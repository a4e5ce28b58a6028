use Rattle.std.proofs.Common.{◌+◌, ◌∙◌, ap, subst, ℕ, List, Option, length}
use Rattle.std.proofs.lemmas.List.{length_push}
use Rattle.spec_run.specs.Found.{MayBeFound}
use Rattle.spec_run.proofs.Finding.{found_more}
use Rattle.spec_run.proofs.speculation.values_around.Goals as goal

pub loop-number-preserved : goal.loop-number-preserved
loop-number-preserved g c =
    let p = c.args.plan.now in
    let kept = c.loop-number.invariant in
    let n = c.loop-number.number in
    let before = c.loop-number.values.items in
    let v = c.value_at.result in
    let found = subst (λ seen. MayBeFound p seen c.args.index (n + 1) v) kept.pass c.value_at.ensures.found in
    record {
      pass = c.value_at.ensures.same ∙ kept.pass;
      count = c.push.ensures.len ∙ ap (λ k. k + 1) kept.count;
      many = ap (λ (xs : List (Option ℕ)). length xs) c.push.ensures.items ∙ length_push before v ∙ ap (λ k. k + 1) kept.many;
      found = found_more p c.args.pass.now c.args.index n before c.push.new.self.items v c.push.ensures.items kept.many kept.found found;
    }
