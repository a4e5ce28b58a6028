use Rattle.std.proofs.Common.{arith, ◌≡◌, ◌+◌, ◌++◌, ◌∷◌, [], ◌∙◌, List, ℕ, ap, length, map, sym}
use Rattle.std.proofs.lemmas.List.{length_push, map-append, map-id}
use Rattle.std.proofs.lemmas.List.FromFn.{map-range_with_len_more}
use Rattle.std.specs.List.{range_with_len}
use Rattle.spec_run.proofs.sim.Sim.make.Goals as goal

one_more : (n : ℕ) → range_with_len 0 n ++ n ∷ [] ≡ range_with_len 0 (n + 1)
one_more n =
    ap (λ (l : List ℕ). l ++ n ∷ []) (sym (map-id (range_with_len 0 n))) ∙ sym (map-range_with_len_more (λ x. x) 0 n n (omega arith)) ∙ map-id (range_with_len 0 (n + 1))

pub loop-number-preserved : goal.loop-number-preserved
loop-number-preserved g c =
    let kept = c.loop-number.invariant in
    let n = c.loop-number.number in
    let items = c.in_ok-push.ensures.items in
    record {
      count = ap (λ l. length l) items ∙ length_push _ _ ∙ ap (λ k. k + 1) kept.count;
      numbers = ap (map (λ h. h.number)) items ∙ map-append (λ h. h.number) _ _ ∙ ap (λ (l : List ℕ). l ++ n ∷ []) kept.numbers ∙ one_more n;
      nothing = c.note-pass.ensures.same ∙ kept.nothing;
    }

pub returns-clause-numbers : goal.returns-clause-numbers
returns-clause-numbers g c =
    let all : c.loop-number.number ≡ c.args.workers = omega (arith, c.loop-number-test.false, c.loop-number.auto.number-end, c.from-number-end.ensures) in
    c.loop-number.invariant.numbers ∙ ap (range_with_len 0) all
