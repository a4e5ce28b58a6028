use Rattle.std.proofs.Common.{◌≡◌, ◌++◌, ◌/◌, w64, ◌%◌, ℕ, List, [], ◌∷◌, decimal, nat_abs, ap, sym, ◌∙◌}
use Rattle.std.specs.Int.{is_negative}
use Rattle.std.proofs.lemmas.Int.{to_z-of_z}
use Rattle.std.proofs.lemmas.List.{append_assoc}
use Rattle.mp_number.specs.Number.{micro_text, sign_text, fraction_text}
use Rattle.mp_number.proofs.printing.push_micro.Goals as goal
use Rattle.mp_number.proofs.printing.push_micro.Goals.{then-value-lt0, else-value-lt0}

pub returns-clause-text : goal.returns-clause-text
unfolding micro_text
returns-clause-text c =
    let z = c.args.value in
    let n = c.unsigned_abs-size.result in
    let old = c.args.to.now.items in
    let value = to_z-of_z w64 z c.ranges.value in
    let size : n ≡ nat_abs z = c.unsigned_abs-size.ensures.value ∙ ap nat_abs value in
    let sign : c.if-value-lt0.text.items ≡ sign_text (is_negative z) = elim c.if-value-lt0.branch [
      | then-value-lt0 w ↦
          let minus : c.if-value-lt0.text.items ≡ 45 ∷ [] = rw w.text-is (w.push.ensures.items ∙ ap (λ (ds : List ℕ). ds ++ 45 ∷ []) c.new-text.ensures) in
          minus ∙ sym (ap sign_text (sym (ap is_negative value) ∙ w.if-value-lt0.true))
      | else-value-lt0 w ↦
          let nothing : c.if-value-lt0.text.items ≡ [] = rw w.text-is c.new-text.ensures in
          nothing ∙ sym (ap sign_text (sym (ap is_negative value) ∙ w.if-value-lt0.false))
    ] in
    let whole = c.as_bytes.ensures.value ∙ c.format.ensures.text in
    let front = c.append.ensures ∙ (λ i. sign i ++ whole i) in
    let text = c.as_slice.ensures.value ∙ c.push_fraction.ensures ∙ ap (λ (ds : List ℕ). ds ++ fraction_text (n % 1000000)) front ∙ append_assoc (sign_text (is_negative z)) (decimal (n / 1000000)) (fraction_text (n % 1000000))
    ∙ ap (λ (m : ℕ). sign_text (is_negative z) ++ (decimal (m / 1000000) ++ fraction_text (m % 1000000))) size in
    c.in_ok-extend_from_slice.ensures.items ∙ ap (λ (ds : List ℕ). old ++ ds) text
