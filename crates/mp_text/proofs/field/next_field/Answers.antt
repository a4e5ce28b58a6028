use Rattle.std.proofs.Common.{◌≡◌, ◌<◌, ◌∷◌, length, take, drop, ap, sym, ◌∙◌, arith}
use Rattle.std.specs.List.{position_or_len}
use Rattle.std.proofs.lemmas.Bool.{eqb-true}
use Rattle.std.proofs.lemmas.Bool.Decides.{nat_tests}
use Rattle.std.proofs.lemmas.List.{length-drop}
use Rattle.mp_text.specs.Fields.{fields_of, from_visible, is_blank, is_visible}
use Rattle.mp_text.proofs.FieldLemmas.{first_field, no_field, field_some}
use Rattle.mp_text.proofs.field.next_field.Goals as goal

pub returns-then-is_empty-clause-none : goal.returns-then-is_empty-clause-none
returns-then-is_empty-clause-none c = no_field c.args.text.now (sym (ap length c.from_visible-text.ensures) ∙ eqb-true _ 0 (sym c.is_empty.ensures ∙ c.if-is_empty.true))

pub returns-clause-some : goal.returns-clause-some
returns-clause-some c =
    let seen = from_visible c.args.text.now in
    let n = position_or_len is_blank seen in
    let is = c.from_visible-text.ensures in
    let some : 0 < length c.from_visible-text.result.now = grind (arith, nat_tests) in
    let at : c.blank_at.result ≡ n = c.blank_at.ensures.place ∙ ap (position_or_len is_blank) is in
    let field : c.split_at.result.0.now ≡ take n seen = c.split_at.ensures.front ∙ (λ i. take (at i) (is i)) in
    let rest : c.split_at.result.1.now ≡ drop n seen = c.split_at.ensures.back ∙ (λ i. drop (at i) (is i)) in
    first_field c.args.text.now (omega (arith, some, ap length is)) ∙ sym (λ i. field i ∷ fields_of (rest i))

pub returns-clause-less : goal.returns-clause-less
returns-clause-less c =
    let text = c.args.text.now in
    let seen = from_visible text in
    let is = c.from_visible-text.ensures in
    let long = ap length is in
    let some : 0 < length c.from_visible-text.result.now = grind (arith, nat_tests) in
    let at = c.blank_at.ensures.place ∙ ap (position_or_len is_blank) is in
    let begun = field_some text (omega (arith, some, long)) in
    omega (arith, some, long, at, begun, c.split_at.ensures.back_len, length-drop (position_or_len is_visible text) text)
