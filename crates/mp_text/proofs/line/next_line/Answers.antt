use Rattle.std.proofs.Common.{◌≡◌, ◌<◌, ◌∷◌, length, take, drop, unwrap_or, ap, refl, sym, ◌∙◌, arith}
use Rattle.std.specs.Prelude.{◌==◌}
use Rattle.std.specs.List.{position}
use Rattle.std.proofs.lemmas.Bool.{eqb-true}
use Rattle.std.proofs.lemmas.Bool.Decides.{nat_tests}
use Rattle.mp_text.specs.Lines.{lines_of, line_end}
use Rattle.mp_text.proofs.LineLemmas.{lines_of_empty, lines_of_first, lines_of_one_byte}
use Rattle.mp_text.proofs.line.next_line.Goals as goal

pub returns-then-is_empty-clause-none : goal.returns-then-is_empty-clause-none
returns-then-is_empty-clause-none c = lines_of_empty c.args.bytes.now (eqb-true _ 0 (sym c.is_empty.ensures ∙ c.if-is_empty.true))

pub returns-then-bytes-eq10-clause-lines : goal.returns-then-bytes-eq10-clause-lines
returns-then-bytes-eq10-clause-lines c =
    let bytes = c.args.bytes.now in
    lines_of_one_byte bytes c.if-bytes-gt1.true c.if-bytes-ne10.true c.if-bytes-eq10.true
    ∙ sym (λ i. c.split_at.ensures.front i ∷ lines_of (c.split_at.ensures.back i))

pub returns-clause-lines : goal.returns-clause-lines
returns-clause-lines c =
    let bytes = c.args.bytes.now in
    let n = unwrap_or (line_end bytes) (length bytes) in
    let some : 0 < length bytes = grind (arith, nat_tests) in
    let at : c.unwrap_or-end.result ≡ n = c.unwrap_or-end.ensures ∙ ap (λ end. unwrap_or end (length bytes)) c.line_end.ensures.end in
    let line : c.split_at-2.result.0.now ≡ take n bytes = c.split_at-2.ensures.front ∙ ap (λ k. take k bytes) at in
    let rest : c.split_at-2.result.1.now ≡ drop n bytes = c.split_at-2.ensures.back ∙ ap (λ k. drop k bytes) at in
    lines_of_first bytes (position (λ b. b == 10) bytes) some refl ∙ sym (λ i. line i ∷ lines_of (rest i))
