use Rattle.std.proofs.Common.{◌≡◌, ◌+◌, ◌<◌, ◌≤◌, Some, length, pos, w32, ap, sym, ◌∙◌, arith}
use Rattle.std.proofs.lemmas.Int.{to_z-of_z}
use Rattle.gslib_grid.specs.Table.{Front, checked_numbers, judged_row}
use Rattle.gslib_grid.specs.Steps.{code_alone}
use Rattle.gslib_grid.proofs.Judging.{judged_alone}
use Rattle.gslib_grid.proofs.progress.Progress.row.Goals as goal

pub returns-clause-row : goal.returns-clause-row
returns-clause-row c =
    let wanted = c.args.wanted.now in
    let codes = c.args.codes.now in
    let front = c.args.self.now in
    let digit = c.in-Some.digit in
    let code : c.of_code.result ≡ code_alone (pos digit) = c.of_code.ensures ∙ ap code_alone (to_z-of_z w32 c.from.result (record { sfits = c.from.type_inv }) ∙ c.from.ensures) in
    let room : length front.rows < wanted.most = omega (arith, c.if-wanted-len.false, c.len.ensures.len, ap (λ (f : Front). length f.rows) c.self.view_is) in
    let few : front.variables ≤ 1 = omega (arith, c.if-self-le1.true, ap (λ (f : Front). f.variables) c.self.view_is) in
    c.row_of.ensures.row ∙ ap (λ numbers. checked_numbers codes (c.self.inside.lines + 1) (Some numbers)) code
    ∙ ap (λ (f : Front). checked_numbers codes (f.lines + 1) (Some (code_alone (pos digit)))) c.self.view_is
    ∙ sym (judged_alone wanted codes front c.args.text.now (pos digit) room few (sym c.is_first_alone.ensures ∙ c.if-is_first_alone.true) c.in-Some.ensures.value)
    ∙ ap (judged_row wanted codes front) (sym c.in-Some.ensures.field)
