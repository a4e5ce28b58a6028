use Rattle.std.proofs.Common.{◌≡◌, ◌≢◌, ◌+◌, true, false, eqb, Ok, Err, ap, sym, ◌∙◌}
use Rattle.std.proofs.lemmas.Bool.{eq-eqb, ne_eqb}
use Rattle.std.proofs.lemmas.Result.{err_from_is_err_and, on_ok_weaker}
use Rattle.gslib_grid.specs.Table.{Front, Count}
use Rattle.gslib_grid.specs.Steps.{added_to}
use Rattle.gslib_grid.specs.declared.fault.TableFault.TheVariants.{TooLong}
use Rattle.gslib_grid.proofs.Judging.{with_line_long, with_line_count, with_line_blank, with_line_row}
use Rattle.gslib_grid.proofs.progress.Progress.take_line.Goals as goal

second : (f g : Front) → f ≡ g → f.lines ≡ 1 → eqb g.lines 1 ≡ true
second f g same is = eq-eqb g.lines 1 (ap (λ (h : Front). h.lines) (sym same) ∙ is)

other : (f g : Front) → f ≡ g → f.lines ≢ 1 → eqb g.lines 1 ≡ false
other f g same isnt = ne_eqb g.lines 1 (λ is. isnt (ap (λ (h : Front). h.lines) same ∙ is))

pub returns-then-is_too_long-clause-fault : goal.returns-then-is_too_long-clause-fault
returns-then-is_too_long-clause-fault c =
    with_line_long c.args.wanted.now c.args.codes.now c.args.self.now c.args.line.now (sym c.is_too_long.ensures ∙ c.if-is_too_long.true)
    ∙ ap (λ (f : Front). Err (TooLong (f.lines + 1))) (sym c.self.view_is)

pub returns-in_err-count-clause-fault : goal.returns-in_err-count-clause-fault
returns-in_err-count-clause-fault c =
    let p = err_from_is_err_and c.from_residual.result c.from_residual.ensures.1 in
    rw (p.1, p.2)
    (with_line_count c.args.wanted.now c.args.codes.now c.args.self.now c.args.line.now _ c.line_text-text.ensures _ (sym c.is_too_long.ensures ∙ c.if-is_too_long.false) (second _ _ c.self.view_is c.if-self-eq1.true) c.in_err-count.ensures.count)

pub returns-then-self-eq1-clause-ok : goal.returns-then-self-eq1-clause-ok
returns-then-self-eq1-clause-ok c =
    with_line_count c.args.wanted.now c.args.codes.now c.args.self.now c.args.line.now _ c.line_text-text.ensures _ (sym c.is_too_long.ensures ∙ c.if-is_too_long.false) (second _ _ c.self.view_is c.if-self-eq1.true) c.in_ok-count.ensures.count
    ∙ ap Ok (sym c.pass.ensures)

pub returns-then-not-is_row-clause-ok : goal.returns-then-not-is_row-clause-ok
returns-then-not-is_row-clause-ok c =
    with_line_blank c.args.wanted.now c.args.codes.now c.args.self.now c.args.line.now _ c.line_text-text.ensures (sym c.is_too_long.ensures ∙ c.if-is_too_long.false) (other _ _ c.self.view_is c.if-self-eq1.false) (sym c.is_row.ensures ∙ c.if-not-is_row.true)
    ∙ ap Ok (sym (c.pass-then-not-is_row-2.ensures ∙ ap (λ n. added_to c.args.self.now c.args.line.now (Count n)) (ap (λ (f : Front). f.variables) c.pass-then-not-is_row.view_is)))

pub returns-in-Ok-clause-ok : goal.returns-in-Ok-clause-ok
returns-in-Ok-clause-ok c =
    let told = with_line_row c.args.wanted.now c.args.codes.now c.args.self.now c.args.line.now _ c.line_text-text.ensures _ (sym c.is_too_long.ensures ∙ c.if-is_too_long.false) (other _ _ c.self.view_is c.if-self-eq1.false) (sym c.is_row.ensures ∙ c.if-not-is_row.false) c.in-Ok.ensures.row in
    on_ok_weaker c.take_row.result (λ is. told ∙ ap Ok (sym is)) c.take_row.ensures.ok

pub returns-in-Err-clause-fault : goal.returns-in-Err-clause-fault
returns-in-Err-clause-fault c =
    with_line_row c.args.wanted.now c.args.codes.now c.args.self.now c.args.line.now _ c.line_text-text.ensures _ (sym c.is_too_long.ensures ∙ c.if-is_too_long.false) (other _ _ c.self.view_is c.if-self-eq1.false) (sym c.is_row.ensures ∙ c.if-not-is_row.false) c.in-Err.ensures.row
