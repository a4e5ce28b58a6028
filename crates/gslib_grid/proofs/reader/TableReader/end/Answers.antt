use Rattle.std.proofs.Common.{◌<◌, Ok, length, ap, sym, ◌∙◌, subst, inl, inr, arith}
use Rattle.std.proofs.lemmas.Bool.Decides.{nat_tests}
use Rattle.std.proofs.lemmas.List.{nil_from_length}
use Rattle.std.proofs.lemmas.Result.{err_from_is_err_and}
use Rattle.gslib_grid.specs.Table.{Tells}
use Rattle.gslib_grid.specs.Steps.{with_line}
use Rattle.gslib_grid.specs.Reader.{Reading, WasFed}
use Rattle.gslib_grid.proofs.Feeding.{IsLast, told_before, last_told, last_taken}
use Rattle.gslib_grid.proofs.reader.TableReader.end.Goals as goal
use Rattle.gslib_grid.proofs.reader.TableReader.end.Goals.{then-not-is_empty+in_ok-take_line, else-not-is_empty}

pub returns-in-Some-clause-table : goal.returns-in-Some-clause-table
returns-in-Some-clause-table c want codes bytes fed = told_before want codes _ bytes c.in-Some.error c.in-Some.is (subst (λ (r : Reading). WasFed want codes r bytes) (sym c.self.view_is) fed)

pub returns-in_err-take_line-clause-table : goal.returns-in_err-take_line-clause-table
returns-in_err-take_line-clause-table c want codes bytes fed =
    let e = err_from_is_err_and c.from_residual.result c.from_residual.ensures.1 in
    let was = subst (λ (r : Reading). WasFed want codes r bytes) (sym c.self.view_is) fed in
    let some : 0 < length c.self.inside.begun.items = grind (arith, nat_tests) in
    rw (e.1, e.2)
    (last_told want codes _ bytes c.in_default.is was c.in_err-take_line.field-0.0 some
    (subst (λ begun. Tells c.in_err-take_line.field-0.0 (with_line c.self.inside.wanted c.self.inside.codes c.self.inside.progress begun)) c.deref.ensures.value c.in_err-take_line.ensures.fault))

pub returns-in_err-end-clause-table : goal.returns-in_err-end-clause-table
returns-in_err-end-clause-table c want codes bytes fed =
    let e = err_from_is_err_and c.from_residual-in_err-end.result c.from_residual-in_err-end.ensures.1 in
    let inside = c.self.inside in
    let front = c.if-not-is_empty.progress in
    let was = subst (λ (r : Reading). WasFed want codes r bytes) (sym c.self.view_is) fed in
    let lines : IsLast inside.wanted inside.codes inside.progress inside.begun.items front =
    elim c.if-not-is_empty.branch [
      | then-not-is_empty+in_ok-take_line w ↦
          inr (
            grind (arith, nat_tests),
            ap (with_line inside.wanted inside.codes inside.progress) (sym w.deref.ensures.value) ∙ w.in_ok-take_line.ensures.ok ∙ ap Ok (sym w.progress-is),
          )
      | else-not-is_empty w ↦ inl (nil_from_length inside.begun.items (grind (arith, nat_tests)), w.progress-is)
    ] in
    rw (e.1, e.2) (last_taken want codes _ bytes c.in_default.is was front lines ∙ sym c.in_err-end.ensures)

pub returns-clause-table : goal.returns-clause-table
returns-clause-table c want codes bytes fed =
    let inside = c.self.inside in
    let front = c.if-not-is_empty.progress in
    let was = subst (λ (r : Reading). WasFed want codes r bytes) (sym c.self.view_is) fed in
    let lines : IsLast inside.wanted inside.codes inside.progress inside.begun.items front =
    elim c.if-not-is_empty.branch [
      | then-not-is_empty+in_ok-take_line w ↦
          inr (
            grind (arith, nat_tests),
            ap (with_line inside.wanted inside.codes inside.progress) (sym w.deref.ensures.value) ∙ w.in_ok-take_line.ensures.ok ∙ ap Ok (sym w.progress-is),
          )
      | else-not-is_empty w ↦ inl (nil_from_length inside.begun.items (grind (arith, nat_tests)), w.progress-is)
    ] in
    last_taken want codes _ bytes c.in_default.is was front lines ∙ sym c.in_ok-end.ensures
