use Rattle.mps_inputs.proofs.Ending.{refused_ends}
use Rattle.std.proofs.lemmas.Result.{err_from_is_err_and}
use Rattle.std.proofs.Common.{◌≡◌, sym, ◌∙◌, subst, None, Result, Ok}
use Rattle.mps_inputs.specs.Answers.{Ends, seen}
use Rattle.mps_inputs.specs.Done.{Done}
use Rattle.mps_top.specs.Outcome.{check_of}
use Rattle.mps_inputs.specs.declared.fault.Fault.{Fault}
use Rattle.mps_inputs.proofs.Told.{report_ends}
use Rattle.mps_top.proofs.check.tell_inputs.Goals as goal

pub returns : goal.returns
returns g c =
    let before = g.O.Sink.seen c.args.out.now in
    let now = g.O.Sink.seen c.report.new.out in
    let same : Ok (record { output = None; out = c.deref.result.now }) ≡ check_of c.args.inputs =
    (λ i. Ok (record { output = None; out = c.deref.ensures.value i })) ∙ sym c.in_ok-text.ensures.text in
    λ files.
    subst (λ (o : Result Done Fault). Ends o (seen files before) (seen files now) c.report.result) same
    (report_ends c.deref.result.now files before now c.report.result c.report.ensures.written c.report.ensures.cause)

pub returns-in_err-text : goal.returns-in_err-text
returns-in_err-text g c =
    let e = err_from_is_err_and c.from_residual.result c.from_residual.ensures.1 in
    λ files.
    rw (e.1, e.2)
    (refused_ends (check_of c.args.inputs) c.in_err-text.field-0.0 files (g.O.Sink.seen c.args.out.now) c.in_err-text.ensures.fault)
