use Rattle.std.proofs.Common.{ap, subst, ◌∙◌, Result, Err}
use Rattle.std.proofs.lemmas.Result.{err_from_is_err_and}
use Rattle.realisation_out.specs.Report.{report_text}
use Rattle.realisation_out.specs.declared.report.Report.{Report}
use Rattle.mps_inputs.specs.Answers.{Ends, seen}
use Rattle.mps_inputs.specs.Done.{Done}
use Rattle.mps_inputs.specs.Files.{Reported}
use Rattle.mps_inputs.specs.declared.fault.Fault.{Fault}
use Rattle.mps_inputs.specs.declared.judging.Judged.{Judged}
use Rattle.mps_run.specs.Texts.{counts_of, report_of}
use Rattle.mps_run.proofs.Outcomes.{seen_is}
use Rattle.mps_run.proofs.Written.{run_ends, unwritten}
use Rattle.mps_run.proofs.writing.write_run.Goals as goal

pub returns : goal.returns
returns g c =
    let judged = c.args.judged in
    let before = g.F.Files.seen c.args.files.now in
    let now = g.F.Files.seen c.write_realisations.new.files in
    let out = g.O.Sink.seen c.args.out.now in
    let told = g.O.Sink.seen c.tell_report.new.out in
    λ inputs is.
    subst (λ (o : Result Done Fault). Ends o (seen before out) (seen now told) c.tell_report.result) (seen_is inputs judged is _ c.judged.view_is c.as_str.result.now c.as_str.ensures.text)
    (run_ends c.as_str.result.now _ (report_text (report_of inputs judged.positions.items)) before now c.write_realisations.ensures.only.others
    c.in_ok-counts.ensures.written out told c.tell_report.result
    (subst (λ (report : Report). Reported (report_text report) out told c.tell_report.result)
    (c.facts_of.ensures inputs is (c.in_ok-counts.ensures.counts ∙ ap (λ (j : Judged). counts_of j.setup j.parameters.realisations) c.judged.view_is))
    c.tell_report.ensures.written) c.tell_report.ensures.cause)

pub returns-in_err-counts : goal.returns-in_err-counts
returns-in_err-counts g c =
    let judged = c.args.judged in
    let before = g.F.Files.seen c.args.files.now in
    let now = g.F.Files.seen c.write_realisations.new.files in
    let out = g.O.Sink.seen c.args.out.now in
    let fault = c.in_err-counts.field-0.0 in
    let e = err_from_is_err_and c.from_residual.result c.from_residual.ensures.1 in
    λ inputs is.
    rw (e.1, e.2)
    (subst (λ (o : Result Done Fault). Ends o (seen before out) (seen now out) (Err fault)) (seen_is inputs judged is _ c.judged.view_is c.as_str.result.now c.as_str.ensures.text)
    (unwritten c.as_str.result.now _ (report_text (report_of inputs judged.positions.items)) before now c.write_realisations.ensures.only.others
    out fault c.in_err-counts.ensures.written c.in_err-counts.ensures.cause))
