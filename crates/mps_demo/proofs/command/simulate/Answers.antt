use Rattle.std.proofs.Common.{◌∙◌, sym, ap, subst, None, Ok}
use Rattle.realisation_out.specs.Report.{report_text}
use Rattle.realisation_out.specs.declared.report.Report.{Report}
use Rattle.mps_inputs.specs.Answers.{Ends, seen}
use Rattle.mps_inputs.proofs.Told.{report_ends}
use Rattle.mps_run.specs.Texts.{counts_of}
use Rattle.mps_demo.proofs.command.simulate.Goals as goal

pub returns : goal.returns
returns g c =
    let judged = c.args.judged in
    let out = g.O.Sink.seen c.args.out.now in
    let told = g.O.Sink.seen c.tell_report.new.out in
    λ files inputs is.
    subst (λ (report : Report). Ends (Ok (record { output = None; out = report_text report })) (seen files out) (seen files told) c.tell_report.result)
    (c.facts_of.ensures inputs is (c.in_ok-counts.ensures ∙ ap (counts_of judged.setup) (sym c.requires.one)))
    (report_ends (report_text c.facts_of.result) files out told c.tell_report.result c.tell_report.ensures.written c.tell_report.ensures.cause)
