use Rattle.mps_scan.proofs.Scanning.{words_refused}
use Rattle.std.proofs.lemmas.Result.{err_from_is_err_and}
use Rattle.std.proofs.Common.{sym, subst, List, Result}
use Rattle.ti_scan.specs.declared.event.Datum.{Datum}
use Rattle.mps_inputs.specs.Answers.{Serves, seen}
use Rattle.mp_text.specs.Chain.{◌>>=◌}
use Rattle.mps_scan.specs.Outcome.{scan_tables}
use Rattle.mps_inputs.specs.declared.fault.Fault.{Fault}
use Rattle.mps_scan.proofs.command.scan_under.Goals as goal

pub returns-clause-serves : goal.returns-clause-serves
returns-clause-serves g c =
    let before = g.F.Files.seen c.args.files.now in
    let now = g.F.Files.seen c.scan_event.new.files in
    let out = g.O.Sink.seen c.args.out.now in
    let told = g.O.Sink.seen c.scan_event.new.out in
    subst (λ (asked : Result (List Datum) Fault). Serves (λ held. asked >>= λ event. scan_tables c.args.words.now.level c.args.parameters event held) (seen before out) (seen now told) c.scan_event.result) (sym c.in_ok-event.ensures.event) c.scan_event.ensures

pub returns-in_err-event-clause-serves : goal.returns-in_err-event-clause-serves
returns-in_err-event-clause-serves g c =
    let e = err_from_is_err_and c.from_residual.result c.from_residual.ensures.1 in
    rw (e.1, e.2)
    (words_refused c.args.words.now c.args.parameters (g.F.Files.seen c.args.files.now) (g.O.Sink.seen c.args.out.now) c.in_err-event.field-0.0 c.in_err-event.ensures.fault)
