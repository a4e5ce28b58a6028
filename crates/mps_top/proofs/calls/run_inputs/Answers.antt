use Rattle.mps_top.proofs.Outcomes.{run_refused}
use Rattle.mps_run.specs.Outcome.{run_of}
use Rattle.mps_inputs.proofs.Ending.{refused_ends}
use Rattle.std.proofs.lemmas.Result.{err_from_is_err_and}
use Rattle.mps_top.proofs.calls.run_inputs.Goals as goal

pub returns : goal.returns
returns g c = c.write_run.ensures c.args.inputs c.in_ok-judged.ensures.judged

pub returns-in_err-judged : goal.returns-in_err-judged
returns-in_err-judged g c =
    let files = g.F.Files.seen c.args.files.now in
    let fault = c.in_err-judged.field-0.0 in
    let e = err_from_is_err_and c.from_residual.result c.from_residual.ensures.1 in
    rw (e.1, e.2)
    (refused_ends (run_of c.args.inputs) fault files (g.O.Sink.seen c.args.out.now) (run_refused c.args.inputs fault c.in_err-judged.ensures.fault))
