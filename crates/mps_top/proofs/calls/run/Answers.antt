use Rattle.mps_inputs.proofs.Ending.{inputs_refused}
use Rattle.std.proofs.lemmas.Result.{err_from_is_err_and}
use Rattle.mps_inputs.specs.Inputs.{inputs_of}
use Rattle.mps_run.specs.Outcome.{run_of}
use Rattle.mps_inputs.proofs.Ending.{inputs_accepted}
use Rattle.mps_top.proofs.calls.run.Goals as goal

pub returns : goal.returns
returns g c =
    let before = g.F.Files.seen c.args.files.now in
    let mid = g.F.Files.seen c.read_inputs.new.files in
    let now = g.F.Files.seen c.run_inputs.new.files in
    let out = g.O.Sink.seen c.args.out.now in
    let told = g.O.Sink.seen c.run_inputs.new.out in
    inputs_accepted (inputs_of c.args.parameters.now) run_of before mid out c.in_ok-inputs.inputs now told c.in_ok-inputs.ensures.read c.in_ok-inputs.ensures.only.tells_same c.in_ok-inputs.ensures.only.held_same
    c.in_ok-inputs.ensures.only.writes_same c.run_inputs.result c.run_inputs.ensures

pub returns-in_err-inputs : goal.returns-in_err-inputs
returns-in_err-inputs g c =
    let before = g.F.Files.seen c.args.files.now in
    let mid = g.F.Files.seen c.read_inputs.new.files in
    let e = err_from_is_err_and c.from_residual.result c.from_residual.ensures.1 in
    rw (e.1, e.2)
    (inputs_refused (inputs_of c.args.parameters.now) run_of before mid (g.O.Sink.seen c.args.out.now) c.in_err-inputs.field-0.0 c.in_err-inputs.ensures.fault c.in_err-inputs.ensures.only.held_same)
