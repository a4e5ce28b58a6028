use Rattle.mps_inputs.proofs.Ending.{served_after, stage_refused}
use Rattle.std.proofs.lemmas.Result.{err_from_is_err_and}
use Rattle.mps_inputs.specs.Inputs.{parameters_in, read_as}
use Rattle.mps_scan.specs.Outcome.{scan_under}
use Rattle.mps_inputs.proofs.Reading.{one_file}
use Rattle.mps_scan.proofs.Scanning.{refused_somewhere}
use Rattle.mps_scan.proofs.command.scan.Goals as goal

pub returns : goal.returns
returns g c =
    let before = g.F.Files.seen c.args.files.now in
    let mid = g.F.Files.seen c.read_parameters.new.files in
    let now = g.F.Files.seen c.scan_under.new.files in
    let out = g.O.Sink.seen c.args.out.now in
    let told = g.O.Sink.seen c.scan_under.new.out in
    let name = c.args.parameters.now in
    let words = c.args.words.now in
    let p = c.in_ok-parameters.parameters in
    let only = c.in_ok-parameters.ensures.only in
    served_after (read_as parameters_in name) (scan_under words) before mid now out told p c.in_ok-parameters.ensures.read only.tells_same only.held_same only.reads_later only.writes_same (one_file parameters_in name)
    (refused_somewhere name words p mid c.scan_under.ensures.params) c.scan_under.result c.scan_under.ensures.serves

pub returns-in_err-parameters : goal.returns-in_err-parameters
returns-in_err-parameters g c =
    let before = g.F.Files.seen c.args.files.now in
    let mid = g.F.Files.seen c.read_parameters.new.files in
    let e = err_from_is_err_and c.from_residual.result c.from_residual.ensures.1 in
    rw (e.1, e.2)
    (stage_refused (read_as parameters_in c.args.parameters.now) (scan_under c.args.words.now) before mid (g.O.Sink.seen c.args.out.now) c.in_err-parameters.field-0.0 c.in_err-parameters.ensures.fault c.in_err-parameters.ensures.only.held_same)
