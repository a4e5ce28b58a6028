use Rattle.std.proofs.lemmas.Result.{err_from_is_err_and}
use Rattle.mps_inputs.specs.Inputs.{inputs_of}
use Rattle.mps_inputs.proofs.Ending.{served_after, stage_refused}
use Rattle.mps_inputs.proofs.Reading.{inputs_stage}
use Rattle.mps_replay.specs.Outcome.{replay_of}
use Rattle.mps_replay.proofs.Schedules.{replay_no_usage}
use Rattle.mps_replay.proofs.command.replay.Goals as goal

pub returns : goal.returns
returns g c =
    let before = g.F.Files.seen c.args.files.now in
    let mid = g.F.Files.seen c.read_inputs.new.files in
    let now = g.F.Files.seen c.replay_inputs.new.files in
    let out = g.O.Sink.seen c.args.out.now in
    let told = g.O.Sink.seen c.replay_inputs.new.out in
    let name = c.args.parameters.now in
    let inputs = c.in_ok-inputs.inputs in
    let only = c.in_ok-inputs.ensures.only in
    served_after (inputs_of name) (replay_of c.args.schedule.now) before mid now out told inputs c.in_ok-inputs.ensures.read only.tells_same only.held_same only.reads_later only.writes_same (inputs_stage name)
    (λ usage. absurd (replay_no_usage c.args.schedule.now inputs usage.0.0 usage.0.1)) c.replay_inputs.result c.replay_inputs.ensures

pub returns-in_err-inputs : goal.returns-in_err-inputs
returns-in_err-inputs g c =
    let before = g.F.Files.seen c.args.files.now in
    let mid = g.F.Files.seen c.read_inputs.new.files in
    let e = err_from_is_err_and c.from_residual.result c.from_residual.ensures.1 in
    rw (e.1, e.2)
    (stage_refused (inputs_of c.args.parameters.now) (replay_of c.args.schedule.now) before mid (g.O.Sink.seen c.args.out.now) c.in_err-inputs.field-0.0 c.in_err-inputs.ensures.fault c.in_err-inputs.ensures.only.held_same)
