use Rattle.std.proofs.Common.{subst, Err}
use Rattle.std.proofs.lemmas.Result.{err_from_is_err_and}
use Rattle.mp_params.specs.Params.{ParamsValue}
use Rattle.mp_text.specs.Chain.{◌>>=◌}
use Rattle.mps_inputs.specs.Answers.{Serves, seen}
use Rattle.mps_inputs.specs.Inputs.{read_as}
use Rattle.mps_inputs.proofs.Ending.{inputs_accepted, inputs_refused}
use Rattle.mps_replay.specs.Outcome.{replay_done, schedule_in}
use Rattle.mps_replay.proofs.command.replay_judged.Goals as goal

pub returns : goal.returns
returns g c =
    let before = g.F.Files.seen c.args.files.now in
    let mid = g.F.Files.seen c.read_schedule_file.new.files in
    let out = g.O.Sink.seen c.args.out.now in
    let told = g.O.Sink.seen c.tell_trace.new.out in
    let name = c.args.schedule.now in
    let only = c.in_ok-schedule.ensures.only in
    λ inputs is.
    subst (λ (p : ParamsValue). Serves (λ held. read_as (schedule_in p) name held >>= replay_done inputs) (seen before out) (seen mid told) c.tell_trace.result) is.parameters
    (inputs_accepted (read_as (schedule_in c.args.judged.now.parameters) name) (replay_done inputs) before mid out c.in_ok-schedule.schedule mid told c.in_ok-schedule.ensures.read only.tells_same only.held_same
    only.writes_same c.tell_trace.result (c.tell_trace.ensures mid inputs is))

pub returns-in_err-schedule : goal.returns-in_err-schedule
returns-in_err-schedule g c =
    let before = g.F.Files.seen c.args.files.now in
    let mid = g.F.Files.seen c.read_schedule_file.new.files in
    let out = g.O.Sink.seen c.args.out.now in
    let name = c.args.schedule.now in
    let e = err_from_is_err_and c.from_residual.result c.from_residual.ensures.1 in
    λ inputs is.
    rw (e.1, e.2)
    (subst (λ (p : ParamsValue). Serves (λ held. read_as (schedule_in p) name held >>= replay_done inputs) (seen before out) (seen mid out) (Err c.in_err-schedule.field-0.0)) is.parameters
    (inputs_refused (read_as (schedule_in c.args.judged.now.parameters) name) (replay_done inputs) before mid out c.in_err-schedule.field-0.0 c.in_err-schedule.ensures.fault c.in_err-schedule.ensures.only.held_same))
