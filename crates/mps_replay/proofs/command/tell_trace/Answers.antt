use Rattle.std.proofs.Common.{◌≡◌, ◌∙◌, subst, None, Result, Ok}
use Rattle.mps_inputs.specs.Answers.{Ends, seen}
use Rattle.mps_inputs.specs.Done.{Done}
use Rattle.mps_inputs.specs.Setup.{setup_for}
use Rattle.mps_inputs.specs.declared.fault.Fault.{Fault}
use Rattle.mps_inputs.specs.declared.fault.Fault.TheVariants.{OutOfMemory}
use Rattle.mps_inputs.proofs.Ending.{refused_ends}
use Rattle.mps_inputs.proofs.Told.{report_ends}
use Rattle.mps_replay.specs.Outcome.{replay_done, replay_text}
use Rattle.mps_replay.proofs.command.tell_trace.Goals as goal

pub returns : goal.returns
returns g c =
    let before = g.O.Sink.seen c.args.out.now in
    let now = g.O.Sink.seen c.report.new.out in
    let s = c.args.schedule.now in
    λ files inputs is.
    let text : c.deref.result.now ≡ replay_text inputs.parameters (setup_for inputs) s =
    c.deref.ensures.value ∙ c.in-Ok.ensures ∙ (λ i. replay_text (is.parameters i) (is.setup i) s) in
    let same : Ok (record { output = None; out = c.deref.result.now }) ≡ replay_done inputs s = λ i. Ok (record { output = None; out = text i }) in
    subst (λ (o : Result Done Fault). Ends o (seen files before) (seen files now) c.report.result) same
    (report_ends c.deref.result.now files before now c.report.result c.report.ensures.written c.report.ensures.cause)

pub returns-in_default : goal.returns-in_default
returns-in_default g c = λ files inputs is. refused_ends (replay_done inputs c.args.schedule.now) OutOfMemory files (g.O.Sink.seen c.args.out.now) tt
